use Rattle.std.proofs.Common.{rules, arith, suc, None, ◌≡◌, ◌∙◌, ◌-◌, refl}
use Rattle.serving.specs.declared.limits.TheConstants.{MAX_REQUESTS}
use Rattle.serving.proofs.Going.{going_ends, going_on, going_start}
use Rattle.serving.proofs.Hearing.{counts_joined, none_joined}
use Rattle.serving.specs.Served.{with_carry, link_view, tells_of}
use Rattle.serving.specs.Serving.{StandsAt, host_service}
use Rattle.serving.proofs.Lasting.{some_left}
use Rattle.serving.proofs.links.serve_one.Goals as goal

pub loop-end-init : goal.loop-end-init
loop-end-init g c = record {
  going = λ w stands. rw c.new-carry.ensures
      (going_start (host_service g.D.Disk) MAX_REQUESTS g.C.Clock.gives g.C.Clock.faults c.args.clock.now (link_view (tells_of g.L.Source g.L.Sink) c.args.link.now)
      (StandsAt g.D.Disk c.args.serving.now c.args.disk.now) w stands);
  counts = (refl, refl, refl);
  more = search rules;
  clock = search rules;
  disk = search rules;
  honest = (λ h. h, λ h. h);
}

pub returns-in-Some-clause-run : goal.returns-in-Some-clause-run
returns-in-Some-clause-run g c w stands =
    let tells = tells_of g.L.Source g.L.Sink in
    let n = c.loop-end.left - 1 in
    let more : c.loop-end.left ≡ suc n = omega (arith, c.loop-end.invariant.more) in
    let going = c.loop-end.invariant.going w stands in
    going_ends (host_service g.D.Disk) MAX_REQUESTS g.C.Clock.gives g.C.Clock.faults c.args.clock.now c.loop-end.clock c.serve_head.new.clock
    (link_view tells c.args.link.now) (with_carry c.loop-end.carry (link_view tells c.loop-end.link)) (link_view tells c.serve_head.new.link)
    (StandsAt g.D.Disk c.loop-end.serving c.loop-end.disk) (StandsAt g.D.Disk c.serve_head.new.serving c.serve_head.new.disk) n w c.in-Some.end (rw more at going) c.in-Some.ensures.says

pub returns-in-Some-clause-counts : goal.returns-in-Some-clause-counts
returns-in-Some-clause-counts g c =
    let tells = tells_of g.L.Source g.L.Sink in
    let (ending, is_end, counts) = c.in-Some.ensures.counts in
    (ending, is_end, counts_joined (link_view tells c.args.link.now) (link_view tells c.loop-end.link) (link_view tells c.serve_head.new.link) ending c.loop-end.invariant.counts counts)

pub returns-in-Some-clause-empty : goal.returns-in-Some-clause-empty
returns-in-Some-clause-empty g c =
    let (ending, is_end, counts) = c.in-Some.ensures.counts in
    counts.2 ∙ c.loop-end.invariant.counts.2

pub loop-end-preserved : goal.loop-end-preserved
loop-end-preserved g c = record {
  going = λ w stands.
      let tells = tells_of g.L.Source g.L.Sink in
      let n = c.loop-end.left - 1 in
      let more : c.loop-end.left ≡ suc n = omega (arith, c.loop-end.invariant.more) in
      let going = c.loop-end.invariant.going w stands in
      going_on (host_service g.D.Disk) MAX_REQUESTS g.C.Clock.gives g.C.Clock.faults c.args.clock.now c.loop-end.clock c.serve_head.new.clock
      (link_view tells c.args.link.now) (with_carry c.loop-end.carry (link_view tells c.loop-end.link)) (with_carry c.serve_head.new.carry (link_view tells c.serve_head.new.link))
      (StandsAt g.D.Disk c.loop-end.serving c.loop-end.disk) (StandsAt g.D.Disk c.serve_head.new.serving c.serve_head.new.disk) n w (rw more at going) c.in-None.ensures.says;
  counts = none_joined (link_view (tells_of g.L.Source g.L.Sink) c.args.link.now) (link_view (tells_of g.L.Source g.L.Sink) c.loop-end.link) (link_view (tells_of g.L.Source g.L.Sink) c.serve_head.new.link)
      c.loop-end.invariant.counts c.in-None.ensures.counts;
  more = some_left (c.loop-end.left - 1) None refl c.in-None.ensures.ends;
  clock = omega (arith, c.in-None.ensures.clock, c.loop-end.invariant.clock);
  disk = omega (arith, c.in-None.ensures.disk, c.loop-end.invariant.disk);
  honest = (λ h. c.in-None.ensures.honest.0 (c.loop-end.invariant.honest.0 h), λ h. c.loop-end.invariant.honest.1 (c.in-None.ensures.honest.1 h));
}
