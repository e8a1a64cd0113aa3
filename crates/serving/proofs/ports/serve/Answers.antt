use Rattle.std.proofs.Common.{rules, arith, ◌≡◌, refl, inl, inr, ap, ◌∙◌, Ok}
use Rattle.serving.proofs.Porting.{ports_on, ports_start, ports_stay}
use Rattle.serving.specs.Served.{tells_of}
use Rattle.serving.specs.Serving.{host_service}
use Rattle.serving.proofs.ports.serve.Goals as goal

pub loop-served-init : goal.loop-served-init
loop-served-init g c = record {
  so_far = λ w stands. ports_start (host_service g.D.Disk) (tells_of g.P.Link.Source g.P.Link.Sink) _ _ _ _ _ _ _ w stands;
  places = search rules;
  out = search rules;
  goes_on = search rules;
  asked = refl;
  faults = refl;
  clock = search rules;
  disk = search rules;
  honest = (λ h. h, λ h. h);
}

pub returns-in-Err-clause-run : goal.returns-in-Err-clause-run
returns-in-Err-clause-run g c w stands = (
  c.loop-served.served,
  omega (arith, c.loop-served.auto),
  inr (refl, omega (arith, c.loop-served-test.true)),
  ports_stay (host_service g.D.Disk) (tells_of g.P.Link.Source g.P.Link.Sink) _ _ _ _ _ _ _ _ _ w _ c.accept.result (c.loop-served.invariant.so_far w stands) c.accept.ensures.next (inr (c.in-Err.field-0, c.in-Err.is)) c.accept.ensures.back,
)

pub returns-in-Ok-None-clause-run : goal.returns-in-Ok-None-clause-run
returns-in-Ok-None-clause-run g c w stands = (
  c.loop-served.served,
  omega (arith, c.loop-served.auto),
  inl refl,
  ports_stay (host_service g.D.Disk) (tells_of g.P.Link.Source g.P.Link.Sink) _ _ _ _ _ _ _ _ _ w _ c.accept.result (c.loop-served.invariant.so_far w stands) c.accept.ensures.next
      (inl (c.in-Ok-None.is ∙ ap Ok c.in-Ok-None.field-0-is)) c.accept.ensures.back,
)

pub loop-served-preserved : goal.loop-served-preserved
loop-served-preserved g c = record {
  so_far = λ w stands.
      ports_on (host_service g.D.Disk) (tells_of g.P.Link.Source g.P.Link.Sink) _ _ _ _ _ _ _ _ _ _ _ _ _ _ _ _ _ w _ c.in-Ok-Some.link c.accept.result (c.loop-served.invariant.so_far w stands) c.accept.ensures.next
      (c.in-Ok-Some.is ∙ ap Ok c.in-Ok-Some.field-0-is) (c.accept.ensures.places ∙ c.loop-served.invariant.places) c.serve_link.ensures.come c.accept.ensures.back
      c.serve_link.ensures.served;
  places = omega (arith, c.serve_link.ensures.places, c.accept.ensures.places, c.loop-served.invariant.places);
  out = search rules;
  goes_on = search rules;
  asked = c.serve_link.ensures.asked ∙ c.accept.ensures.asked ∙ c.loop-served.invariant.asked;
  faults = c.serve_link.ensures.faults ∙ c.in-Ok-Some.ensures.count ∙ c.loop-served.invariant.faults;
  clock = omega (arith, c.serve_link.ensures.clock, c.loop-served.invariant.clock);
  disk = omega (arith, c.serve_link.ensures.disk, c.loop-served.invariant.disk);
  honest = (λ h. c.serve_link.ensures.honest.0 (c.loop-served.invariant.honest.0 h), λ h. c.loop-served.invariant.honest.1 (c.serve_link.ensures.honest.1 h));
}

pub returns-clause-run : goal.returns-clause-run
returns-clause-run g c w stands =
    let all : c.loop-served.served ≡ c.args.count = omega (arith, c.loop-served-test.false, c.loop-served.auto) in
    let served = c.loop-served.invariant.so_far w stands in
    (c.args.count, omega arith, inl refl, rw all at served)
