use Rattle.std.proofs.Common.{◌≡◌, List, ℕ, map, rules, IsTrue, sym, subst, ◌++◌, [], ◌∷◌}
use Rattle.gate_log.specs.Log.{IsReading}
use Rattle.host_journal.specs.Journal.{IsReplaying}
use Rattle.host_journal.specs.Spelling.{IsOfVersion, Spells, spelling}
use Rattle.host_journal.proofs.Kept.{made_push}
use Rattle.host_journal.proofs.Replay.{one_more}
use Rattle.host_journal.proofs.opening.replay_one.Goals as goal

pub returns-clause-goes_on : goal.returns-clause-goes_on
returns-clause-goes_on g c tells secret events r more =
    let (e, spells, of, can, applied) = c.in_ok-take_up.ensures.applied in
    let file = g.D.Disk.seen c.args.disk.now in
    let new = g.D.Disk.seen c.next_body.new.disk in
    let same : new ≡ file = (c.next_body.ensures.still tells).1 in
    let body = c.next_body.new.body.items in
    let opened : IsTrue c.in_ok-next_body.field-0 = search rules in
    let reading : IsReading new c.next_body.new.self secret (map spelling events ++ body ∷ []) = c.in_ok-next_body.ensures.record tells secret (map spelling events) r.reading opened in
    let spelled : Spells e body = subst (Spells e) c.deref.ensures.0 spells in
    let version : IsOfVersion c.next_body.new.self.version e = subst (λ (v : ℕ). IsOfVersion v e) c.version.ensures.version of in
    let old : IsReplaying new c.args.log.now c.args.host.now.content secret events = subst (λ (f : List ℕ). IsReplaying f c.args.log.now c.args.host.now.content secret events) (sym same) r in
    (e, one_more new c.args.log.now c.next_body.new.self c.args.host.now.content c.take_up.new.host.content secret events body e old c.next_body.ensures.version reading spelled version can applied)

pub returns-clause-made : goal.returns-clause-made
returns-clause-made g c secret events made =
    let (e, spells, of, can, applied) = c.in_ok-take_up.ensures.applied in
    let file = g.D.Disk.seen c.args.disk.now in
    let new = g.D.Disk.seen c.next_body.new.disk in
    let body = c.next_body.new.body.items in
    let opened : IsTrue c.in_ok-next_body.field-0 = search rules in (
      events ++ e ∷ [],
      record {
        of_events = made_push c.args.host.now.content c.take_up.new.host.content secret events e made can applied;
        of_file = λ tells r. (
          (λ more.
              let same : new ≡ file = (c.next_body.ensures.still tells).1 in
              let reading : IsReading new c.next_body.new.self secret (map spelling events ++ body ∷ []) = c.in_ok-next_body.ensures.record tells secret (map spelling events) r.reading opened in
              let spelled : Spells e body = subst (Spells e) c.deref.ensures.0 spells in
              let version : IsOfVersion c.next_body.new.self.version e = subst (λ (v : ℕ). IsOfVersion v e) c.version.ensures.version of in
              let old : IsReplaying new c.args.log.now c.args.host.now.content secret events = subst (λ (f : List ℕ). IsReplaying f c.args.log.now c.args.host.now.content secret events) (sym same) r in
              one_more new c.args.log.now c.next_body.new.self c.args.host.now.content c.take_up.new.host.content secret events body e old c.next_body.ensures.version reading spelled version can applied),
          (λ no. absurd (cc)),
        );
      },
    )
