use Rattle.std.proofs.Common.{◌≡◌, ◌⊎◌, ◌+◌, inr, [], ◌∷◌, rules}
use Rattle.split_lemmas.proofs.Moments.{weaker}
use Rattle.gate_log.specs.Records.{HoldsRecords}
use Rattle.host_journal.specs.Journal.{HoldsFrom}
use Rattle.split_base.specs.Disk.{IsWritten}
use Rattle.host_journal.proofs.Raised.{ok_both, still_torn, still_writes}
use Rattle.host_journal.proofs.Replay.{raised_from}
use Rattle.host_journal.proofs.opening.to_version_two.Goals as goal

pub returns-clause-any_moment : goal.returns-clause-any_moment
returns-clause-any_moment g c honest secret bodies log =
    let one : c.args.log.now.version ≡ 1 = search rules in
    weaker g.D.Disk.moment g.D.Disk.left_since c.args.disk.now c.raise.new.disk (HoldsRecords secret bodies) (HoldsFrom c.args.log.now.version secret bodies) (c.raise.ensures.any_moment honest secret bodies log)
    (λ f. raised_from c.args.log.now.version secret bodies f one)

pub returns-clause-after : goal.returns-clause-after
returns-clause-after g c honest secret bodies log f now =
    let one : c.args.log.now.version ≡ 1 = search rules in
    raised_from c.args.log.now.version secret bodies f one (c.raise.ensures.after honest secret bodies log f now)

pub returns-then-version-eq2-clause-writes : goal.returns-then-version-eq2-clause-writes
returns-then-version-eq2-clause-writes g c honest = still_writes g.D.Disk.images g.D.Disk.moment g.D.Disk.left_since c.args.disk.now (λ f left. g.met.D.Disk.only_now c.args.disk.now f honest left)

pub returns-then-version-eq2-clause-torn : goal.returns-then-version-eq2-clause-torn
returns-then-version-eq2-clause-torn g c honest = still_torn (g.D.Disk.images c.args.disk.now)

pub returns-clause-done : goal.returns-clause-done
returns-clause-done g c honest =
    let one : c.args.log.now.version ≡ 1 = search rules in
    let old = c.args.disk.now in
    let new = c.raise.new.disk in
    let written = IsWritten (g.D.Disk.seen old) 48 (1 ∷ []) (g.D.Disk.seen new) in
    let two = g.D.Disk.moment new ≡ g.D.Disk.moment old + 2 in
    ok_both c.raise.result written two ((new ≡ old) ⊎ ((c.args.log.now.version ≡ 1) × written × two)) (c.raise.ensures.written honest) (c.raise.ensures.tick honest) (λ w t. inr (one, w, t))

pub returns-clause-torn : goal.returns-clause-torn
returns-clause-torn g c honest f now =
    let old = c.args.disk.now in
    let new = c.raise.new.disk in
    let writes = c.raise.ensures.writes honest in
    writes.each f (g.met.D.Disk.counts_now new (g.D.Disk.moment old) f (c.raise.ensures.honest.0 honest) writes.later now)
