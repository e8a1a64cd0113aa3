use Rattle.std.proofs.Common.{refl, ap, ◌∙◌, Ok, Some}
use Rattle.gate_log.specs.Calls.{counted_by}
use Rattle.host_journal.proofs.KeptEvents.{was_kept, was_lost}
use Rattle.host_journal.proofs.keeping.keep.Goals as goal

pub returns-in-Ok-clause-kept : goal.returns-in-Ok-clause-kept
returns-in-Ok-clause-kept g c s stands =
    was_kept g.D.Disk c.args.serving.now _ c.args.disk.now c.commit.new.disk s stands _ (Ok (tt {0})) c.commit.ensures.honest c.commit.ensures.count c.requires.ready
    refl c.in-Ok.ensures.faults c.requires.ready (c.in-Ok.ensures.made s.secret s.kept stands.host) c.in-Ok.ensures.tick c.in-Ok.ensures.acknowledged c.commit.ensures.any_moment

pub returns-in-Disk-clause-kept : goal.returns-in-Disk-clause-kept
returns-in-Disk-clause-kept g c s stands =
    was_lost g.D.Disk c.args.serving.now _ c.args.disk.now c.commit.new.disk s stands _ _ c.commit.ensures.honest c.commit.ensures.count c.requires.ready
    refl (c.in-Err.ensures.faults ∙ ap (counted_by (g.D.Disk.faults c.args.disk.now)) c.in-Disk.is) (ap Some c.in-Err.ensures.given_back) c.in-Err.ensures.unchanged c.requires.can c.commit.ensures.after c.commit.ensures.any_moment
