use Rattle.std.proofs.Common.{sym, ap, subst, ◌∙◌}
use Rattle.split_base.specs.Disk.{Tears}
use Rattle.split_lemmas.proofs.Moments.{weaker}
use Rattle.gate_log.specs.Records.{Stands, HoldsRecords}
use Rattle.gate_log.specs.Log.{LogView}
use Rattle.gate_log.proofs.Crash.{torn_version, written_version}
use Rattle.gate_log.proofs.log.Log.raise.Goals as goal

pub returns-in_err-write_synced-clause-any_moment : goal.returns-in_err-write_synced-clause-any_moment
returns-in_err-write_synced-clause-any_moment g c honest secret bodies log =
    weaker g.D.Disk.moment g.D.Disk.left_since c.args.disk.now c.write_synced.new.disk (Tears (g.D.Disk.images c.args.disk.now) 48 1) (HoldsRecords secret bodies)
    (c.write_synced.ensures.any_moment honest) (λ f (d, was, torn). torn_version secret bodies c.args.self.now.version d f (log.each d was) torn)

pub returns-in_err-write_synced-clause-after : goal.returns-in_err-write_synced-clause-after
returns-in_err-write_synced-clause-after g c honest secret bodies log f left =
    let (d, was, torn) = c.write_synced.ensures.crash honest f left in
    torn_version secret bodies c.args.self.now.version d f (log.each d was) torn

pub returns-clause-any_moment : goal.returns-clause-any_moment
returns-clause-any_moment g c honest secret bodies log =
    weaker g.D.Disk.moment g.D.Disk.left_since c.args.disk.now c.write_synced.new.disk (Tears (g.D.Disk.images c.args.disk.now) 48 1) (HoldsRecords secret bodies)
    (c.write_synced.ensures.any_moment honest) (λ f (d, was, torn). torn_version secret bodies c.args.self.now.version d f (log.each d was) torn)

pub returns-clause-after : goal.returns-clause-after
returns-clause-after g c honest secret bodies log f left =
    let (d, was, torn) = c.write_synced.ensures.crash honest f left in
    torn_version secret bodies c.args.self.now.version d f (log.each d was) torn

pub returns-clause-raised : goal.returns-clause-raised
returns-clause-raised g c honest secret bodies log =
    let old = g.D.Disk.seen c.args.disk.now in
    let new = g.D.Disk.seen c.write_synced.new.disk in
    let stands : Stands 2 secret bodies new =
    written_version secret bodies c.args.self.now.version old new (log.each old (g.met.D.Disk.seen_is_image c.args.disk.now honest)) (c.in_ok-write_synced.ensures.written honest) in
    record {
      each = λ f left. subst (Stands 2 secret bodies) (sym (c.in_ok-write_synced.ensures.durable honest f left)) stands;
      place = ap (λ (v : LogView). v.place) c.self.view_is ∙ log.place;
    }
