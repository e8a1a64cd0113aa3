use Rattle.std.proofs.Common.{length}
use Rattle.split_base.specs.Disk.{Tears}
use Rattle.split_base.specs.PastLaws.{torn_none}
use Rattle.split_base.proofs.Moments.{started, goes_on}
use Rattle.split_base.proofs.disk.write_synced.Goals as goal

pub returns-in_err-write_at-clause-any_moment : goal.returns-in_err-write_at-clause-any_moment
returns-in_err-write_at-clause-any_moment g c honest =
    let old = c.args.disk.now in
    let P = Tears (g.D.Disk.images old) c.args.place (length c.args.bytes.now) in
    let start = started g.D.Disk.moment g.D.Disk.left_since old P (λ f left. (f, g.met.D.Disk.only_now old f honest left, torn_none _ _ f)) in
    goes_on g.D.Disk.moment g.D.Disk.left_since old old c.write_at.new.self P _ start (c.write_at.ensures.tears honest).time (c.write_at.ensures.tears honest).crash

pub returns-clause-any_moment : goal.returns-clause-any_moment
returns-clause-any_moment g c honest =
    let old = c.args.disk.now in
    let P = Tears (g.D.Disk.images old) c.args.place (length c.args.bytes.now) in
    let start = started g.D.Disk.moment g.D.Disk.left_since old P (λ f left. (f, g.met.D.Disk.only_now old f honest left, torn_none _ _ f)) in
    let torn = goes_on g.D.Disk.moment g.D.Disk.left_since old old c.write_at.new.self P _ start (c.write_at.ensures.tears honest).time (c.write_at.ensures.tears honest).crash in
    let then_honest = c.write_at.ensures.honest.0 honest in
    goes_on g.D.Disk.moment g.D.Disk.left_since old c.write_at.new.self c.sync.new.self P _ torn (c.sync.ensures.rests then_honest).time
    (c.write_at.ensures.tears honest).crash
