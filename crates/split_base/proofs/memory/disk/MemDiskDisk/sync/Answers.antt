use Rattle.std.proofs.Common.{sym, subst}
use Rattle.split_base.specs.Past.{DiskState, Synced, seen_of, images_at, moment_of, left_of, after_act}
use Rattle.split_base.specs.Disk.{Rests, Only}
use Rattle.split_base.specs.Disk.{Only}
use Rattle.split_base.proofs.KeptDisk.{sync_rests, sync_durable}
use Rattle.split_base.proofs.memory.disk.MemDiskDisk.sync.Goals as goal

pub returns-clause-durable : goal.returns-clause-durable
returns-clause-durable c =
    let d = c.args.self.now in
    let P : DiskState → Type 0 = λ e. Only (seen_of d) (images_at e) in
    let Q : DiskState → Type 0 = λ m. P (after_act m Synced 32) in
    subst P (sym c.settle.ensures) (subst Q (sym c.begin.ensures.after) (sync_durable d 32))

pub returns-clause-rests : goal.returns-clause-rests
returns-clause-rests c =
    let d = c.args.self.now in
    let P : DiskState → Type 0 = λ e. Rests seen_of images_at moment_of left_of d e in
    let Q : DiskState → Type 0 = λ m. P (after_act m Synced 32) in
    subst P (sym c.settle.ensures) (subst Q (sym c.begin.ensures.after) (sync_rests d 32))

pub returns-clause-still : goal.returns-clause-still
returns-clause-still c = (tt, (returns-clause-rests c).same)
