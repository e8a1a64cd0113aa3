use Rattle.std.proofs.Common.{◌+◌, length, refl, sym, subst, ap, ◌∙◌}
use Rattle.split_base.specs.Past.{DiskState, Wrote, seen_of, images_at, moment_of, left_of, after_call, after_fault, after_act}
use Rattle.split_base.specs.Disk.{MayTear, IsWritten, IsSameOutside}
use Rattle.split_base.proofs.KeptDisk.{write_written, write_tears}
use Rattle.split_base.proofs.SameOutside.{rests_stays, write_stays}
use Rattle.split_base.proofs.memory.disk.MemDiskDisk.write_at.Goals as goal

pub returns-clause-written : goal.returns-clause-written
returns-clause-written c =
    let d = c.args.self.now in
    let place = c.args.place in
    let bytes = c.args.bytes.now in
    let P : DiskState → Type 0 = λ e. IsWritten (seen_of d) place bytes (seen_of e) in
    let Q : DiskState → Type 0 = λ m. P (after_act m (Wrote place bytes) (length bytes + 32)) in
    subst P (sym c.put.ensures) (subst Q (sym c.begin.ensures.after) (write_written d place bytes (length bytes + 32)))

pub returns-clause-tears : goal.returns-clause-tears
returns-clause-tears c =
    let d = c.args.self.now in
    let place = c.args.place in
    let bytes = c.args.bytes.now in
    let P : DiskState → Type 0 = λ e. MayTear images_at moment_of left_of place (length bytes) d e in
    let Q : DiskState → Type 0 = λ m. P (after_act m (Wrote place bytes) (length bytes + 32)) in
    subst P (sym c.put.ensures) (subst Q (sym c.begin.ensures.after) (write_tears d place bytes (length bytes + 32)))

pub returns-then-begin-clause-stays : goal.returns-then-begin-clause-stays
returns-then-begin-clause-stays c end stable =
    let d = c.args.self.now in
    let P : DiskState → Type 0 = λ e. IsSameOutside c.args.place (length c.args.bytes.now) end (seen_of d) (seen_of e) in
    let same = rests_stays d (after_fault (after_call d)) c.args.place (length c.args.bytes.now) end refl refl stable in
    subst P (sym (c.fail.ensures.after ∙ ap after_fault c.begin.ensures.after)) same

pub returns-clause-stays : goal.returns-clause-stays
returns-clause-stays c end stable =
    let d = c.args.self.now in
    let place = c.args.place in
    let bytes = c.args.bytes.now in
    let P : DiskState → Type 0 = λ e. IsSameOutside place (length bytes) end (seen_of d) (seen_of e) in
    let Q : DiskState → Type 0 = λ m. P (after_act m (Wrote place bytes) (length bytes + 32)) in
    subst P (sym c.put.ensures) (subst Q (sym c.begin.ensures.after) (write_stays d place bytes (length bytes + 32) end stable))
