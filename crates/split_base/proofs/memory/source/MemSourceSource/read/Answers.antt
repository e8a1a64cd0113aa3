use Rattle.std.proofs.Common.{rules}
use Rattle.std.proofs.lemmas.List.{take_rest}
use Rattle.split_base.proofs.KnownBytes.{copied}
use Rattle.split_base.proofs.memory.source.MemSourceSource.read.Goals as goal

-- the copied bytes are the front of those that are left
pub returns-clause-bytes : goal.returns-clause-bytes
returns-clause-bytes c =
    let copy = c.copy_front-count in
    let fields = c.self.inside in
    rw (← c.self.view_is)
    (copied fields.bytes.items c.args.into.now copy.new.into fields.at copy.result c.next-most.result
    (rw (take_rest, c.deref.ensures.value) at copy.ensures.count) (search rules) c.next-most.ensures.some (rw (take_rest, c.deref.ensures.value) at copy.ensures.bytes))
