use Rattle.std.proofs.Common.{◌≡◌, ◌+◌, ◌≤◌, ℕ, List, [], ◌++◌, length, take, drop, arith, ap, ◌∙◌, rules}
use Rattle.std.proofs.lemmas.List.{take_all, drop_all, append-nil}
use Rattle.split_base.proofs.KeptDisk.{over_grown, over_is_written}
use Rattle.split_base.proofs.memory.disk.write_over.Goals as goal

pub returns-clause-ok : goal.returns-clause-ok
returns-clause-ok c =
    let old = c.args.file.now.items in
    let place = c.args.place in
    let bytes = c.args.bytes.now in
    let grown = c.grow.new.file in
    let new = c.copy_to.new.file in
    let size : length new ≡ grown.len = omega (arith, c.copy_to.auto.file, c.deref_mut.ensures.len) in
    let end : c.in-Some.end ≡ place + length bytes = omega (arith, c.in-Some.ensures) in
    let nothing : drop (length new) grown.items ≡ [] = drop_all (length new) grown.items (omega (arith, size, grown.ok.0)) in
    let some : 1 ≤ length bytes = search rules in
    let put : List ℕ → List ℕ = λ (l : List ℕ). take place l ++ bytes ++ drop (place + length bytes) l in
    ap (λ (l : List ℕ). take grown.len (new ++ l)) nothing
    ∙ ap (λ (l : List ℕ). take grown.len l) (append-nil new)
    ∙ take_all grown.len new (omega (arith, size))
    ∙ c.copy_to.ensures
    ∙ ap put (c.deref_mut.ensures.value ∙ c.in_ok-grow.ensures.ok)
    ∙ over_grown old bytes place c.in-Some.end end
    ∙ over_is_written old bytes place some
