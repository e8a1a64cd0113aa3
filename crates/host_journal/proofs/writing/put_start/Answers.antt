use Rattle.std.proofs.Common.{◌≡◌, ◌∙◌, ℕ, List, [], ◌∷◌, ◌++◌, ap, append_assoc, rules}
use Rattle.std.specs.Int.{to_le_bytes, w32, w64}
use Rattle.host_journal.proofs.writing.put_start.Goals as goal

pub returns-clause-bytes : goal.returns-clause-bytes
returns-clause-bytes c =
    let old : List ℕ = c.args.body.now.items in
    let first : List ℕ = c.args.kind ∷ [] in
    let second : List ℕ = to_le_bytes w64 c.args.moment in
    let third : List ℕ = to_le_bytes w32 c.args.id in
    let one : c.put.new.body.items ≡ old ++ first = search rules in
    let two : c.put-2.new.body.items ≡ c.put.new.body.items ++ second = search rules in
    let three : c.put-3.new.body.items ≡ c.put-2.new.body.items ++ third = search rules in
    three ∙ ap (λ (t : List ℕ). t ++ third) (two ∙ ap (λ (t : List ℕ). t ++ second) one) ∙ append_assoc (old ++ first) second third ∙ append_assoc old first (second ++ third)
