-- Puts one after another, and a text that was put whole.
use Rattle.std.proofs.Common.{◌≡◌, ◌<◌, ◌≤◌, ◌^◌, ◌++◌, ℕ, List, [], length, take, ap, sym, ◌∙◌, refl, append_assoc, append-nil, arith}
use Rattle.std.proofs.Math.Seq.{take-append_seam}
use Rattle.std.proofs.lemmas.List.{length-append}
use Rattle.certificates.specs.Puts.{Puts}

-- the second of two puts goes on where the first ended
pub puts_two : (a b : List ℕ) (used : ℕ) (old mid new : List ℕ) (m end : ℕ) → Puts a used old mid m → Puts b m mid new end → Puts (a ++ b) used old new end
puts_two a b used old mid new m end first second =
    let same = first.0 in
    let both = length-append a b in (
      second.0 ∙ first.0,
      λ small.
          let one = first.1 (omega (arith, small, both)) in
          let at = one.0 in
          let two = second.1 (omega (arith, small, both, at)) in
          let is = two.0 in (
            (omega (arith, both, at, is)),
            λ fits.
                two.1 (omega (arith, fits, both, at, same)) ∙ ap (λ xs. xs ++ b) (one.1 (omega (arith, fits, both))) ∙ append_assoc (take used old) a b,
          ),
    )

-- no bytes
pub puts_nothing : (used : ℕ) (old : List ℕ) → Puts [] used old old used
puts_nothing used old = (refl, λ small. ((omega arith), λ fits. sym (append-nil (take used old))))

-- what has room in a buffer stands at its front
pub written_front : (text old new rest : List ℕ) (size count room : ℕ) → length text < 2 ^ 64 → count ≡ length old → count ≡ room → Puts text 0 old new size → size ≤ room
    → take size (take count (new ++ rest)) ≡ text
written_front text old new rest size count room small all is put fits =
    let at = put.1 (omega (arith, small)) in
    let end = at.0 in
    ap (λ (xs : List ℕ). take size xs) (ap (λ (n : ℕ). take n (new ++ rest)) (all ∙ sym put.0) ∙ take-append_seam new rest) ∙ at.1 (omega (arith, end, fits, all, is))
