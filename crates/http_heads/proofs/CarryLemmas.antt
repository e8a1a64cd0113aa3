-- The bytes of a carry.
use Rattle.std.proofs.Common.{◌≡◌, ℕ, ◌+◌, ◌-◌, ◌≤◌, List, ◌++◌, length, take, drop, Option, Some, None, refl, sym, ap, ◌∙◌, arith, append_assoc, length-drop, zero-add}
use borrow.Rule.Slice.PartMut.{put_mid}
use Rattle.std.proofs.lemmas.Slice.{take-put_mid}
use Rattle.std.proofs.lemmas.List.{take-take, drop-take, take_at, length-take-le}
use Rattle.std.proofs.Math.Seq.{take-append-add}
use Rattle.std.specs.List.{copy_within}
use Rattle.std.specs.Io.KnownBytes.{Keeps, Consumes, prepend_known}

-- the first n of what was read come after the first a
pub take-put_part : (a k n : ℕ) (xs ys : List ℕ) → a ≤ length xs → n ≤ length ys → take (a + n) (put_mid a k xs ys) ≡ take a xs ++ take n ys
take-put_part a k n xs ys h l =
    let whole = take-put_mid a k xs ys (a + length ys) refl h in
    let front : length (take a xs) ≡ a = length-take-le a xs h in
    sym (take-take (a + n) (a + length ys) (put_mid a k xs ys) (omega arith))
    ∙ ap (take (a + n)) whole
    ∙ ap (λ m. take (m + n) (take a xs ++ ys)) (sym front)
    ∙ take-append-add (take a xs) ys n

-- what a read gave goes after the bytes that were there
pub Keeps-read : (a b : Option (List ℕ)) (old new front : List ℕ) → Consumes a b new → front ≡ old ++ new → Keeps (prepend_known old a) (prepend_known front b)
Keeps-read None b old new front p e = tt
Keeps-read (Some x) None old new front p e = absurd p
Keeps-read (Some x) (Some y) old new front p e = rw (e, p) (append_assoc old new y)

-- the bytes that are left move to the front
pub take-copied : (xs : List ℕ) (n m : ℕ) → n ≤ m → m ≤ length xs → take (m - n) (copy_within xs n m 0) ≡ drop n (take m xs)
take-copied xs n m h l =
    let split : n + (m - n) ≡ m = omega arith in
    let size : length (take (m - n) (drop n xs)) ≡ m - n = omega (arith, length-take-le (m - n) (drop n xs) (omega (arith, length-drop n xs))) in
    ap (λ k. take (m - n) (take (m - n) (drop n xs) ++ drop k xs)) (zero-add (m - n))
    ∙ take_at (take (m - n) (drop n xs)) (drop (m - n) xs) (m - n) size
    ∙ sym (drop-take n (m - n) xs)
    ∙ ap (λ k. drop n (take k xs)) split
