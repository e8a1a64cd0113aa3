-- The bytes of a body.
use Rattle.std.proofs.Common.{ℕ, List, ◌++◌, take, drop, Option, None, Some, sym, ap, ◌∙◌, append_assoc, append-nil, take-append-drop}
use Rattle.std.specs.Io.KnownBytes.{Keeps, Consumes, IsAtEnd, prepend_known}
use Rattle.std.proofs.KnownBytes.{Consumes-trans}
use Rattle.split_http.specs.Turns.{IsToldAs}

-- the first bytes of the carry were taken
consumed : (a b : Option (List ℕ)) (bytes : List ℕ) (n : ℕ) → Keeps a (prepend_known bytes b) → Consumes a (prepend_known (drop n bytes) b) (take n bytes)
consumed None b bytes n p = tt
consumed (Some x) None bytes n p = absurd p
consumed (Some x) (Some y) bytes n p = sym p ∙ ap (λ l. l ++ y) (sym (take-append-drop n bytes)) ∙ append_assoc (take n bytes) (drop n bytes) y

-- more of the bytes were taken
pub consumed_more : (a b c : Option (List ℕ)) (xs bytes : List ℕ) (n : ℕ) → Consumes a b xs → Keeps b (prepend_known bytes c)
    → Consumes a (prepend_known (drop n bytes) c) (xs ++ take n bytes)
consumed_more a b c xs bytes n p q = Consumes-trans a b _ xs (take n bytes) p (consumed b c bytes n q)

-- what was taken up to the end is all
pub all_taken : (a b c : Option (List ℕ)) (xs : List ℕ) → Consumes a b xs → Keeps b c → IsAtEnd c → IsToldAs a xs
all_taken None b c xs p q end = tt
all_taken (Some x) None c xs p q end = absurd p
all_taken (Some x) (Some y) None xs p q end = absurd q
all_taken (Some x) (Some y) (Some z) xs p q end = sym (p ∙ ap (λ l. xs ++ l) (sym q ∙ end) ∙ append-nil xs)
