-- What is read so far against all the bytes of a source, for texts of whatever kind.
use Rattle.std.proofs.Common.{◌≡◌, ℕ, ◌+◌, ◌-◌, ◌<◌, List, [], ◌++◌, length, take, Option, Some, None, IfSome, sym, ap, ◌∙◌, arith, length-append, append-nil, subst}
use Rattle.std.proofs.lemmas.List.{take_at}
use Rattle.std.proofs.Math.Seq.{take-append-add}
use Rattle.std.specs.Io.KnownBytes.{IsAtEnd, prepend_known}
use Rattle.http_heads.specs.declared.limits.TheConstants.{MAX_HEAD}
use Rattle.http_heads.specs.Search.{HasNone, IsBad, NeverHasOne}

-- no text of any length, so none of at most so many bytes
pub bad_short : (T : List ℕ → Type 0) (bytes : List ℕ) → 0 < length bytes → HasNone T bytes → IsBad T bytes
bad_short T bytes some none = record { some = some; none = λ text rest is short. none text rest is }

-- a text that the first bytes hold is one of all
pub bad_long : (T : List ℕ → Type 0) (bytes more : List ℕ) → length bytes ≡ MAX_HEAD → HasNone T bytes → IsBad T (bytes ++ more)
bad_long T bytes more size none = record {
  some = omega (arith, size, length-append bytes more);
  none = λ text rest is_text short is.
      let split : MAX_HEAD ≡ length text + (MAX_HEAD - length text) = omega (arith, short) in
      let front : bytes ≡ text ++ take (MAX_HEAD - length text) rest =
      sym (take_at bytes more MAX_HEAD size) ∙ ap (take MAX_HEAD) is ∙ ap (λ n. take n (text ++ rest)) split ∙ take-append-add text rest (MAX_HEAD - length text) in
      none text (take (MAX_HEAD - length text) rest) is_text front;
}

-- as many bytes as a head may have, and no head
pub bad_full : (T : List ℕ → Type 0) (bytes : List ℕ) → length bytes ≡ MAX_HEAD → HasNone T bytes → IsBad T bytes
bad_full T bytes size none = subst (IsBad T) (append-nil bytes) (bad_long T bytes [] size none)

pub bad_full_left : (T : List ℕ → Type 0) (bytes : List ℕ) (left : Option (List ℕ)) → length bytes ≡ MAX_HEAD → HasNone T bytes → IfSome (prepend_known bytes left) (IsBad T)
bad_full_left T bytes None size none = tt
bad_full_left T bytes (Some more) size none = bad_long T bytes more size none

-- a look that says never
pub bad_never : (T : List ℕ → Type 0) (bytes : List ℕ) → 0 < length bytes → NeverHasOne T bytes → IsBad T bytes
bad_never T bytes some never = bad_short T bytes some (subst (HasNone T) (append-nil bytes) (never []))

pub bad_never_left : (T : List ℕ → Type 0) (bytes : List ℕ) (left : Option (List ℕ)) → 0 < length bytes → NeverHasOne T bytes → IfSome (prepend_known bytes left) (IsBad T)
bad_never_left T bytes None some never = tt
bad_never_left T bytes (Some more) some never = bad_short T (bytes ++ more) (omega (arith, length-append bytes more)) (never more)

-- the end of input, and no head before it
pub bad_end : (T : List ℕ → Type 0) (bytes : List ℕ) (left : Option (List ℕ)) → IsAtEnd left → 0 < length bytes → HasNone T bytes → IfSome (prepend_known bytes left) (IsBad T)
bad_end T bytes None end some none = tt
bad_end T bytes (Some more) end some none =
    subst (IsBad T) (sym (ap (λ z. bytes ++ z) end ∙ append-nil bytes)) (bad_short T bytes some none)

-- the end of input, and no byte before it
pub none_left : (bytes : List ℕ) (left : Option (List ℕ)) → IsAtEnd left → bytes ≡ [] → IfSome (prepend_known bytes left) (λ all. all ≡ [])
none_left bytes None end none = tt
none_left bytes (Some more) end none = ap (λ z. z ++ more) none ∙ end
