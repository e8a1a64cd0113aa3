-- The first segment of a path, and the bytes before its slash.
use Rattle.std.proofs.Common.{◌≡◌, ℕ, zero, suc, ◌+◌, ◌-◌, ◌<◌, ◌==◌, ◌&&◌, ◌⊎◌, inl, inr, nat_eq, ltb, List, [], ◌∷◌, ◌++◌, length, drop, take, Bool, true, false, cond, refl, ap, arith, length-append, length-take-le}
use Rattle.std.proofs.lemmas.Bool.Decides.{nat_tests}
use Rattle.std.proofs.Math.Seq.{drop-append_seam}
use Rattle.std.specs.List.{ends_with}
use Rattle.std.specs.Cmp.Lexicographic.{pointwise}
use Rattle.matchit.specs.Seek.{segment, has_slash, cuts}
use Rattle.split_http.specs.Places.{id_len}

-- the first slash of the bytes and the segment that it ends
pub record SlashAt (q : List ℕ) : Type 0 where
  pub slash : has_slash q ≡ true
  pub segment_is : segment q ≡ take (id_len q) q ++ 47 ∷ []
  pub within : id_len q < length q

-- the bytes have no slash and are one segment
pub record NoSlash (q : List ℕ) : Type 0 where
  pub slash : has_slash q ≡ false
  pub segment_is : segment q ≡ q
  pub all : id_len q ≡ length q

-- a slash is in the bytes or none is
pub slash_or_none : (q : List ℕ) → SlashAt q ⊎ NoSlash q
slash_or_none [] = inr (record { slash = refl; segment_is = refl; all = refl })
slash_or_none (b ∷ q) = by (b == 47) refl (slash_or_none q)
  where
    by : (v : Bool) → (b == 47) ≡ v → SlashAt q ⊎ NoSlash q → SlashAt (b ∷ q) ⊎ NoSlash (b ∷ q)
    by true e ih =
        let is : b ≡ 47 = grind (arith, nat_tests) in
        inl (record { slash = rw e; segment_is = rw e (ap (λ z. z ∷ []) is); within = rw e (omega arith) })
    by false e (inl s) =
        let one : 1 + id_len q ≡ suc (id_len q) = omega arith in
        inl (record { slash = rw e s.slash; segment_is = rw (e, one) (ap (λ z. b ∷ z) s.segment_is); within = rw e (omega (arith, s.within)) })
    by false e (inr s) =
        inr (record { slash = rw e s.slash; segment_is = rw e (ap (λ z. b ∷ z) s.segment_is); all = rw e (omega (arith, s.all)) })

-- where there is no slash, none begins what is left anywhere
no_slash_from : (q : List ℕ) (n : ℕ) → has_slash q ≡ false → pointwise nat_eq (47 ∷ []) (drop n q) ≡ false
no_slash_from [] zero h = refl
no_slash_from [] (suc n) h = refl
no_slash_from (b ∷ q) n h = by (b == 47) refl (no_slash_from q) n h
  where
    by : (v : Bool) → (b == 47) ≡ v → ((n : ℕ) → has_slash q ≡ false → pointwise nat_eq (47 ∷ []) (drop n q) ≡ false)
        → (n : ℕ) → cond v true (has_slash q) ≡ false → pointwise nat_eq (47 ∷ []) (drop n (b ∷ q)) ≡ false
    by true e ih n h = cc
    by false e ih zero h =
        let other : nat_eq 47 b ≡ false = grind (arith, nat_tests) in
        rw other
    by false e ih (suc n) h = ih n h

-- as many bytes come before the slash as are counted
front_len : (q : List ℕ) → SlashAt q → length (take (id_len q) q) ≡ id_len q
front_len q s = length-take-le (id_len q) q (omega (arith, s.within))

-- the segment has one byte more, the slash
pub segment-len : (q : List ℕ) → SlashAt q → length (segment q) ≡ id_len q + 1
segment-len q s =
    let front = front_len q s in
    let size : length (segment q) ≡ length (take (id_len q) q ++ 47 ∷ []) = ap length s.segment_is in
    omega (arith, length-append (take (id_len q) q) (47 ∷ []))

-- the segment ends in the slash
segment_ends : (q : List ℕ) → SlashAt q → ends_with nat_eq (segment q) (47 ∷ []) ≡ true
segment_ends q s =
    let front = take (id_len q) q in
    let place : length (front ++ 47 ∷ []) - 1 ≡ length front = omega (arith, length-append front (47 ∷ [])) in
    rw (s.segment_is, place, drop-append_seam front (47 ∷ []))

-- a slash cuts a segment where it ends it, and something comes before it
pub cuts_with : (q : List ℕ) → SlashAt q → 0 < id_len q → cuts (segment q) (47 ∷ []) ≡ true
cuts_with q s some =
    let size = segment-len q s in
    let long : ltb 1 (length (segment q)) ≡ true = grind (arith, nat_tests) in
    rw (long, segment_ends q s)

-- it does not where nothing comes before it
pub cuts_empty : (q : List ℕ) → SlashAt q → id_len q ≡ 0 → cuts (segment q) (47 ∷ []) ≡ false
cuts_empty q s none =
    let size = segment-len q s in
    let short : ltb 1 (length (segment q)) ≡ false = grind (arith, nat_tests) in
    rw short

-- where there is no slash none cuts
pub cuts_none : (q : List ℕ) → NoSlash q → cuts (segment q) (47 ∷ []) ≡ false
cuts_none q s =
    rw (s.segment_is, no_slash_from q (length q - 1) s.slash) (and-false (ltb 1 (length q)))
  where
    and-false : (v : Bool) → (v && false) ≡ false
    and-false true = refl
    and-false false = refl
