-- The laws that the trait asks of a disk in memory. The first of them, that what a read gives is an image, is shown by way of what a write may leave.
-- A type's proof of a trait's law is read with its definitions, so they are here.
use Rattle.std.proofs.Common.{◌≡◌, ◌⊎◌, ⊎_elim, inl, inr, ℕ, ◌+◌, ◌-◌, ◌≤◌, ◌<◌, min, List, [], ◌∷◌, ◌++◌, length, take, drop, replicate, refl, sym, ◌∙◌, ap, subst, arith, append_assoc, length-append, length-take, length-drop}
use Rattle.std.proofs.lemmas.Bool.{cases_lt}
use Rattle.std.proofs.lemmas.List.{take_all, take_at, drop_at, drop_all, take-take, length-replicate}
use Rattle.split_base.specs.Disk.{IsTorn}
use Rattle.split_base.specs.Past.{Act, Wrote, Synced, State, after_write, after, after_all, stable_file, images_of, DiskState, state_of, seen_of, images_at, left_of}

-- a file after a write that isn't empty
abbrev pub over : List ℕ → ℕ → List ℕ → List ℕ
over old place bytes = take place old ++ replicate (place - length old) 0 ++ bytes ++ drop (place + length bytes) old

pub le_or_lt : (a b : ℕ) → (a ≤ b) ⊎ (b < a)
le_or_lt a b = ⊎_elim (λ lt. inr lt) (λ le. inl le) (cases_lt b a)

-- the length of a file after a write that isn't empty
pub length_over : (old bytes : List ℕ) (place : ℕ) → length (over old place bytes) ≡ min place (length old) + (place - length old) + length bytes + (length old - (place + length bytes))
length_over old bytes place =
    omega (
      arith,
      length-append (take place old ++ replicate (place - length old) 0 ++ bytes) (drop (place + length bytes) old),
      length-append (take place old ++ replicate (place - length old) 0) bytes,
      length-append (take place old) (replicate (place - length old) 0),
      length-take place old,
      length-drop (place + length bytes) old,
      length-replicate {A = ℕ} (place - length old) 0,
    )

front_stays : (old rest : List ℕ) (place : ℕ) → (place ≤ length old) ⊎ (length old < place) → take place (take (length old) (take place old ++ rest)) ≡ take place old
front_stays old rest place (inl within) =
    take-take place (length old) (take place old ++ rest) within ∙ take_at (take place old) rest place (omega (arith, length-take place old, within))
front_stays old rest place (inr past) =
    let all : take place old ≡ old = take_all place old (omega arith) in
    let cut : take (length old) (take place old ++ rest) ≡ old = ap (λ (l : List ℕ). take (length old) (l ++ rest)) all ∙ take_at old rest (length old) refl in
    ap (λ (l : List ℕ). take place l) cut

back_stays : (old bytes : List ℕ) (place : ℕ) → (length old ≤ place + length bytes) ⊎ (place + length bytes < length old)
    → drop (place + length bytes) (take (length old) (over old place bytes)) ≡ drop (place + length bytes) old
back_stays old bytes place (inl past) =
    drop_all (place + length bytes) (take (length old) (over old place bytes)) (omega (arith, length-take (length old) (over old place bytes), past)) ∙ sym (drop_all (place + length bytes) old past)
back_stays old bytes place (inr within) =
    let whole : take (length old) (over old place bytes) ≡ over old place bytes = take_all (length old) (over old place bytes) (omega (arith, length_over old bytes place, within)) in
    let front = take place old ++ replicate (place - length old) 0 ++ bytes in
    let size : length front ≡ place + length bytes = omega (
      arith,
      within,
      length-append (take place old ++ replicate (place - length old) 0) bytes,
      length-append (take place old) (replicate (place - length old) 0),
      length-take place old,
      length-replicate {A = ℕ} (place - length old) 0,
    ) in
    ap (λ (l : List ℕ). drop (place + length bytes) l) whole ∙ drop_at front (drop (place + length bytes) old) (place + length bytes) size

-- a write may leave an image as it was
pub torn_none : (place n : ℕ) (d : List ℕ) → IsTorn place n d d
torn_none place n d = let e : take (length d) d ≡ d = take_all (length d) d (omega arith) in record {
  no_shorter = omega arith;
  before = ap (λ (l : List ℕ). take place l) e;
  after = ap (λ (l : List ℕ). drop (place + n) l) e;
}

over_is_torn : (old bytes : List ℕ) (place : ℕ) → IsTorn place (length bytes) old (over old place bytes)
over_is_torn old bytes place = record {
  no_shorter = omega (arith, length_over old bytes place);
  before = ap (λ (l : List ℕ). take place (take (length old) l)) regrouped ∙ front_stays old (replicate (place - length old) 0 ++ (bytes ++ drop (place + length bytes) old)) place (le_or_lt place (length old));
  after = back_stays old bytes place (le_or_lt (length old) (place + length bytes));
}
  where
    regrouped : over old place bytes ≡ take place old ++ (replicate (place - length old) 0 ++ (bytes ++ drop (place + length bytes) old))
    regrouped = append_assoc (take place old ++ replicate (place - length old) 0) bytes (drop (place + length bytes) old) ∙ append_assoc (take place old) (replicate (place - length old) 0) (bytes ++ drop (place + length bytes) old)

-- what a whole write gives is among what it may leave
pub written_is_torn : (old bytes : List ℕ) (place : ℕ) → IsTorn place (length bytes) old (after_write old place bytes)
written_is_torn old [] place = torn_none place 0 old
written_is_torn old (b ∷ bytes) place = over_is_torn old (b ∷ bytes) place

image_stays : (s : State) (act : Act) → images_of s s.seen → images_of (after s act) (after s act).seen
image_stays s (Wrote place bytes) is = (s.seen, is, written_is_torn s.seen bytes place)
image_stays s Synced is = refl

images_stay : (s : State) (acts : List Act) → images_of s s.seen → images_of (after_all s acts) (after_all s acts).seen
images_stay s [] is = is
images_stay s (act ∷ acts) is = images_stay (after s act) acts (image_stays s act is)

pub seen_image : (d : DiskState) → images_at d (seen_of d)
seen_image d = images_stay (stable_file d.first) d.acts refl

pub now_counts : (d : DiskState) (t : ℕ) (c : List ℕ) → t ≤ length d.acts → images_of (state_of d) c → left_of d t c
now_counts d t c le now = (length d.acts, le, omega arith, subst (λ (acts : List Act). images_of (after_all (stable_file d.first) acts) c) (sym (take_all (length d.acts) d.acts (omega arith))) now)

pub now_only : (d : DiskState) (c : List ℕ) → left_of d (length d.acts) c → images_of (state_of d) c
now_only d c (k, from, to, is) = subst (λ (acts : List Act). images_of (after_all (stable_file d.first) acts) c) (take_all k d.acts from) is
