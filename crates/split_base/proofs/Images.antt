-- What crashes leave of a disk in memory, and how its time goes on.
use Rattle.std.proofs.Common.{◌≡◌, ◌⊎◌, inl, inr, ℕ, ◌+◌, ◌-◌, ◌≤◌, ◌<◌, List, [], ◌∷◌, ◌++◌, length, take, drop, refl, sym, ◌∙◌, ap, subst, arith, length-append, length-take}
use Rattle.std.proofs.lemmas.List.{take_all, take-append-le, drop-drop}
use Rattle.split_base.specs.Disk.{IsTorn, Elapses}
use Rattle.split_base.specs.PastLaws.{le_or_lt, length_over, written_is_torn}
use Rattle.split_base.specs.Past.{Act, State, Write, after_write, after, after_all, stable_file, IsImage, images_of, LeftSince, total, on_top}

-- a write makes no file shorter, and ends within any room in which the old file and the range lie
pub written_no_shorter : (old bytes : List ℕ) (place : ℕ) → length old ≤ length (after_write old place bytes)
written_no_shorter old [] place = omega arith
written_no_shorter old (b ∷ bytes) place = omega (arith, length_over old (b ∷ bytes) place)

pub written_fits : (old bytes : List ℕ) (place room : ℕ) → length old ≤ room → place + length bytes ≤ room → length (after_write old place bytes) ≤ room
written_fits old [] place room was ends = was
written_fits old (b ∷ bytes) place room was ends = omega (arith, length_over old (b ∷ bytes) place, was, ends)

-- and so is what a shorter write gives
torn_wider : (place j n : ℕ) (d c : List ℕ) → j ≤ n → IsTorn place j d c → IsTorn place n d c
torn_wider place j n d c le torn = record {
  no_shorter = torn.no_shorter;
  before = torn.before;
  after = wide (take (length d) c) ∙ ap (λ (l : List ℕ). drop (n - j) l) torn.after ∙ sym (wide d);
}
  where
    wide : (l : List ℕ) → drop (place + n) l ≡ drop (n - j) (drop (place + j) l)
    wide l = ap (λ (k : ℕ). drop k l) (omega (arith, le)) ∙ sym (drop-drop (n - j) (place + j) l)

-- the bytes that a crash keeps of the later writes leave an image
pub on_top_is_image : (stable : List ℕ) (later : List Write) (keep : ℕ) → IsImage later stable (on_top stable later keep)
on_top_is_image stable [] keep = refl
on_top_is_image stable (w ∷ earlier) keep =
    let below = on_top stable earlier keep in
    let kept = take (keep - total earlier) w.bytes in
    (below, on_top_is_image stable earlier keep, torn_wider w.place (length kept) (length w.bytes) below (after_write below w.place kept) (omega (arith, length-take (keep - total earlier) w.bytes)) (written_is_torn below kept w.place))

pub after_push : (s : State) (acts : List Act) (act : Act) → after_all s (acts ++ act ∷ []) ≡ after (after_all s acts) act
after_push s [] act = refl
after_push s (first ∷ acts) act = after_push (after s first) acts act

-- time goes on by one call
pub elapses_push : (first : List ℕ) (acts : List Act) (act : Act)
    → Elapses (length acts) (length (acts ++ act ∷ [])) (LeftSince first acts) (LeftSince first (acts ++ act ∷ [])) (images_of (after_all (stable_file first) (acts ++ act ∷ [])))
elapses_push first acts act = record {
  later = omega (arith, length-append acts (act ∷ []));
  nothing_else = λ t c le left. split t c left (le_or_lt left.0 (length acts));
  keeps = λ t c le (k, from, to, is). (k, from, omega (arith, length-append acts (act ∷ []), to), subst (λ (l : List Act). images_of (after_all (stable_file first) l) c) (sym (take-append-le k acts (act ∷ []) to)) is);
}
  where
    split : (t : ℕ) (c : List ℕ) (left : LeftSince first (acts ++ act ∷ []) t c) → (left.0 ≤ length acts) ⊎ (length acts < left.0) → LeftSince first acts t c ⊎ images_of (after_all (stable_file first) (acts ++ act ∷ [])) c
    split t c (k, from, to, is) (inl within) = inl (k, from, within, subst (λ (l : List Act). images_of (after_all (stable_file first) l) c) (take-append-le k acts (act ∷ []) within) is)
    split t c (k, from, to, is) (inr past) = inr (subst (λ (l : List Act). images_of (after_all (stable_file first) l) c) (take_all k (acts ++ act ∷ []) (omega (arith, length-append acts (act ∷ []), past))) is)

pub elapses_same : (first : List ℕ) (acts : List Act) → Elapses (length acts) (length acts) (LeftSince first acts) (LeftSince first acts) (images_of (after_all (stable_file first) acts))
elapses_same first acts = record { later = omega arith; nothing_else = λ t c le left. inl left; keeps = λ t c le left. left }
