-- What a write leaves of the bytes outside its range.
use Rattle.std.proofs.Common.{◌≡◌, ◌⊎◌, inl, inr, ℕ, ◌+◌, ◌-◌, ◌≤◌, ◌<◌, List, length, take, drop, sym, ◌∙◌, ap, subst, arith, refl, length-take}
use Rattle.std.proofs.lemmas.List.{take_all, take-take, drop-take, drop_all}
use Rattle.split_base.specs.Disk.{IsSameOutside, IsStableTo, IsTorn}
use Rattle.split_base.specs.Past.{State, DiskState, Wrote, after_write, after, state_of, seen_of, images_at, stable_file, after_call, after_act}
use Rattle.split_base.specs.PastLaws.{le_or_lt, seen_image, written_is_torn}
use Rattle.split_base.proofs.Images.{after_push}

-- the shorter of two prefixes is taken, whichever comes first
takes_swap : (m n : ℕ) (l : List ℕ) → take m (take n l) ≡ take n (take m l)
takes_swap m n l = by_order (le_or_lt m n)
  where
    by_order : (m ≤ n) ⊎ (n < m) → take m (take n l) ≡ take n (take m l)
    by_order (inl le) = take-take m n l le ∙ sym (take_all n (take m l) (omega (arith, le, length-take m l)))
    by_order (inr lt) = take_all m (take n l) (omega (arith, lt, length-take n l)) ∙ sym (take-take n m l (omega (arith, lt)))

-- what comes after k bytes of a prefix is a prefix of what comes after them
drop_prefix : (k n : ℕ) (l : List ℕ) → drop k (take n l) ≡ take (n - k) (drop k l)
drop_prefix k n l = by_order (le_or_lt k n)
  where
    by_order : (k ≤ n) ⊎ (n < k) → drop k (take n l) ≡ take (n - k) (drop k l)
    by_order (inl le) = let sum : n ≡ k + (n - k) = omega (arith, le) in ap (λ (m : ℕ). drop k (take m l)) sum ∙ drop-take k (n - k) l
    by_order (inr lt) = let none : 0 ≡ n - k = omega (arith, lt) in drop_all k (take n l) (omega (arith, lt, length-take n l)) ∙ ap (λ (m : ℕ). take m (drop k l)) none

-- what a torn write leaves is the same outside of its range, up to any end within the old file
pub torn_same : (place n end : ℕ) (old new : List ℕ) → end ≤ length old → IsTorn place n old new → IsSameOutside place n end old new
torn_same place n end old new le torn = record {
  no_shorter = omega (arith, le, torn.no_shorter);
  before =
      ap (λ (l : List ℕ). take place l) (sym (take-take end (length old) new le))
      ∙ takes_swap place end (take (length old) new)
      ∙ ap (λ (l : List ℕ). take end l) torn.before
      ∙ takes_swap end place old;
  after =
      ap (λ (l : List ℕ). drop (place + n) l) (sym (take-take end (length old) new le))
      ∙ drop_prefix (place + n) end (take (length old) new)
      ∙ ap (λ (l : List ℕ). take (end - (place + n)) l) torn.after
      ∙ sym (drop_prefix (place + n) end old);
}

-- a call that changed nothing
pub rests_stays : (d e : DiskState) (place n end : ℕ) → e.first ≡ d.first → e.acts ≡ d.acts → IsStableTo (images_at d) end → IsSameOutside place n end (seen_of d) (seen_of e)
rests_stays d e place n end first acts stable =
    let same : seen_of e ≡ seen_of d = ap (λ (f : List ℕ). seen_of (record e { first = f })) first ∙ ap (λ l. seen_of (record d { acts = l })) acts in
    subst (λ (l : List ℕ). IsSameOutside place n end (seen_of d) l) (sym same)
    (record { no_shorter = stable (seen_of d) (seen_image d); before = refl; after = refl })

-- a write
pub write_stays : (d : DiskState) (place : ℕ) (bytes : List ℕ) (taken end : ℕ) → IsStableTo (images_at d) end
    → IsSameOutside place (length bytes) end (seen_of d) (seen_of (after_act (after_call d) (Wrote place bytes) taken))
write_stays d place bytes taken end stable =
    let s : state_of (after_act (after_call d) (Wrote place bytes) taken) ≡ after (state_of d) (Wrote place bytes) = after_push (stable_file d.first) d.acts (Wrote place bytes) in
    subst (λ (l : List ℕ). IsSameOutside place (length bytes) end (seen_of d) l) (sym (ap (λ (s : State). s.seen) s))
    (torn_same place (length bytes) end (seen_of d) (after_write (seen_of d) place bytes) (stable (seen_of d) (seen_image d)) (written_is_torn (seen_of d) bytes place))
