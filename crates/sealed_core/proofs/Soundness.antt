-- Events that may be applied keep a host sound, and what a write to an instance makes of the views.
use Rattle.std.proofs.Common.{◌≡◌, ℕ, zero, suc, ◌-◌, ◌<◌, ◌≤◌, ◌==◌, Bool, true, false, List, [], ◌∷◌, ◌++◌, map, length, set, get_or, if◌then◌else◌, is_some, Option, None, Some, IfSome, IsSomeAnd, IsSome, All, slice_get, refl, ap, sym, subst, ◌∙◌, arith, true≢false, unwrap_or}
use Rattle.std.proofs.lemmas.List.{length-set, length-replicate, length_push}
use Rattle.std.proofs.lemmas.List.Elements.{All-push, All-replicate, All-set}
use Rattle.std.proofs.lemmas.Bool.{eqb-false}
use Rattle.bid_rules.specs.declared.bids.Bid.{Bid}
use Rattle.bid_rules.specs.Facts.{IsCheckedBid}
use Rattle.sealed_core.specs.declared.limits.TheConstants.{MOST_INSTANCES, MOST_TURNS}
use Rattle.sealed_core.specs.declared.host.Instance.{Instance}
use Rattle.sealed_core.proofs.Wholes.{sound_at}
use Rattle.sealed_core.specs.Host.{CreationView, InstanceView, HostView, AreCheckedInstances, IsCheckedInstance, IsCheckedCreation, IsNextTurn, instance_view, instance_at, new_instance, with_turn, as_closed, change, change_at}

-- a new instance of a checked creation is sound
pub sound_fresh : (c : CreationView) → IsCheckedCreation c → IsCheckedInstance (new_instance c)
sound_fresh c right = record {
  creation = right;
  turns = length-replicate (length c.members) 0;
  bids = length-replicate (length c.members) None;
  used = All-replicate (λ (turn : ℕ). turn ≤ MOST_TURNS) (length c.members) 0 (omega arith);
  checked = All-replicate (λ (bid : Option Bid). IfSome bid (IsCheckedBid c.facts)) (length c.members) None tt;
}

-- a next turn leaves an instance sound
pub sound_turn : (now m turn : ℕ) (bid : Option Bid) (i : InstanceView) → IsCheckedInstance i → IsNextTurn now i m turn → IfSome bid (IsCheckedBid i.creation.facts) → IsCheckedInstance (with_turn m turn bid i)
sound_turn now m turn bid i sound next right = record {
  creation = sound.creation;
  turns = length-set i.turns (m - 1) turn ∙ sound.turns;
  bids = length-set i.bids (m - 1) bid ∙ sound.bids;
  used = All-set (λ (turn : ℕ). turn ≤ MOST_TURNS) i.turns (m - 1) turn next.used sound.used;
  checked = All-set (λ (bid : Option Bid). IfSome bid (IsCheckedBid i.creation.facts)) i.bids (m - 1) bid right sound.checked;
}

-- closing leaves it sound
pub sound_closed : (i : InstanceView) → IsCheckedInstance i → IsCheckedInstance (as_closed i)
sound_closed i sound = record { creation = sound.creation; turns = sound.turns; bids = sound.bids; used = sound.used; checked = sound.checked }

-- a new sound instance leaves the list sound
pub sound_push : (instances : List InstanceView) (i : InstanceView) → AreCheckedInstances instances → IsCheckedInstance i → length instances < MOST_INSTANCES → AreCheckedInstances (instances ++ i ∷ [])
sound_push instances i sound own few = let size = length_push instances i in record { each = All-push IsCheckedInstance instances i sound.each own; few = omega (arith, size, few) }

-- a change at a place leaves the length
pub length-changed : (f : InstanceView → InstanceView) (instances : List InstanceView) (p : ℕ) → length (change_at f instances p) ≡ length instances
length-changed f [] p = refl
length-changed f (i ∷ instances) zero = refl
length-changed f (i ∷ instances) (suc p) = ap suc (length-changed f instances p)

-- a change that keeps the instance sound leaves all sound
each_changed : (f : InstanceView → InstanceView) (instances : List InstanceView) (p : ℕ) → All IsCheckedInstance instances → ((i : InstanceView) → slice_get instances p ≡ Some i → IsCheckedInstance (f i)) → All IsCheckedInstance (change_at f instances p)
each_changed f [] p each new k d there = absurd (omega arith)
each_changed f (i ∷ instances) zero each new zero d there = new i refl
each_changed f (i ∷ instances) zero each new (suc k) d there = each (suc k) d (omega (arith, there))
each_changed f (i ∷ instances) (suc p) each new zero d there = each zero d (omega arith)
each_changed f (i ∷ instances) (suc p) each new (suc k) d there = each_changed f instances p (λ j e below. each (suc j) e (omega (arith, below))) new k d (omega (arith, there))

-- so the list stays sound
pub sound_changed : (f : InstanceView → InstanceView) (instances : List InstanceView) (p : ℕ) → AreCheckedInstances instances → ((i : InstanceView) → slice_get instances p ≡ Some i → IsCheckedInstance (f i)) → AreCheckedInstances (change_at f instances p)
sound_changed f instances p sound new = let size = length-changed f instances p in let few = sound.few in record { each = each_changed f instances p sound.each new; few = omega (arith, size, few) }

-- a write to the instance at a place changes the view at that place
pub set_changed : (f : InstanceView → InstanceView) (xs : List Instance) (p : ℕ) (old new : Instance) → old ≡ get_or xs p old → p < length xs → instance_view new ≡ f (instance_view old)
    → map instance_view (set xs p new) ≡ change_at f (map instance_view xs) p
set_changed f [] p old new is there made = absurd (omega arith)
set_changed f (x ∷ xs) zero old new is there made = λ j. (made ∙ ap (λ (y : Instance). f (instance_view y)) is) j ∷ map instance_view xs
set_changed f (x ∷ xs) (suc p) old new is there made = λ j. instance_view x ∷ set_changed f xs p old new is (omega (arith, there)) made j

-- what an instance that is there says of its place
pub record IsAt (h : HostView) (id : ℕ) (i : InstanceView) : Type 0 where
  pub least : 1 ≤ id
  pub at : slice_get h.instances (id - 1) ≡ Some i

-- an instance that is found has a place
at_if : (none : Bool) (instances : List InstanceView) (p : ℕ) (i : InstanceView) → (if none then None else slice_get instances p) ≡ Some i → (none ≡ false) × (slice_get instances p ≡ Some i)
at_if true instances p i is = absurd (true≢false (sym (ap is_some is)))
at_if false instances p i is = (refl, is)

-- an instance with an id is at its place
pub is_at : (h : HostView) (id : ℕ) (i : InstanceView) → instance_at h id ≡ Some i → IsAt h id i
is_at h id i is = let both = at_if (id == 0) h.instances (id - 1) i is in let some = eqb-false id 0 both.0 in record { least = omega (arith, some); at = both.1 }

-- what holds of some value, with the value
pub found : {A : Type 0} (o : Option A) (P : A → Type 0) → IsSomeAnd o P → (x : A) × (o ≡ Some x) × P x
found None P p = absurd p
found (Some x) P p = (x, refl, p)

-- an option that is there has a value
pub found_some : {A : Type 0} (o : Option A) → IsSome o → (x : A) × (o ≡ Some x)
found_some None is = absurd (true≢false (sym is))
found_some (Some x) is = (x, refl)

-- the element that is there is the one
pub at_is : (xs : List Instance) (p : ℕ) (i : InstanceView) (old : Instance) → slice_get (map instance_view xs) p ≡ Some i → old ≡ get_or xs p old → (p < length xs) × (i ≡ instance_view old)
at_is [] p i old there is = absurd (true≢false (sym (ap is_some there)))
at_is (x ∷ xs) zero i old there is = (omega arith, ap (λ (o : Option InstanceView). unwrap_or o i) (sym there) ∙ ap instance_view (sym is))
at_is (x ∷ xs) (suc p) i old there is = let rest = at_is xs p i old there is in let below = rest.0 in (omega (arith, below), rest.1)

-- an instance at a place of a sound list is sound
sound_of : (xs : List Instance) (p : ℕ) (old : Instance) → AreCheckedInstances (map instance_view xs) → p < length xs → old ≡ get_or xs p old → IsCheckedInstance (instance_view old)
sound_of xs p old sound there is = sound_at xs p old sound.each there is

-- the views after a member's turn is kept
pub turn_views : (h : HostView) (items : List Instance) (id now m turn : ℕ) (bid : Option Bid) (old new : Instance) → h.instances ≡ map instance_view items → AreCheckedInstances (map instance_view items)
    → IsSomeAnd (instance_at h id) (λ i. IsNextTurn now i m turn × IfSome bid (IsCheckedBid i.creation.facts)) → old ≡ get_or items (id - 1) old
    → instance_view new ≡ with_turn m turn bid (instance_view old)
    → (map instance_view (set items (id - 1) new) ≡ change (with_turn m turn bid) (map instance_view items) id) × AreCheckedInstances (map instance_view (set items (id - 1) new))
turn_views h items id now m turn bid old new views sound asked is made =
    let f = found (instance_at h id) (λ i. IsNextTurn now i m turn × IfSome bid (IsCheckedBid i.creation.facts)) asked in
    let place = is_at h id f.0 f.1 in
    let at : slice_get (map instance_view items) (id - 1) ≡ Some f.0 = subst (λ (is : List InstanceView). slice_get is (id - 1) ≡ Some f.0) views place.at in
    let there = at_is items (id - 1) f.0 old at is in
    let same = set_changed (with_turn m turn bid) items (id - 1) old new is there.0 made in (
      same,
      subst AreCheckedInstances (sym same) (sound_changed (with_turn m turn bid) (map instance_view items) (id - 1) sound
          (λ i here. let one : f.0 ≡ i = ap (λ (o : Option InstanceView). unwrap_or o i) (sym at ∙ here) in
          subst (λ (i : InstanceView). IsCheckedInstance (with_turn m turn bid i)) one
          (sound_turn now m turn bid f.0 (subst IsCheckedInstance (sym there.1) (sound_of items (id - 1) old sound there.0 is)) f.2.0 f.2.1))),
    )

-- the views after an instance is closed
pub closed_views : (h : HostView) (items : List Instance) (id : ℕ) (old new : Instance) → h.instances ≡ map instance_view items → AreCheckedInstances (map instance_view items)
    → IsSome (instance_at h id) → old ≡ get_or items (id - 1) old → instance_view new ≡ as_closed (instance_view old)
    → (map instance_view (set items (id - 1) new) ≡ change as_closed (map instance_view items) id) × AreCheckedInstances (map instance_view (set items (id - 1) new))
closed_views h items id old new views sound asked is made =
    let f = found_some (instance_at h id) asked in
    let place = is_at h id f.0 f.1 in
    let at : slice_get (map instance_view items) (id - 1) ≡ Some f.0 = subst (λ (is : List InstanceView). slice_get is (id - 1) ≡ Some f.0) views place.at in
    let there = at_is items (id - 1) f.0 old at is in
    let same = set_changed as_closed items (id - 1) old new is there.0 made in (
      same,
      subst AreCheckedInstances (sym same) (sound_changed as_closed (map instance_view items) (id - 1) sound
          (λ i here. let one : f.0 ≡ i = ap (λ (o : Option InstanceView). unwrap_or o i) (sym at ∙ here) in
          subst (λ (i : InstanceView). IsCheckedInstance (as_closed i)) one
          (sound_closed f.0 (subst IsCheckedInstance (sym there.1) (sound_of items (id - 1) old sound there.0 is))))),
    )
