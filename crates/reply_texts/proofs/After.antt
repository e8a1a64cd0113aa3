-- What a reply names, in the host after the event.
use Rattle.std.proofs.Common.{◌≡◌, ℕ, zero, suc, ◌+◌, ◌-◌, inl, inr, Bool, true, false, ◌||◌, ◌==◌, List, [], ◌∷◌, ◌++◌, length, if◌then◌else◌, is_some, slice_get, Option, None, Some, option_map, refl, ap, sym, subst, ◌∙◌, arith, true≢false}
use Rattle.std.proofs.lemmas.Bool.{ne_eqb}
use Rattle.bid_rules.specs.declared.bids.Bid.{Bid}
use Rattle.sealed_core.specs.Host.{CreationView, EventView, HostView, InstanceView, Closed, Created, apply, as_closed, change_at, new_instance, instance_at, kept_bid, kept_turn}
use Rattle.sealed_core.specs.Sealed.{with_event, public_of}
use Rattle.reply_texts.specs.Telling.{IsCloseOf, is_close, public_if}

-- the instance at the changed place
changed_at : (f : InstanceView → InstanceView) (instances : List InstanceView) (p : ℕ) → slice_get (change_at f instances p) p ≡ option_map f (slice_get instances p)
changed_at f [] p = refl
changed_at f (i ∷ instances) zero = refl
changed_at f (i ∷ instances) (suc p) = changed_at f instances p

-- under an id
changed_if : (none : Bool) (instances : List InstanceView) (p : ℕ) (i : InstanceView) → (if none then None else slice_get instances p) ≡ Some i
    → (if none then None else slice_get (change_at as_closed instances p) p) ≡ Some (as_closed i)
changed_if true instances p i is = absurd (true≢false (sym (ap is_some is)))
changed_if false instances p i is = changed_at as_closed instances p ∙ ap (option_map as_closed) is

-- the instance after its close
pub closed_at : (h : HostView) (now id : ℕ) (i : InstanceView) → instance_at h id ≡ Some i → instance_at (apply h (Closed now id)) id ≡ Some (as_closed i)
closed_at h now id i is = changed_if (id == 0) h.instances (id - 1) i is

-- the last of a list with one more
last_at : (instances : List InstanceView) (i : InstanceView) → slice_get (instances ++ i ∷ []) (length instances) ≡ Some i
last_at [] i = refl
last_at (j ∷ instances) i = last_at instances i

-- a new instance has the next id
pub new_at : (h : HostView) (now : ℕ) (c : CreationView) (id : ℕ) → id ≡ length h.instances + 1 → instance_at (apply h (Created now c)) id ≡ Some (new_instance c)
new_at h now c id is =
    let place : id - 1 ≡ length h.instances = omega (arith, is) in
    subst (λ k. (if k == 0 then None else slice_get (h.instances ++ new_instance c ∷ []) (k - 1)) ≡ Some (new_instance c)) (sym is) (next (length h.instances) (last_at h.instances (new_instance c)))
  where
    next : (n : ℕ) → slice_get (h.instances ++ new_instance c ∷ []) n ≡ Some (new_instance c) → (if n + 1 == 0 then None else slice_get (h.instances ++ new_instance c ∷ []) (n + 1 - 1)) ≡ Some (new_instance c)
    next n there = let same : n + 1 - 1 ≡ n = omega arith in let more : (n + 1 == 0) ≡ false = ne_eqb (n + 1) 0 (λ none. omega (arith, none)) in rw (more, same) there

-- what everyone may know of an instance after its close, or after no event
pub public_after : (h : HostView) (e : Option EventView) (id : ℕ) (i : InstanceView) → instance_at h id ≡ Some i → IsCloseOf e id
    → option_map public_of (instance_at (with_event h e) id) ≡ Some (public_if (i.closed || is_close e) i)
public_after h e id i there (inl none) = subst (λ (e : Option EventView). option_map public_of (instance_at (with_event h e) id) ≡ Some (public_if (i.closed || is_close e) i)) (sym none) (ap (option_map public_of) there ∙ ap (λ (b : Bool). Some (public_if b i)) (same i.closed))
  where
    same : (b : Bool) → b ≡ (b || false)
    same true = refl
    same false = refl
public_after h e id i there (inr (now, close)) = subst (λ (e : Option EventView). option_map public_of (instance_at (with_event h e) id) ≡ Some (public_if (i.closed || is_close e) i)) (sym close) (ap (option_map public_of) (closed_at h now id i there) ∙ ap (λ (b : Bool). Some (public_if b i)) (shut i.closed))
  where
    shut : (b : Bool) → true ≡ (b || true)
    shut true = refl
    shut false = refl

-- a member's own turn and bid stay
pub own_after : {A : Type 0} (f : ℕ → Option Bid → A) (m : ℕ) (h : HostView) (e : Option EventView) (id : ℕ) (i : InstanceView) → instance_at h id ≡ Some i → IsCloseOf e id
    → option_map (λ i. f (kept_turn i m) (kept_bid i m)) (instance_at (with_event h e) id) ≡ Some (f (kept_turn i m) (kept_bid i m))
own_after f m h e id i there (inl none) = subst (λ (e : Option EventView). option_map (λ i. f (kept_turn i m) (kept_bid i m)) (instance_at (with_event h e) id) ≡ Some (f (kept_turn i m) (kept_bid i m))) (sym none) (ap (option_map _) there)
own_after f m h e id i there (inr (now, close)) = subst (λ (e : Option EventView). option_map (λ i. f (kept_turn i m) (kept_bid i m)) (instance_at (with_event h e) id) ≡ Some (f (kept_turn i m) (kept_bid i m))) (sym close) (ap (option_map _) (closed_at h now id i there))
