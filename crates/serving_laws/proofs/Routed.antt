-- A request leads to one place.
use Rattle.std.proofs.Common.{◌≡◌, ℕ, refl, true, false, List, Option, None, Some, option_and_then, Ok, Err, sym, ap, ◌∙◌, subst, inl, inr, arith, true≢false}
use Rattle.std.proofs.lemmas.Fmt.{decimal_injective}
use Rattle.split_http.specs.declared.head.Verb.{Verb}
use Rattle.split_http.specs.declared.replies.Allow.{Allow}
use Rattle.split_http.specs.declared.routes.Route.{Route}
use Rattle.split_http.specs.declared.routes.RouteFault.{RouteFault}
use Rattle.split_http.specs.declared.routes.RouteFault.TheVariants.{NoRoute, Method}
use Rattle.split_http.specs.Places.{Endpoint, IsId, IsRouted, endpoint_of, has_verb, id_text}

same_place : (a b : Endpoint) → Some a ≡ Some b → (a.0 ≡ b.0) × (a.1 ≡ b.1)
same_place a b is = let one : a ≡ b = cc in (ap (λ (x : Endpoint). x.0) one, ap (λ (x : Endpoint). x.1) one)

none_some : (o : Option Endpoint) (e : Endpoint) → o ≡ None → o ≡ Some e → ⊥
none_some o e none some = absurd (cc)

one_id : (text : List ℕ) (a b : ℕ) → IsId text a → IsId text b → a ≡ b
one_id text a b (inl (some, small, is)) (inl (some', small', is')) = decimal_injective a b (omega (arith, small)) (omega (arith, small')) (sym is ∙ is')
one_id text a b (inl (some, small, is)) (inr (zero, none)) = absurd (none a some small is)
one_id text a b (inr (zero, none)) (inl (some, small, is)) = absurd (none b some small is)
one_id text a b (inr (zero, none)) (inr (zero', none')) = zero ∙ sym zero'

-- and its refusal is one
pub one_fault : (verb : Verb) (path : Option (List ℕ)) (a b : RouteFault) → IsRouted verb path (Err a) → IsRouted verb path (Err b) → a ≡ b
one_fault verb path NoRoute NoRoute p q = refl
one_fault verb path NoRoute (Method allow) p (place, is, w) = absurd (none_some (option_and_then endpoint_of path) (place, allow) p is)
one_fault verb path (Method allow) NoRoute (place, is, w) q = absurd (none_some (option_and_then endpoint_of path) (place, allow) q is)
one_fault verb path (Method allow) (Method other) (place, is, w) (way, so, v) = ap Method (same_place (place, allow) (way, other) (sym is ∙ so)).1

pub one_route : (verb : Verb) (path : Option (List ℕ)) (a b : Route) → IsRouted verb path (Ok a) → IsRouted verb path (Ok b) → (a.place ≡ b.place) × (a.id ≡ b.id)
one_route verb path a b (bytes, p, (allow, e, v), i) (other, q, (allows, f, w), j) =
    let path_is : Some bytes ≡ Some other = sym p ∙ q in
    let same : bytes ≡ other = cc in (
      (same_place (a.place, allow) (b.place, allows) (sym e ∙ ap endpoint_of same ∙ f)).0,
      one_id (id_text other) a.id b.id (subst (λ (l : List ℕ). IsId (id_text l) a.id) same i) j,
    )

-- a path or method that is refused leads to no place
pub never_routed : (verb : Verb) (path : Option (List ℕ)) (fault : RouteFault) (a : Route) → IsRouted verb path (Err fault) → IsRouted verb path (Ok a) → ⊥
never_routed verb path NoRoute a none (bytes, p, (allow, e, v), i) =
    none_some (option_and_then endpoint_of path) (a.place, allow) none (ap (λ (o : Option (List ℕ)). option_and_then endpoint_of o) p ∙ e)
never_routed verb path (Method other) a (place, f, w) (bytes, p, (allow, e, v), i) =
    let at : option_and_then endpoint_of path ≡ Some (a.place, allow) = ap (λ (o : Option (List ℕ)). option_and_then endpoint_of o) p ∙ e in
    let same = (same_place (place, other) (a.place, allow) (sym f ∙ at)).1 in
    true≢false (sym v ∙ ap (λ (m : Allow). has_verb m verb) (sym same) ∙ w)
