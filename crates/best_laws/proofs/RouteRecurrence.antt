-- The recurrence of route costs: who comes first, and the cheapest rest.
use Rattle.std.proofs.Common.{◌≡◌, ℕ, ◌+◌, ◌<◌, min, List, [], ◌∷◌, length, map, fold, arith, refl, sym, ap, ◌∙◌, Some, None}
use Rattle.std.specs.Prelude.{Option}
use Rattle.std.proofs.lemmas.List.{length-map}
use Rattle.bid_rules.specs.declared.cases.FareCase.{FareCase}
use Rattle.bid_rules.specs.Facts.{leg}
use Rattle.bid_rules.specs.Orders.{orders}
use Rattle.bid_rules.specs.Fares.{legs_along, least, place_of, route_cost}
use Rattle.split_lemmas.proofs.OrderLaws.{length-orders, factorial_pos}
use Rattle.best_laws.proofs.Parts.{parts}
use Rattle.best_laws.proofs.FirstRiders.{Sums, combined, firsts, combined_same, combined_map}

-- the lesser of two numbers, where none means no number at all
abbrev pub lesser : Option ℕ → Option ℕ → Option ℕ
lesser None b = b
lesser (Some a) None = Some a
lesser (Some a) (Some b) = Some (min a b)

-- the lesser of two puts numbers together
pub lessers : Sums (Option ℕ)
lessers = record { op = lesser; unit = None; assoc = assoc; comm = comm; left = λ a. refl }
  where
    assoc : (a b c : Option ℕ) → lesser (lesser a b) c ≡ lesser a (lesser b c)
    assoc None b c = refl
    assoc (Some a) None c = refl
    assoc (Some a) (Some b) None = refl
    assoc (Some a) (Some b) (Some c) = ap Some (omega arith)

    comm : (a b : Option ℕ) → lesser a b ≡ lesser b a
    comm None None = refl
    comm None (Some b) = refl
    comm (Some a) None = refl
    comm (Some a) (Some b) = ap Some (omega arith)

-- the least sum of legs over all orders
abbrev cheapest : FareCase → ℕ → List ℕ → Option ℕ
cheapest case from riders = combined lessers (λ zs. Some (legs_along case from zs)) (orders riders)

-- a leg more, where there is a number
abbrev behind_leg : ℕ → Option ℕ → Option ℕ
behind_leg cents None = None
behind_leg cents (Some rest) = Some (cents + rest)

-- the lesser of two sums with one leg more
leg_over : (d : ℕ) (a b : Option ℕ) → behind_leg d (lesser a b) ≡ lesser (behind_leg d a) (behind_leg d b)
leg_over d None b = refl
leg_over d (Some a) None = refl
leg_over d (Some a) (Some b) = ap Some (omega arith)

-- the least of sums with one leg more is the least with that leg more
leg_out : (d : ℕ) (g : List ℕ → ℕ) (zs : List (List ℕ)) → combined lessers (λ z. Some (d + g z)) zs ≡ behind_leg d (combined lessers (λ z. Some (g z)) zs)
unfolding lessers
leg_out d g [] = refl
leg_out d g (z ∷ zs) = ap (lesser (Some (d + g z))) (leg_out d g zs) ∙ sym (leg_over d (Some (g z)) (combined lessers (λ z. Some (g z)) zs))

-- the least from a start on is a fold
least_from : (a : ℕ) (xs : List ℕ) → lesser (Some a) (combined lessers (λ n. Some n) xs) ≡ Some (fold min a xs)
unfolding lessers
least_from a [] = refl
least_from a (x ∷ xs) = sym (lessers.assoc (Some a) (Some x) (combined lessers (λ n. Some n) xs)) ∙ least_from (min a x) xs

-- the least of a list with a first number
least_total : (x : ℕ) (xs : List ℕ) → combined lessers (λ n. Some n) (x ∷ xs) ≡ Some (least (x ∷ xs))
unfolding lessers
least_total x xs = least_from x xs ∙ ap (λ m. Some (fold min m xs)) (let e : x ≡ min x x = omega arith in e)

-- the least of a list that is not empty
least_some : (xs : List ℕ) → 0 < length xs → combined lessers (λ n. Some n) xs ≡ Some (least xs)
least_some [] h = absurd (omega arith)
least_some (x ∷ xs) h = least_total x xs

-- the cost of a route is the least over all orders
cheapest_is : (case : FareCase) (from : ℕ) (riders : List ℕ) → cheapest case from riders ≡ Some (route_cost case from riders)
cheapest_is case from riders =
    sym (combined_map lessers (λ n. Some n) (legs_along case from) (orders riders))
    ∙ least_some (map (legs_along case from) (orders riders)) (omega (arith, length-map (orders riders) (legs_along case from), length-orders riders, factorial_pos (length riders)))

-- the cost of a first leg, and of the cheapest rest
abbrev pub first_leg : FareCase → ℕ → ℕ × List ℕ → ℕ
first_leg case from p = leg case.facts from (place_of case p.0) + route_cost case (place_of case p.0) p.1

-- numbers that are there and the same are equal
some_apart : (a b : ℕ) → Some a ≡ Some b → a ≡ b
some_apart a b e = cc

-- the recurrence over the parts of a list
pub route_parts : (case : FareCase) (from x : ℕ) (xs : List ℕ) → route_cost case from (x ∷ xs) ≡ least (map (first_leg case from) (parts (x ∷ xs)))
route_parts case from x xs = some_apart _ _ (
    sym (cheapest_is case from (x ∷ xs))
    ∙ firsts lessers (λ zs. Some (legs_along case from zs)) x xs
    ∙ combined_same lessers (λ p. combined lessers (λ zs. Some (legs_along case from (p.0 ∷ zs))) (orders p.1)) (λ p. Some (first_leg case from p)) (parts (x ∷ xs))
    (λ p. leg_out (leg case.facts from (place_of case p.0)) (legs_along case (place_of case p.0)) (orders p.1) ∙ ap (behind_leg (leg case.facts from (place_of case p.0))) (cheapest_is case (place_of case p.0) p.1))
    ∙ sym (combined_map lessers (λ n. Some n) (first_leg case from) (parts (x ∷ xs)))
    ∙ least_some (map (first_leg case from) (parts (x ∷ xs))) (omega (arith, length-map (parts (x ∷ xs)) (first_leg case from))))

-- over the riders of a list that is not empty
pub route_of_parts : (case : FareCase) (from : ℕ) (xs : List ℕ) → 0 < length xs → route_cost case from xs ≡ least (map (first_leg case from) (parts xs))
route_of_parts case from [] some = absurd (omega arith)
route_of_parts case from (x ∷ xs) some = route_parts case from x xs
