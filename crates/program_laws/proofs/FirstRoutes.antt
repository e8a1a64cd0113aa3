-- A case of fares has a least route of all riders.
use Rattle.std.proofs.Common.{◌≡◌, ◌≢◌, ℕ, ◌<◌, ◌≤◌, ◌⊎◌, List, [], ◌∷◌, length, map, All, Contains, Less, Equal, Greater, arith, refl, sym, ◌∙◌, inl, inr, ⊎_elim}
use Rattle.std.specs.Cmp.Lexicographic.{slice_cmp}
use Rattle.std.specs.Ordering.{nat_cmp}
use Rattle.std.specs.declared.cmp.Ordering.{Ordering}
use Rattle.std.proofs.lemmas.Bool.{cases_order}
use Rattle.std.proofs.lemmas.Cmp.{nat_list_cmp_total}
use Rattle.std.proofs.lemmas.List.Elements.{All-nil, All-cons, All-head, All-tail, All-contains, All-contains_itself}
use Rattle.bid_rules.specs.declared.cases.FareCase.{FareCase}
use Rattle.bid_rules.specs.Fares.{IsLeastRoute, legs_along, riders_of, route_cost}
use Rattle.bid_rules.specs.Orders.{orders}
use Rattle.split_lemmas.proofs.OrderLaws.{All-from_map, factorial_pos, length-orders}

-- before as a list, or not
before_or_not : (o : Ordering) → (o ≡ Less) ⊎ (o ≢ Less)
before_or_not Less = inl refl
before_or_not Equal = inr (λ e. cc)
before_or_not Greater = inr (λ e. cc)

-- no list is before itself
not_itself : (xs : List ℕ) → slice_cmp nat_cmp xs xs ≢ Less
not_itself xs e = let flip = nat_list_cmp_total.antisymm xs xs in cc

-- of some lists one has the least number, and comes first among those that have it
abbrev IsFirstLeast : (List ℕ → ℕ) → List (List ℕ) → List ℕ → Type 0
IsFirstLeast f lists first = All (λ other. f first ≤ f other) lists × All (λ other. f other ≡ f first → slice_cmp nat_cmp other first ≢ Less) lists

-- what holds of each list
weaker : (P Q : List ℕ → Type 0) (lists : List (List ℕ)) → ((list : List ℕ) → P list → Q list) → All P lists → All Q lists
weaker P Q [] h all = All-nil Q
weaker P Q (list ∷ lists) h all = All-cons Q list lists (h list (All-head P list lists all)) (weaker P Q lists h (All-tail P list lists all))

first_least : (P : List ℕ → Type 0) (f : List ℕ → ℕ) (lists : List (List ℕ)) → 0 < length lists → All P lists → (first : List ℕ) × P first × IsFirstLeast f lists first
first_least P f [] some all = absurd (omega (arith, some))
first_least P f (x ∷ []) some all = (
  x,
  All-head P x [] all,
  (
    All-cons (λ o. f x ≤ f o) x [] (omega arith) (All-nil (λ o. f x ≤ f o)),
    All-cons (λ o. f o ≡ f x → slice_cmp nat_cmp o x ≢ Less) x [] (λ e. not_itself x) (All-nil (λ o. f o ≡ f x → slice_cmp nat_cmp o x ≢ Less)),
  ),
)
first_least P f (x ∷ z ∷ zs) some all =
    let rest = first_least P f (z ∷ zs) (omega arith) (All-tail P x (z ∷ zs) all) in
    better rest.0 rest.1 rest.2.0 rest.2.1
  where
    lists : List (List ℕ)
    lists = z ∷ zs

    taken : (y : List ℕ) → All (λ o. f y ≤ f o) lists → f x ≤ f y → All (λ o. f o ≡ f x → slice_cmp nat_cmp o x ≢ Less) lists → (first : List ℕ) × P first × IsFirstLeast f (x ∷ lists) first
    taken y low less h = (
      x,
      All-head P x lists all,
      (
        All-cons (λ o. f x ≤ f o) x lists (omega arith) (weaker (λ o. f y ≤ f o) (λ o. f x ≤ f o) lists (λ o m. omega (arith, m, less)) low),
        All-cons (λ o. f o ≡ f x → slice_cmp nat_cmp o x ≢ Less) x lists (λ e. not_itself x) h,
      ),
    )

    left : (y : List ℕ) → P y → All (λ o. f y ≤ f o) lists → All (λ o. f o ≡ f y → slice_cmp nat_cmp o y ≢ Less) lists → f y ≤ f x → (f x ≡ f y → slice_cmp nat_cmp x y ≢ Less)
        → (first : List ℕ) × P first × IsFirstLeast f (x ∷ lists) first
    left y is low h less one = (y, is, (All-cons (λ o. f y ≤ f o) x lists less low, All-cons (λ o. f o ≡ f y → slice_cmp nat_cmp o y ≢ Less) x lists one h))

    better : (y : List ℕ) → P y → All (λ o. f y ≤ f o) lists → All (λ o. f o ≡ f y → slice_cmp nat_cmp o y ≢ Less) lists → (first : List ℕ) × P first × IsFirstLeast f (x ∷ lists) first
    better y is low h = ⊎_elim
        (λ (same : f x ≡ f y). ⊎_elim
        (λ (before : slice_cmp nat_cmp x y ≡ Less). taken y low (omega (arith, same))
        (weaker (λ o. f o ≡ f y → slice_cmp nat_cmp o y ≢ Less) (λ o. f o ≡ f x → slice_cmp nat_cmp o x ≢ Less) lists
        (λ o m e earlier. m (e ∙ same) (nat_list_cmp_total.trans o x y earlier before)) h))
        (λ (not_before : slice_cmp nat_cmp x y ≢ Less). left y is low h (omega (arith, same)) (λ e. not_before))
        (before_or_not (slice_cmp nat_cmp x y)))
        (λ (other : (f x < f y) ⊎ (f y < f x)). ⊎_elim
        (λ (less : f x < f y). taken y low (omega (arith, less))
        (weaker (λ o. f y ≤ f o) (λ o. f o ≡ f x → slice_cmp nat_cmp o x ≢ Less) lists (λ o m e earlier. omega (arith, m, e, less)) low))
        (λ (more : f y < f x). left y is low h (omega (arith, more)) (λ e. absurd (omega (arith, e, more))))
        other)
        (cases_order (f x) (f y))

-- there is a least route
pub some_route : (case : FareCase) → Contains (map (legs_along case 0) (orders (riders_of case))) (route_cost case 0 (riders_of case))
    → All (λ sum. route_cost case 0 (riders_of case) ≤ sum) (map (legs_along case 0) (orders (riders_of case))) → (route : List ℕ) × IsLeastRoute case route
some_route case reached least =
    let riders : List ℕ = riders_of case in
    let f : List ℕ → ℕ = legs_along case 0 in
    let count = length-orders riders in
    let some = factorial_pos (length riders) in
    let first = first_least (Contains (orders riders)) f (orders riders) (omega (arith, count, some)) (All-contains_itself (orders riders)) in
    let high : route_cost case 0 riders ≤ f first.0 = All-contains (λ o. route_cost case 0 riders ≤ f o) (orders riders) first.0 (All-from_map (λ sum. route_cost case 0 riders ≤ sum) f (orders riders) least) first.1 in
    let low : f first.0 ≤ route_cost case 0 riders = All-contains (λ sum. f first.0 ≤ sum) (map f (orders riders)) (route_cost case 0 riders)
    (All-mapped (λ sum. f first.0 ≤ sum) f (orders riders) first.2.0) reached in
    let cheapest : f first.0 ≡ route_cost case 0 riders = omega (arith, high, low) in (
      first.0,
      record {
        order = first.1;
        cheapest = cheapest;
        first = weaker (λ o. f o ≡ f first.0 → slice_cmp nat_cmp o first.0 ≢ Less) (λ o. f o ≡ route_cost case 0 riders → slice_cmp nat_cmp o first.0 ≢ Less) (orders riders)
            (λ o h e. h (e ∙ sym cheapest)) first.2.1;
      },
    )
  where
    All-mapped : {A B : Type 0} (P : B → Type 0) (f : A → B) (xs : List A) → All (λ x. P (f x)) xs → All P (map f xs)
    All-mapped P f [] all = All-nil P
    All-mapped {A} P f (x ∷ xs) all = let Q : A → Type 0 = λ x. P (f x) in All-cons P (f x) (map f xs) (All-head Q x xs all) (All-mapped P f xs (All-tail Q x xs all))
