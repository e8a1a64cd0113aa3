-- Owners by good number and owners in search order: each way and back.
use Rattle.std.proofs.Common.{◌≡◌, ℕ, suc, ◌+◌, ◌-◌, ◌<◌, ◌≤◌, List, [], ◌∷◌, length, get_or, arith, refl, sym, ap, ◌∙◌, subst}
use Rattle.std.proofs.lemmas.List.{length-map, get_or-map}
use Rattle.std.proofs.lemmas.List.FromFn.{get_or-map-range_with_len, length-map-range_with_len}
use Rattle.bid_rules.specs.declared.goods.GoodsCase.{GoodsCase}
use Rattle.bid_rules.specs.Goods.{AreOwners, IsAllocation, in_search_order, order_of, owner_of_good, owners_by_good, player_count}
use Rattle.split_lemmas.proofs.RoomPlaces.{room_place}
use Rattle.nash_bounds.proofs.OwnersByGood.{owner_at}
use Rattle.nash_bounds.proofs.SearchOrder.{order_permutes}
use Rattle.nash_bounds.proofs.SortedGoods.{order_all, order_length}

-- the search order has goods of the case
pub order_range : (case : GoodsCase) (k : ℕ) → k < case.facts.goods → (1 ≤ get_or (order_of case) k 0) × (get_or (order_of case) k 0 ≤ case.facts.goods)
order_range case k l = order_all case k 0 (let e = order_length case in omega arith)

-- lists of one length with the same entry at each place are the same
same_places : (xs ys : List ℕ) → length xs ≡ length ys → ((k : ℕ) → k < length xs → get_or xs k 0 ≡ get_or ys k 0) → xs ≡ ys
same_places [] [] e h = refl
same_places [] (y ∷ ys) e h = absurd (omega arith)
same_places (x ∷ xs) [] e h = absurd (omega arith)
same_places (x ∷ xs) (y ∷ ys) e h =
    let first : x ≡ y = h 0 (omega arith) in
    let rest : xs ≡ ys = same_places xs ys (omega arith) (λ k l. h (suc k) (omega arith)) in
    cc

-- the owners by good number, put in search order again, are the owners
pub in_order_again : (case : GoodsCase) (owners : List ℕ) → length owners ≡ case.facts.goods → in_search_order case (owners_by_good case owners) ≡ owners
in_order_again case owners whole = same_places (in_search_order case (owners_by_good case owners)) owners (count ∙ long ∙ sym whole) at
  where
    count : length (in_search_order case (owners_by_good case owners)) ≡ length (order_of case)
    count = length-map (order_of case) (λ good. get_or (owners_by_good case owners) (good - 1) 0)

    long : length (order_of case) ≡ case.facts.goods
    long = order_length case

    at : (k : ℕ) → k < length (in_search_order case (owners_by_good case owners)) → get_or (in_search_order case (owners_by_good case owners)) k 0 ≡ get_or owners k 0
    at k l =
        let within : k < case.facts.goods = (let a = count in let b = long in omega arith) in
        let range = order_range case k within in
        let good : ℕ = get_or (order_of case) k 0 in
        let read : get_or (in_search_order case (owners_by_good case owners)) k 0 ≡ get_or (owners_by_good case owners) (good - 1) 0 =
        get_or-map (λ g. get_or (owners_by_good case owners) (g - 1) 0) (order_of case) k 0 0 (let b = long in omega arith) in
        let inner : get_or (owners_by_good case owners) (good - 1) 0 ≡ owner_of_good case owners (1 + (good - 1)) =
        get_or-map-range_with_len (owner_of_good case owners) 1 case.facts.goods (good - 1) (1 + (good - 1)) 0 (omega (arith, range.0, range.1)) refl in
        let back : 1 + (good - 1) ≡ good = omega (arith, range.0) in
        read ∙ inner ∙ ap (owner_of_good case owners) back ∙ owner_at case owners k within

-- by good there are as many
pub owners_length : (case : GoodsCase) (owners : List ℕ) → length (owners_by_good case owners) ≡ case.facts.goods
owners_length case owners = length-map-range_with_len (owner_of_good case owners) 1 case.facts.goods

-- and they are players
pub owners_within : (case : GoodsCase) (owners : List ℕ) → IsAllocation case owners → AreOwners case (owners_by_good case owners)
owners_within case owners allocation = λ k d l.
    let g = case.facts.goods in
    let within : k < g = omega (arith, l, owners_length case owners) in
    let place = room_place g (order_of case) (k + 1) (order_permutes case) (omega arith) (omega arith) in
    let P : ℕ → Type 0 = λ owner. (1 ≤ owner) × (owner ≤ player_count case) in
    let by_place : get_or (owners_by_good case owners) k d ≡ owner_of_good case owners (k + 1) =
    get_or-map-range_with_len (owner_of_good case owners) 1 g k (k + 1) d within (omega arith) in
    let owner : owner_of_good case owners (k + 1) ≡ get_or owners place.0 0 = ap (owner_of_good case owners) (sym place.2) ∙ owner_at case owners place.0 place.1 in
    subst P (sym (by_place ∙ owner)) (allocation.owned place.0 0 (omega (arith, place.1, allocation.each)))

-- by good again
pub by_good_again : (case : GoodsCase) (owners : List ℕ) → length owners ≡ case.facts.goods → owners_by_good case (in_search_order case owners) ≡ owners
by_good_again case owners whole = same_places (owners_by_good case (in_search_order case owners)) owners (owners_length case (in_search_order case owners) ∙ sym whole) at
  where
    at : (k : ℕ) → k < length (owners_by_good case (in_search_order case owners)) → get_or (owners_by_good case (in_search_order case owners)) k 0 ≡ get_or owners k 0
    at k l =
        let g = case.facts.goods in
        let list = in_search_order case owners in
        let within : k < g = omega (arith, l, owners_length case list) in
        let place = room_place g (order_of case) (k + 1) (order_permutes case) (omega arith) (omega arith) in
        let by_place : get_or (owners_by_good case list) k 0 ≡ owner_of_good case list (k + 1) = get_or-map-range_with_len (owner_of_good case list) 1 g k (k + 1) 0 within (omega arith) in
        let owner : owner_of_good case list (k + 1) ≡ get_or list place.0 0 = ap (owner_of_good case list) (sym place.2) ∙ owner_at case list place.0 place.1 in
        let read : get_or list place.0 0 ≡ get_or owners (get_or (order_of case) place.0 0 - 1) 0 =
        get_or-map (λ good. get_or owners (good - 1) 0) (order_of case) place.0 0 0 (let e = order_length case in omega (arith, place.1, e)) in
        let good : get_or (order_of case) place.0 0 - 1 ≡ k = (let e = place.2 in omega arith) in
        by_place ∙ owner ∙ read ∙ ap (λ j. get_or owners j 0) good

-- in search order they are an allocation
pub in_order_allocated : (case : GoodsCase) (owners : List ℕ) → length owners ≡ case.facts.goods → AreOwners case owners → IsAllocation case (in_search_order case owners)
in_order_allocated case owners long owned =
    let count = length-map (order_of case) (λ good. get_or owners (good - 1) 0) in
    let whole = order_length case in
    record {
      each = count ∙ whole;
      owned = λ k d l.
          let range = order_range case k (omega (arith, count, whole)) in
          let at : get_or (in_search_order case owners) k d ≡ get_or owners (get_or (order_of case) k 0 - 1) 0 =
          get_or-map (λ good. get_or owners (good - 1) 0) (order_of case) k 0 d (omega (arith, count)) in
          subst (λ owner. (1 ≤ owner) × (owner ≤ player_count case)) (sym at) (owned (get_or (order_of case) k 0 - 1) 0 (omega (arith, range.0, range.1, long)));
    }
