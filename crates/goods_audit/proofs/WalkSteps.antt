-- What seeing one prefix does to the count and to what is found first.
use Rattle.std.proofs.Common.{◌≡◌, ℕ, ◌+◌, ◌-◌, ◌<◌, ◌≤◌, true, false, List, ◌∷◌, ◌++◌, length, count_by, Option, Some, None, arith, refl, sym, ap, ◌∙◌, subst}
use Rattle.bid_rules.specs.declared.goods.GoodsCase.{GoodsCase}
use Rattle.bid_rules.specs.Goods.{player_count}
use Rattle.nash_bounds.specs.OwnerLists.{below}
use Rattle.goods_audit.specs.Domination.{OwnersByGood, leaves_room}
use Rattle.goods_audit.specs.Paths.{IsFirst, found_in, later_ones, to_come}
use Rattle.goods_audit.proofs.OpenPrefixes.{PointsFall, TopFalls, count_parts, found_parts, none_counted, none_found, one_counted, short_not_found, shut_below, whole_found}
use Rattle.goods_audit.proofs.PathLists.{come_of}

-- where the same is found in what is to come, the first that is found is the same
same_first : (case : GoodsCase) (owners : List ℕ) (all rest next : List (List ℕ)) (first : Option OwnersByGood) → found_in case owners rest ≡ found_in case owners next → IsFirst case owners all rest first → IsFirst case owners all next first
same_first case owners all rest next None e h = h ∙ e
same_first case owners all rest next (Some list) e h = h

-- what is seen and what is to come
abbrev pub IsSeen : GoodsCase → List ℕ → ℕ → List (List ℕ) → List (List ℕ) → Type 0
IsSeen case owners more rest next =
    (count_by (leaves_room case owners) rest ≡ more + count_by (leaves_room case owners) next)
    × ((all : List (List ℕ)) (first : Option OwnersByGood) → IsFirst case owners all rest first → IsFirst case owners all next first)

-- a prefix that leaves no room is left with all that begin with it
pub seen_shut : PointsFall → TopFalls → (case : GoodsCase) (owners prefix : List ℕ) (next : List (List ℕ)) → 0 < length prefix → length prefix ≤ case.facts.goods → leaves_room case owners prefix ≡ false → next ≡ later_ones case prefix
    → IsSeen case owners 0 (to_come case prefix) next
seen_shut fall top case owners prefix next some short shut is =
    let p = leaves_room case owners in
    let block = below (player_count case) (case.facts.goods - length prefix) prefix in
    let rest = later_ones case prefix in
    let none = shut_below fall top case owners (case.facts.goods - length prefix) prefix (omega (arith, short)) shut in
    let come = come_of case prefix some in
    let counted : count_by p (to_come case prefix) ≡ count_by p (block ++ rest) = ap (count_by p) come in
    let parts = count_parts p block rest in
    let zero_block = none_counted p block none in
    let after : count_by p next ≡ count_by p rest = ap (count_by p) is in
    let found : found_in case owners (to_come case prefix) ≡ found_in case owners next =
    ap (found_in case owners) come ∙ found_parts case owners block rest ∙ ap (λ xs. xs ++ found_in case owners rest) (none_found case owners block none) ∙ ap (found_in case owners) (sym is) in
    (omega (arith, counted, parts, zero_block, after), λ all first h. same_first case owners all (to_come case prefix) next first found h)

-- a shorter prefix that leaves room is counted, and those with one owner more come next
pub seen_short : (case : GoodsCase) (owners prefix : List ℕ) (next : List (List ℕ)) → length prefix < case.facts.goods → leaves_room case owners prefix ≡ true → to_come case prefix ≡ prefix ∷ next
    → IsSeen case owners 1 (to_come case prefix) next
seen_short case owners prefix next short room come =
    let p = leaves_room case owners in (
      ap (count_by p) come ∙ one_counted p prefix next room,
      λ all first h. same_first case owners all (to_come case prefix) next first (ap (found_in case owners) come ∙ short_not_found case owners prefix next short) h,
    )

-- an allocation has itself alone below
pub come_whole : (case : GoodsCase) (prefix : List ℕ) → 0 < length prefix → length prefix ≡ case.facts.goods → to_come case prefix ≡ prefix ∷ later_ones case prefix
come_whole case prefix some whole =
    let none : case.facts.goods - length prefix ≡ 0 = omega (arith, whole) in
    come_of case prefix some ∙ ap (λ k. below (player_count case) k prefix ++ later_ones case prefix) none

-- an allocation that leaves room is counted, and kept where none was found before
pub seen_whole : (case : GoodsCase) (owners prefix : List ℕ) (next all : List (List ℕ)) (old new : Option OwnersByGood) → length prefix ≡ case.facts.goods → leaves_room case owners prefix ≡ true → to_come case prefix ≡ prefix ∷ next
    → ((list : OwnersByGood) → old ≡ Some list → new ≡ Some list) → (old ≡ None → (list : OwnersByGood) × (new ≡ Some list) × (list.items ≡ prefix))
    → IsFirst case owners all (to_come case prefix) old → IsFirst case owners all next new
seen_whole case owners prefix next all None new whole room come earlier kept h =
    let list = kept refl in
    let found : found_in case owners all ≡ prefix ∷ found_in case owners next = h ∙ ap (found_in case owners) come ∙ whole_found case owners prefix next whole room in
    subst (IsFirst case owners all next) (sym list.1) (found_in case owners next, found ∙ ap (λ xs. xs ∷ found_in case owners next) (sym list.2))
seen_whole case owners prefix next all (Some list) new whole room come earlier kept h = subst (IsFirst case owners all next) (sym (earlier list refl)) h

-- and counted
pub count_whole : (case : GoodsCase) (owners prefix : List ℕ) (next : List (List ℕ)) → leaves_room case owners prefix ≡ true → to_come case prefix ≡ prefix ∷ next
    → count_by (leaves_room case owners) (to_come case prefix) ≡ 1 + count_by (leaves_room case owners) next
count_whole case owners prefix next room come = ap (count_by (leaves_room case owners)) come ∙ one_counted (leaves_room case owners) prefix next room
