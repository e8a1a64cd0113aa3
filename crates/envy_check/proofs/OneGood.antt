-- An allocation of maximum Nash welfare is envy-free up to one good.
use Rattle.std.proofs.Common.{◌≡◌, ◌≢◌, ℕ, ◌+◌, ◌-◌, ◌<◌, ◌≤◌, ◌⊎◌, List, [], ◌∷◌, length, get_or, Contains, arith, ap, ◌∙◌, subst, ⊎_elim}
use Rattle.std.proofs.lemmas.Bool.{cases_lt, cases_eq}
use Rattle.std.proofs.lemmas.List.{get_or_default}
use Rattle.std.proofs.lemmas.List.Elements.{All-contains}
use Rattle.arrayvec.specs.declared.array_vec.ArrayVec.{ArrayVec}
use Rattle.bid_rules.specs.declared.limits.TheConstants.{MEMBER_ROOM}
use Rattle.envy_check.specs.declared.goods.Ef1.{Ef1}
use Rattle.envy_check.specs.declared.goods.Ef1.TheVariants.{Content, Fails}
use Rattle.bid_rules.specs.declared.goods.GoodsCase.{GoodsCase}
use Rattle.bid_rules.specs.Goods.{order_of, owners_by_good, player_count, points}
use Rattle.envy_check.specs.Goods.{EndsEnvy, IsEf1, IsEf1Table, IsMostValued, goods_of, goods_without, points_for}
use Rattle.envy_check.proofs.GoodsEnvy.{points_without}
use Rattle.best_laws.specs.MaximumWelfare.{HasMaximumWelfare}
use Rattle.envy_check.specs.Fairness.{HasNoFails, IsEnvyFreeUpToOneGood}
use Rattle.envy_check.proofs.GoodsByNumber.{HasSearchOrder, good_there, points_same}
use Rattle.envy_check.proofs.MostValued.{most_there}
use Rattle.envy_check.proofs.MovedGood.{no_envy_past_each}
use Rattle.envy_check.proofs.GoodsWorth.{utility_worth}

-- the most valued good of anyone has no fewer points than another of theirs
no_fewer : (case : GoodsCase) (player : ℕ) (goods : List ℕ) (best good : ℕ) → IsMostValued case player goods best → Contains goods good → points case player good ≤ points case player best
no_fewer case player goods best good h there =
    let P : ℕ → Type 0 = λ o. (points case player o < points case player best) ⊎ ((points case player o ≡ points case player best) × (best ≤ o)) in
    ⊎_elim
    (λ (a : points case player good < points case player best). omega arith)
    (λ (a : (points case player good ≡ points case player best) × (best ≤ good)). let e = a.0 in omega (arith, e))
    (All-contains P goods good h.most there)

-- taking away the other's good to which the player gives most points ends the envy
pub ends_envy : (case : GoodsCase) (owners : List ℕ) (player other best : ℕ) → HasSearchOrder case → HasMaximumWelfare case owners → 1 ≤ player → player ≤ player_count case → 1 ≤ other → other ≤ player_count case
    → IsMostValued case player (goods_of (owners_by_good case owners) other) best → EndsEnvy case (owners_by_good case owners) player other best
ends_envy case owners player other best order most low high other_low other_high h =
    let by_good = owners_by_good case owners in
    let whole = most.allocation.each in
    let left = points_without case by_good player other best h.there in
    ⊎_elim
    (λ (is : player ≡ other).
    let own : points_for case player (goods_of by_good player) ≡ points_for case player (goods_of by_good other) = ap (λ p. points_for case player (goods_of by_good p)) is in
    omega (arith, left, own))
    (λ (apart : player ≢ other). ⊎_elim
    (λ (envy : points_for case player (goods_of by_good player) < points_for case player (goods_without (goods_of by_good other) best)).
    let mine = points_same case owners player player order whole in
    let same = utility_worth case player (order_of case) owners in
    let theirs = points_same case owners player other order whole in
    absurd (no_envy_past_each case owners player other order most low high other_low other_high apart (omega (arith, envy, left, theirs))
    (λ k within is.
    let fewer = no_fewer case player (goods_of by_good other) best (get_or (order_of case) k 0) h (good_there case owners other k order whole within is) in
    omega (arith, envy, left, mine, same, theirs, fewer))))
    (λ (none : points_for case player (goods_without (goods_of by_good other) best) ≤ points_for case player (goods_of by_good player)). none)
    (cases_lt (points_for case player (goods_of by_good player)) (points_for case player (goods_without (goods_of by_good other) best))))
    (cases_eq player other)

-- goods with points are there
goods_there : (case : GoodsCase) (player : ℕ) (goods : List ℕ) → 0 < points_for case player goods → 0 < length goods
goods_there case player [] some = absurd (omega arith)
goods_there case player (good ∷ goods) some = omega arith

-- the theorem
pub up_to_one_good : (case : GoodsCase) (owners : List ℕ) → HasSearchOrder case → HasMaximumWelfare case owners → IsEnvyFreeUpToOneGood case (owners_by_good case owners)
up_to_one_good case owners order most player other low high other_low other_high envy =
    let best = most_there case player (goods_of (owners_by_good case owners) other) (goods_there case player (goods_of (owners_by_good case owners) other) (omega (arith, envy))) in
    (best.0, best.1, ends_envy case owners player other best.0 order most low high other_low other_high best.1)

-- a table of answers whose rows all hold has no answer that fails
pub no_fails : (case : GoodsCase) (owners : List ℕ) (table : List (ArrayVec Ef1 MEMBER_ROOM (Unit {0}))) → HasSearchOrder case → HasMaximumWelfare case owners → IsEf1Table case (owners_by_good case owners) table → HasNoFails table
no_fails case owners table order most is k d l place other_d other_l fails =
    let none : ArrayVec Ef1 MEMBER_ROOM (Unit {0}) = record { items = [] } in
    let within : k < player_count case = (let e = is.players in omega (arith, e, l)) in
    let other_within : place < player_count case = (let e = is.others k d l in omega (arith, e, other_l)) in
    let entry = is.entries (k + 1) (omega arith) (omega (arith, within)) (place + 1) (omega arith) (omega (arith, other_within)) in
    let here : k + 1 - 1 ≡ k = omega arith in
    let there : place + 1 - 1 ≡ place = omega arith in
    let row : get_or table (k + 1 - 1) none ≡ get_or table k d = ap (λ j. get_or table j none) here ∙ get_or_default table k none d l in
    let answer : get_or (get_or table (k + 1 - 1) none).items (place + 1 - 1) Content ≡ get_or (get_or table k d).items place other_d =
    ap (λ (r : ArrayVec Ef1 MEMBER_ROOM (Unit {0})). get_or r.items (place + 1 - 1) Content) row ∙ ap (λ j. get_or (get_or table k d).items j Content) there
    ∙ get_or_default (get_or table k d).items place Content other_d other_l in
    let failing : IsEf1 case (owners_by_good case owners) (k + 1) (place + 1) Fails = subst (λ (a : Ef1). IsEf1 case (owners_by_good case owners) (k + 1) (place + 1) a) (answer ∙ fails) entry in
    let ends = up_to_one_good case owners order most (k + 1) (place + 1) (omega arith) (omega (arith, within)) (omega arith) (omega (arith, other_within)) failing.0 in
    failing.1 ends.0 ends.1.there ends.2
