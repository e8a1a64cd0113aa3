-- Who gives up goods had more before: else both could not have the same.
use Rattle.std.proofs.Common.{◌≡◌, ℕ, ◌+◌, ◌-◌, ◌*◌, ◌<◌, ◌≤◌, ◌==◌, cond, map, List, sum_by, arith, refl, sym, ap, ◌∙◌, ◌⊎◌, inl, inr, ⊎_elim}
use Rattle.std.specs.List.{range_with_len}
use Rattle.std.proofs.Math.Nat.{mul-le-mul_left}
use Rattle.std.proofs.lemmas.Bool.{cases_lt, cases_eq}
use Rattle.bid_rules.specs.declared.goods.GoodsCase.{GoodsCase}
use Rattle.bid_rules.specs.Goods.{points}
use Rattle.winner_definition.specs.Divisions.{IsEquitable, first_points, second_points}
use Rattle.winner_definition.specs.Procedure.{other_player, points_at_first}
use Rattle.winner_definition.specs.Winners.{IsMoved, first_owner, given_up, share_after}
use Rattle.winner_definition.proofs.FinalMoves.{ended_points, first_of, mine, rest_after, second_of, theirs}
use Rattle.winner_definition.proofs.FirstShares.{all_of, none_of}
use Rattle.winner_definition.proofs.OneWinner.{each_same, given_at, given_elsewhere, greater_some}
use Rattle.winner_definition.proofs.RicherPlayers.{greater_is, other_owner}
use Rattle.winner_definition.proofs.Weighted.{sum_le, sum_times}

-- a first owner is one of the two players
owner_either : (case : GoodsCase) (good : ℕ) → (first_owner case good ≡ 1) ⊎ (first_owner case good ≡ 2)
owner_either case good = ⊎_elim (λ (own : first_owner case good ≡ 1). inl own) (λ (other : first_owner case good ≡ 1 → ⊥). inr (other_owner case 1 good (inl refl) other)) (cases_eq (first_owner case good) 1)

-- so many times what a player has of a good at first
abbrev worth_first : GoodsCase → ℕ → ℕ → ℕ → ℕ
worth_first case parts player good = parts * cond (first_owner case good == player) (points case player good) 0

worth_mine : (case : GoodsCase) (parts player good : ℕ) → first_owner case good ≡ player → worth_first case parts player good ≡ parts * points case player good
worth_mine case parts player good own = ap (λ v. parts * v) (all_of (first_owner case good) player (points case player good) own)

worth_theirs : (case : GoodsCase) (parts player good : ℕ) → (first_owner case good ≡ player → ⊥) → worth_first case parts player good ≡ 0
worth_theirs case parts player good other = ap (λ v. parts * v) (none_of (first_owner case good) player (points case player good) other) ∙ omega arith

no_player : (player : ℕ) → (player ≡ 1) ⊎ (player ≡ 2) → player ≡ 3 - player → ⊥
no_player player either e = grind arith

times_few : (a b v : ℕ) → a ≤ b → a * v ≤ b * v
times_few a b v few = let m : v * a ≤ v * b = mul-le-mul_left v few in omega (arith, m)

-- the player who gives up goods has no more of any good than at first
owner_less : (case : GoodsCase) (parts last moved good : ℕ) → share_after case parts last moved (first_owner case last) good * points case (first_owner case last) good ≤ worth_first case parts (first_owner case last) good
owner_less case parts last moved good =
    let player = first_owner case last in
    let given = given_up case parts last moved good in
    let v = points case player good in
    ⊎_elim
    (λ (own : first_owner case good ≡ player).
    let s : share_after case parts last moved player good * v ≡ (parts - given) * v = ap (λ s. s * v) (mine (first_owner case good) player parts given own) in
    let few = times_few (parts - given) parts v (omega arith) in
    let worth = worth_mine case parts player good own in
    omega (arith, s, few, worth))
    (λ (other : first_owner case good ≡ player → ⊥).
    let s : share_after case parts last moved player good * v ≡ 0 * v = ap (λ s. s * v) (theirs (first_owner case good) player parts given other ∙ given_elsewhere case parts last moved good other) in
    omega (arith, s))
    (cases_eq (first_owner case good) player)

-- and the other no less
other_more : (case : GoodsCase) (parts last moved good : ℕ) → worth_first case parts (3 - first_owner case last) good ≤ share_after case parts last moved (3 - first_owner case last) good * points case (3 - first_owner case last) good
other_more case parts last moved good =
    let either = owner_either case last in
    let player = 3 - first_owner case last in
    let given = given_up case parts last moved good in
    let v = points case player good in
    ⊎_elim
    (λ (own : first_owner case good ≡ player).
    let none = given_elsewhere case parts last moved good (λ e. no_player (first_owner case last) either (sym e ∙ own)) in
    let s : share_after case parts last moved player good * v ≡ parts * v = ap (λ s. s * v) (mine (first_owner case good) player parts given own ∙ (let e : parts - given ≡ parts = omega (arith, none) in e)) in
    let worth = worth_mine case parts player good own in
    omega (arith, s, worth))
    (λ (other : first_owner case good ≡ player → ⊥). let worth = worth_theirs case parts player good other in omega (arith, worth))
    (cases_eq (first_owner case good) player)

-- the sums of both
both_ended : (case : GoodsCase) (parts last moved : ℕ) → moved ≤ parts
    → first_points case (map (share_after case parts last moved 1) (range_with_len 1 case.facts.goods)) ≡ second_points case parts (map (share_after case parts last moved 1) (range_with_len 1 case.facts.goods))
    → ended_points case parts last moved 1 ≡ ended_points case parts last moved 2
both_ended case parts last moved within equal =
    sym (first_of case (share_after case parts last moved 1)) ∙ equal
    ∙ second_of case parts (share_after case parts last moved 1) (share_after case parts last moved 2) (λ good. rest_after case parts last moved good within)

pub richer_was : (case : GoodsCase) (parts : ℕ) (held : List ℕ) (first second : ℕ) → IsEquitable case parts held → (by_rule : IsMoved case parts held first second)
    → points_at_first case (other_player (first_owner case by_rule.last)) < points_at_first case (first_owner case by_rule.last)
richer_was case parts held first second equal by_rule =
    let last = by_rule.last in
    let moved = by_rule.moved in
    let player = first_owner case last in
    let either = owner_either case last in
    let n = case.facts.goods in
    let all = λ (p : ℕ). ended_points case parts last moved p in
    let same_both = both_ended case parts last moved by_rule.within (ap (first_points case) (sym by_rule.shares) ∙ equal ∙ ap (second_points case parts) by_rule.shares) in
    let same : ended_points case parts last moved player ≡ ended_points case parts last moved (3 - player) = ⊎_elim
    (λ (is : player ≡ 1). let e : 3 - player ≡ 2 = omega arith in ap all is ∙ same_both ∙ ap all (sym e))
    (λ (is : player ≡ 2). let e : 3 - player ≡ 1 = omega arith in ap all is ∙ sym same_both ∙ ap all (sym e))
    either in
    let f = λ (good : ℕ). share_after case parts last moved player good * points case player good in
    let g = λ (good : ℕ). worth_first case parts player good in
    let rich : sum_by g (range_with_len 1 n) ≡ parts * points_at_first case player = sum_times parts (λ good. cond (first_owner case good == player) (points case player good) 0) 1 n in
    let poor : sum_by (λ good. worth_first case parts (3 - player) good) (range_with_len 1 n) ≡ parts * points_at_first case (3 - player) = sum_times parts (λ good. cond (first_owner case good == (3 - player)) (points case (3 - player) good) 0) 1 n in
    let more = sum_le (λ good. worth_first case parts (3 - player) good) (λ good. share_after case parts last moved (3 - player) good * points case (3 - player) good) 1 n (λ i l m. other_more case parts last moved i) in
    ⊎_elim
    (λ (less : sum_by f (range_with_len 1 n) < sum_by g (range_with_len 1 n)). fewer (points_at_first case (3 - player)) (points_at_first case player) parts (omega (arith, rich, poor, more, same, less)))
    (λ (no_less : sum_by g (range_with_len 1 n) ≤ sum_by f (range_with_len 1 n)).
    let here : f last ≡ g last = each_same f g 1 n (λ i l m. owner_less case parts last moved i) no_less last by_rule.low (omega (arith, by_rule.high)) in
    let greater = greater_is case player last either refl in
    let any = greater_some case player last by_rule.may in
    let share : f last ≡ (parts - moved) * points case player last = ap (λ s. s * points case player last) (mine (first_owner case last) player parts (given_up case parts last moved last) refl ∙ ap (λ m. parts - m) (given_at case parts last moved)) in
    let worth : g last ≡ parts * points case player last = worth_mine case parts player last refl in
    absurd (differ parts moved (points case player last) by_rule.some by_rule.within (omega (arith, greater, any)) (sym share ∙ here ∙ worth)))
    (cases_lt (sum_by f (range_with_len 1 n)) (sum_by g (range_with_len 1 n)))
  where
    fewer : (x y k : ℕ) → k * x < k * y → x < y
    fewer x y k h = ⊎_elim (λ (s : x < y). s) (λ (s : y ≤ x). let m : k * y ≤ k * x = mul-le-mul_left k s in absurd (omega (arith, h, m))) (cases_lt x y)

    differ : (k m v : ℕ) → 1 ≤ m → m ≤ k → 1 ≤ v → (k - m) * v ≡ k * v → ⊥
    differ k m v some within any e =
        let whole : k ≡ (k - m) + m = omega arith in
        let sum : k * v ≡ (k - m) * v + m * v = ap (λ n. n * v) whole ∙ omega arith in
        let part : m * 1 ≤ m * v = mul-le-mul_left m any in
        omega (arith, e, sum, part, some)
