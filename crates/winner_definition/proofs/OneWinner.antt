-- The rule leaves no choice: two divisions by it give each good in the same proportion, with the same weights.
use Rattle.std.proofs.Common.{◌≡◌, ℕ, suc, zero, ◌+◌, ◌-◌, ◌*◌, ◌<◌, ◌≤◌, ◌==◌, ◌&&◌, nat_lt, nat_le, min, max, cond, map, Bool, true, false, List, sum_by, arith, refl, sym, ap, ◌∙◌, ⊎_elim, subst}
use Rattle.std.specs.List.{range_with_len}
use Rattle.std.proofs.Math.Nat.{mul-le-mul, mul-le-mul_left}
use Rattle.std.proofs.lemmas.Bool.{cases_lt, cases_eq}
use Rattle.std.proofs.lemmas.Bool.Decides.{nat_tests}
use Rattle.bid_rules.specs.declared.goods.GoodsCase.{GoodsCase}
use Rattle.bid_rules.specs.Goods.{points}
use Rattle.winner_definition.specs.Divisions.{IsDivision, IsEquitable, first_points, parts_held, second_points}
use Rattle.winner_definition.specs.Winners.{IsMoved, IsUnmoved, IsWinner, first_owner, given_up, greater_points, lesser_points, may_move, moves_before, share_at_first}
use Rattle.split_lemmas.proofs.GoodsMembers.{map_same}
use Rattle.winner_definition.proofs.MovingOrder.{apart, may_lesser, through, total}
use Rattle.winner_definition.proofs.SupportedDivisions.{held_within}
use Rattle.winner_definition.proofs.Weighted.{sum_first, sum_le, sum_times}
use Rattle.winner_definition.proofs.WinnerWeights.{cases_test, given_cases, given_none, given_some, given_whole, held_at, winner_division}

-- where a sum of lower numbers is no lower, each number is the same
pub each_same : (f g : ℕ → ℕ) (a n : ℕ) → ((i : ℕ) → a ≤ i → i < a + n → f i ≤ g i) → sum_by g (range_with_len a n) ≤ sum_by f (range_with_len a n) → (i : ℕ) → a ≤ i → i < a + n → f i ≡ g i
each_same f g a zero h e i l m = absurd (omega arith)
each_same f g a (suc n) h e i l m =
    let here = h a (omega arith) (omega arith) in
    let below : (i : ℕ) → a + 1 ≤ i → i < a + 1 + n → f i ≤ g i = λ i l m. h i (omega arith) (omega arith) in
    let rest = sum_le f g (a + 1) n below in
    ⊎_elim
    (λ (s : a < i). each_same f g (a + 1) n below (omega (arith, e, here, sum_first f a n, sum_first g a n)) i (omega arith) (omega arith))
    (λ (s : i ≤ a). let is : i ≡ a = omega arith in ap f is ∙ (let x : f a ≡ g a = omega (arith, e, here, rest, sum_first f a n, sum_first g a n) in x) ∙ ap g (sym is))
    (cases_lt a i)

-- of two divisions the first gives player 1 no more of any good
abbrev NoMore : GoodsCase → ℕ → List ℕ → ℕ → List ℕ → Type 0
NoMore case parts held others_parts others = (good : ℕ) → 1 ≤ good → good < 1 + case.facts.goods → others_parts * parts_held held good ≤ parts * parts_held others good

-- the rests of one good, by numbers
rests : (k m h o : ℕ) → h ≤ k → o ≤ m → m * h ≤ k * o → k * (m - o) ≤ m * (k - h)
rests k m h o hk om le =
    let a : k * o + k * (m - o) ≡ k * m = split k o m om in
    let b : m * h + m * (k - h) ≡ m * k = split m h k hk in
    let c : k * m ≡ m * k = omega arith in
    omega (arith, a, b, c, le)
  where
    split : (k o m : ℕ) → o ≤ m → k * o + k * (m - o) ≡ k * m
    split k o m om = let e : o + (m - o) ≡ m = omega arith in (let s : k * o + k * (m - o) ≡ k * (o + (m - o)) = add k o (m - o) in s ∙ ap (λ n. k * n) e)
      where
        add : (k a b : ℕ) → k * a + k * b ≡ k * (a + b)
        add k a b = omega arith

rests_same : (k m h o : ℕ) → h ≤ k → o ≤ m → m * h ≤ k * o → k * (m - o) ≡ m * (k - h) → m * h ≡ k * o
rests_same k m h o hk om le e =
    let a : k * o + k * (m - o) ≡ k * m = split k o m om in
    let b : m * h + m * (k - h) ≡ m * k = split m h k hk in
    let c : k * m ≡ m * k = omega arith in
    omega (arith, a, b, c, e)
  where
    split : (k o m : ℕ) → o ≤ m → k * o + k * (m - o) ≡ k * m
    split k o m om = let e : o + (m - o) ≡ m = omega arith in (let s : k * o + k * (m - o) ≡ k * (o + (m - o)) = add k o (m - o) in s ∙ ap (λ n. k * n) e)
      where
        add : (k a b : ℕ) → k * a + k * b ≡ k * (a + b)
        add k a b = omega arith

swapped : (m h v : ℕ) → m * (h * v) ≡ (m * h) * v
swapped m h v = omega arith

cancelled : (x y v : ℕ) → 1 ≤ v → x * v ≡ y * v → x ≡ y
cancelled x y v some e = ⊎_elim
    (λ (s : x < y). absurd (less x y v some s e))
    (λ (s : y ≤ x). ⊎_elim (λ (t : y < x). absurd (less y x v some t (sym e))) (λ (t : x ≤ y). omega arith) (cases_lt y x))
    (cases_lt x y)
  where
    less : (a b d : ℕ) → 1 ≤ d → a < b → a * d ≡ b * d → ⊥
    less a b d some s e = let m : d * (a + 1) ≤ d * b = mul-le-mul_left d (let t : a + 1 ≤ b = omega arith in t) in let z : d * (a + 1) ≡ d * a + d = omega arith in omega (arith, m, z, e, some)

-- equitable divisions of which one gives player 1 no more are the same where anybody gives points
pub same_proportions : (case : GoodsCase) (k : ℕ) (held : List ℕ) (m : ℕ) (others : List ℕ) → IsDivision case k held → IsDivision case m others → IsEquitable case k held → IsEquitable case m others
    → NoMore case k held m others → (good : ℕ) → 1 ≤ good → good < 1 + case.facts.goods → 1 ≤ greater_points case good → m * parts_held held good ≡ k * parts_held others good
same_proportions case k held m others division other equal other_equal less good low high some =
    let n = case.facts.goods in
    let f1 = λ (i : ℕ). m * (parts_held held i * points case 1 i) in
    let g1 = λ (i : ℕ). k * (parts_held others i * points case 1 i) in
    let f2 = λ (i : ℕ). k * ((m - parts_held others i) * points case 2 i) in
    let g2 = λ (i : ℕ). m * ((k - parts_held held i) * points case 2 i) in
    let up : (i : ℕ) → 1 ≤ i → i < 1 + n → f1 i ≤ g1 i = λ i l h. products m (parts_held held i) k (parts_held others i) (points case 1 i) (less i l h) in
    let down : (i : ℕ) → 1 ≤ i → i < 1 + n → f2 i ≤ g2 i = λ i l h. products k (m - parts_held others i) m (k - parts_held held i) (points case 2 i)
    (rests k m (parts_held held i) (parts_held others i) (held_within case k held division i l h) (held_within case m others other i l h) (less i l h)) in
    let s1 = sum_le f1 g1 1 n up in
    let s2 = sum_le f2 g2 1 n down in
    let t1 = sum_times m (λ i. parts_held held i * points case 1 i) 1 n in
    let t2 = sum_times k (λ i. parts_held others i * points case 1 i) 1 n in
    let t3 = sum_times k (λ i. (m - parts_held others i) * points case 2 i) 1 n in
    let t4 = sum_times m (λ i. (k - parts_held held i) * points case 2 i) 1 n in
    let e1 : m * first_points case held ≡ m * second_points case k held = ap (λ x. m * x) equal in
    let e2 : k * first_points case others ≡ k * second_points case m others = ap (λ x. k * x) other_equal in
    let all1 = each_same f1 g1 1 n up (omega (arith, s1, s2, t1, t2, t3, t4, e1, e2)) good low high in
    let all2 = each_same f2 g2 1 n down (omega (arith, s1, s2, t1, t2, t3, t4, e1, e2)) good low high in
    ⊎_elim
    (λ (any : 0 < points case 1 good). cancelled (m * parts_held held good) (k * parts_held others good) (points case 1 good) any
    (sym (swapped m (parts_held held good) (points case 1 good)) ∙ all1 ∙ swapped k (parts_held others good) (points case 1 good)))
    (λ (none : points case 1 good ≤ 0).
    let two : 1 ≤ points case 2 good = greater (points case 1 good) (points case 2 good) some none in
    rests_same k m (parts_held held good) (parts_held others good) (held_within case k held division good low high) (held_within case m others other good low high) (less good low high)
    (cancelled (k * (m - parts_held others good)) (m * (k - parts_held held good)) (points case 2 good) two
    (sym (swapped k (m - parts_held others good) (points case 2 good)) ∙ all2 ∙ swapped m (k - parts_held held good) (points case 2 good))))
    (cases_lt 0 (points case 1 good))
  where
    products : (a b c d v : ℕ) → a * b ≤ c * d → a * (b * v) ≤ c * (d * v)
    products a b c d v h = let x : v * (a * b) ≤ v * (c * d) = mul-le-mul_left v h in omega (arith, x)

    greater : (p q : ℕ) → 1 ≤ max p q → p ≤ 0 → 1 ≤ q
    greater p q some none = omega arith

-- player 1's share where first owners have given up so many parts
abbrev share_left : GoodsCase → ℕ → (ℕ → ℕ) → ℕ → ℕ
share_left case k given good = cond (first_owner case good == 1) (k - given good) (given good)

left_mine : (o k g : ℕ) → o ≡ 1 → cond (o == 1) (k - g) g ≡ k - g
left_mine o k g own = grind (arith, nat_tests)

left_theirs : (o k g : ℕ) → (o ≡ 1 → ⊥) → cond (o == 1) (k - g) g ≡ g
left_theirs o k g own = grind (arith, nat_tests)

-- divisions of which the first leaves player 1 no more: what each has given up is in proportion
given_same : (case : GoodsCase) (k : ℕ) (given : ℕ → ℕ) (m : ℕ) (other_given : ℕ → ℕ)
    → IsDivision case k (map (share_left case k given) (range_with_len 1 case.facts.goods)) → IsDivision case m (map (share_left case m other_given) (range_with_len 1 case.facts.goods))
    → IsEquitable case k (map (share_left case k given) (range_with_len 1 case.facts.goods)) → IsEquitable case m (map (share_left case m other_given) (range_with_len 1 case.facts.goods))
    → ((good : ℕ) → given good ≤ k) → ((good : ℕ) → other_given good ≤ m)
    → ((good : ℕ) → first_owner case good ≡ 1 → k * other_given good ≤ m * given good)
    → ((good : ℕ) → (first_owner case good ≡ 1 → ⊥) → m * given good ≤ k * other_given good)
    → (good : ℕ) → 1 ≤ good → good < 1 + case.facts.goods → 1 ≤ greater_points case good → m * given good ≡ k * other_given good
given_same case k given m other_given division other equal other_equal few other_few mine theirs good low high some =
    let at = held_at (share_left case k given) case.facts.goods good low (omega arith) in
    let other_at = held_at (share_left case m other_given) case.facts.goods good low (omega arith) in
    let less : NoMore case k (map (share_left case k given) (range_with_len 1 case.facts.goods)) m (map (share_left case m other_given) (range_with_len 1 case.facts.goods)) =
    λ g l h.
    let a = held_at (share_left case k given) case.facts.goods g l (omega arith) in
    let b = held_at (share_left case m other_given) case.facts.goods g l (omega arith) in
    ⊎_elim
    (λ (own : first_owner case g ≡ 1).
    rw (a, b, left_mine (first_owner case g) k (given g) own, left_mine (first_owner case g) m (other_given g) own) (rests m k (other_given g) (given g) (other_few g) (few g) (mine g own)))
    (λ (not_own : first_owner case g ≡ 1 → ⊥).
    rw (a, b, left_theirs (first_owner case g) k (given g) not_own, left_theirs (first_owner case g) m (other_given g) not_own) (theirs g not_own))
    (cases_eq (first_owner case g) 1) in
    let same = same_proportions case k (map (share_left case k given) (range_with_len 1 case.facts.goods)) m (map (share_left case m other_given) (range_with_len 1 case.facts.goods)) division other equal other_equal less good low high some in
    ⊎_elim
    (λ (own : first_owner case good ≡ 1).
    let e : m * (k - given good) ≡ k * (m - other_given good) = ap (λ s. m * s) (sym (at ∙ left_mine (first_owner case good) k (given good) own)) ∙ same ∙ ap (λ s. k * s) (other_at ∙ left_mine (first_owner case good) m (other_given good) own) in
    sym (rests_same m k (other_given good) (given good) (other_few good) (few good) (mine good own) e))
    (λ (not_own : first_owner case good ≡ 1 → ⊥).
    ap (λ s. m * s) (sym (at ∙ left_theirs (first_owner case good) k (given good) not_own)) ∙ same ∙ ap (λ s. k * s) (other_at ∙ left_theirs (first_owner case good) m (other_given good) not_own))
    (cases_eq (first_owner case good) 1)

-- who gives more of two points
abbrev chosen : ℕ → ℕ → ℕ
chosen p q = cond (nat_le q p) 1 2

-- the other of two owners
owner_two : (case : GoodsCase) (good : ℕ) → (first_owner case good ≡ 1 → ⊥) → first_owner case good ≡ 2
owner_two case good other = numbers (points case 1 good) (points case 2 good) other
  where
    numbers : (p q : ℕ) → (chosen p q ≡ 1 → ⊥) → chosen p q ≡ 2
    numbers p q other = grind (arith, nat_tests)

test_owner : (o O l : ℕ) (b : Bool) → (((o == O) && nat_lt 0 l) && b) ≡ true → o ≡ O
test_owner o O l b h = grind (arith, nat_tests)

test_may : (m b : Bool) → (m && b) ≡ true → m ≡ true
test_may m b h = grind (arith, nat_tests)

test_before : (m b : Bool) → (m && b) ≡ true → b ≡ true
test_before m b h = grind (arith, nat_tests)

test_both : (m b : Bool) → m ≡ true → b ≡ true → (m && b) ≡ true
test_both m b h k = grind (arith, nat_tests)

-- the test of what has moved before the last
abbrev moved_test : GoodsCase → ℕ → ℕ → Bool
moved_test case last good = may_move case (first_owner case last) good && moves_before case good last

-- nothing of the other player's has been given up
pub given_elsewhere : (case : GoodsCase) (k last moved good : ℕ) → (first_owner case good ≡ first_owner case last → ⊥) → given_up case k last moved good ≡ 0
given_elsewhere case k last moved good other = ⊎_elim
    (λ (t : moved_test case last good ≡ true). absurd (other (test_owner (first_owner case good) (first_owner case last) (lesser_points case good) (moves_before case good last) t)))
    (λ (f : moved_test case last good ≡ false). given_none good last moved k (moved_test case last good) (λ e. other (ap (first_owner case) e)) f)
    (cases_test (moved_test case last good))

pub given_at : (case : GoodsCase) (k last moved : ℕ) → given_up case k last moved last ≡ moved
given_at case k last moved = given_some last last moved (cond (moved_test case last last) k 0) refl

given_few : (case : GoodsCase) (k last moved good : ℕ) → moved ≤ k → given_up case k last moved good ≤ k
given_few case k last moved good within = ⊎_elim
    (λ (same : good ≡ last). let e = given_some good last moved (cond (moved_test case last good) k 0) same in omega (arith, e, within))
    (λ (other : good ≡ last → ⊥). ⊎_elim (λ (e : given_up case k last moved good ≡ k). omega (arith, e)) (λ (e : given_up case k last moved good ≡ 0). omega (arith, e)) (given_cases case k last moved good other))
    (cases_eq good last)

pub greater_some : (case : GoodsCase) (player good : ℕ) → may_move case player good ≡ true → 1 ≤ greater_points case good
greater_some case player good may = let h = may_lesser case player good may in numbers (points case 1 good) (points case 2 good) h
  where
    numbers : (p q : ℕ) → 1 ≤ min p q → 1 ≤ max p q
    numbers p q h = omega arith

zero_le : (k x : ℕ) (g : ℕ) → g ≡ 0 → k * g ≤ x
zero_le k x g e = let z : k * g ≡ k * 0 = ap (λ n. k * n) e in omega (arith, z)

times_some : (m g : ℕ) → 1 ≤ m → 1 ≤ g → 1 ≤ m * g
times_some m g a b = let h : 1 * 1 ≤ m * g = mul-le-mul a b in omega (arith, h)

-- two divisions of the shares, and that they are equitable
record AreTwo (case : GoodsCase) (k : ℕ) (given : ℕ → ℕ) (m : ℕ) (other_given : ℕ → ℕ) : Type 0 where
  division : IsDivision case k (map (share_left case k given) (range_with_len 1 case.facts.goods))
  other : IsDivision case m (map (share_left case m other_given) (range_with_len 1 case.facts.goods))
  equal : IsEquitable case k (map (share_left case k given) (range_with_len 1 case.facts.goods))
  other_equal : IsEquitable case m (map (share_left case m other_given) (range_with_len 1 case.facts.goods))
  few : (good : ℕ) → given good ≤ k
  other_few : (good : ℕ) → other_given good ≤ m

-- of two, where one player alone gives up goods in one, it is not so that the same player gives up none in the other
moved_apart : (case : GoodsCase) (k last moved m : ℕ) (other_given : ℕ → ℕ) → AreTwo case k (given_up case k last moved) m other_given
    → 1 ≤ last → last ≤ case.facts.goods → may_move case (first_owner case last) last ≡ true → 1 ≤ moved
    → ((good : ℕ) → first_owner case good ≡ first_owner case last → other_given good ≡ 0) → ⊥
moved_apart case k last moved m other_given two low high may some none =
    let G = given_up case k last moved in
    let same : m * G last ≡ k * other_given last = ⊎_elim
    (λ (first : first_owner case last ≡ 1). given_same case k G m other_given two.division two.other two.equal two.other_equal two.few two.other_few
    (λ good own. zero_le k (m * G good) (other_given good) (none good (own ∙ sym first)))
    (λ good own. zero_le m (k * other_given good) (G good) (given_elsewhere case k last moved good (λ e. own (e ∙ first))))
    last low (omega arith) (greater_some case (first_owner case last) last may))
    (λ (second : first_owner case last ≡ 1 → ⊥). sym (given_same case m other_given k G two.other two.division two.other_equal two.equal two.other_few two.few
    (λ good own. zero_le m (k * other_given good) (G good) (given_elsewhere case k last moved good (λ e. second (sym e ∙ own))))
    (λ good own. zero_le k (m * G good) (other_given good) (none good (owner_two case good own ∙ sym (owner_two case last second))))
    last low (omega arith) (greater_some case (first_owner case last) last may)))
    (cases_eq (first_owner case last) 1) in
    let here : m * G last ≡ m * moved = ap (λ g. m * g) (given_at case k last moved) in
    let zero_here : k * other_given last ≡ k * 0 = ap (λ g. k * g) (none last refl) in
    let any = times_some m moved two.other.some some in
    let h : ⊥ = omega (arith, same, here, zero_here, any) in h

-- where both give up goods of one player, in order, the proportions are the same
ordered_same : (case : GoodsCase) (owner k : ℕ) (given : ℕ → ℕ) (m : ℕ) (other_given : ℕ → ℕ) → AreTwo case k given m other_given
    → ((good : ℕ) → (first_owner case good ≡ owner → ⊥) → given good ≡ 0) → ((good : ℕ) → (first_owner case good ≡ owner → ⊥) → other_given good ≡ 0)
    → ((good : ℕ) → first_owner case good ≡ owner → m * given good ≤ k * other_given good)
    → (good : ℕ) → 1 ≤ good → good ≤ case.facts.goods → 1 ≤ greater_points case good → m * given good ≡ k * other_given good
ordered_same case owner k given m other_given two none other_none less good low high some = ⊎_elim
    (λ (first : owner ≡ 1). sym (given_same case m other_given k given two.other two.division two.other_equal two.equal two.other_few two.few
    (λ g own. less g (own ∙ sym first))
    (λ g own. zero_le k (m * given g) (other_given g) (other_none g (λ e. own (e ∙ first))))
    good low (omega arith) some))
    (λ (second : owner ≡ 1 → ⊥). given_same case k given m other_given two.division two.other two.equal two.other_equal two.few two.other_few
    (λ g own. zero_le k (m * given g) (other_given g) (other_none g (λ e. second (sym e ∙ own))))
    (λ g own. ⊎_elim
    (λ (mine : first_owner case g ≡ owner). less g mine)
    (λ (not_mine : first_owner case g ≡ owner → ⊥). zero_le m (k * other_given g) (given g) (none g not_mine))
    (cases_eq (first_owner case g) owner))
    good low (omega arith) some)
    (cases_eq owner 1)

-- before the same last good, the same goods have moved whole
given_both : (case : GoodsCase) (k last moved m other_moved good : ℕ) → (good ≡ last → ⊥) → m * given_up case k last moved good ≡ k * given_up case m last other_moved good
given_both case k last moved m other_moved good other = ⊎_elim
    (λ (t : moved_test case last good ≡ true).
    let a : m * given_up case k last moved good ≡ m * k = ap (λ g. m * g) (given_whole good last moved k (moved_test case last good) other t) in
    let b : k * given_up case m last other_moved good ≡ k * m = ap (λ g. k * g) (given_whole good last other_moved m (moved_test case last good) other t) in
    let z : k * m ≡ m * k = omega arith in
    omega (arith, a, b, z))
    (λ (f : moved_test case last good ≡ false).
    let a : m * given_up case k last moved good ≡ m * 0 = ap (λ g. m * g) (given_none good last moved k (moved_test case last good) other f) in
    let b : k * given_up case m last other_moved good ≡ k * 0 = ap (λ g. k * g) (given_none good last other_moved m (moved_test case last good) other f) in
    omega (arith, a, b))
    (cases_test (moved_test case last good))

-- where the last good of one moves before that of the other, of the same player, they are not both equitable
before_apart : (case : GoodsCase) (k last moved m other_last other_moved : ℕ) → AreTwo case k (given_up case k last moved) m (given_up case m other_last other_moved)
    → may_move case (first_owner case last) last ≡ true → moved ≤ k
    → 1 ≤ other_last → other_last ≤ case.facts.goods → may_move case (first_owner case other_last) other_last ≡ true → 1 ≤ other_moved
    → first_owner case last ≡ first_owner case other_last → moves_before case last other_last ≡ true → ⊥
before_apart case k last moved m other_last other_moved two may within low high other_may other_some own before =
    let G = given_up case k last moved in
    let H = given_up case m other_last other_moved in
    let apart_here : other_last ≡ last → ⊥ = λ e. apart case last other_last before (subst (λ g. moves_before case other_last g ≡ true) e (subst (λ g. moves_before case g other_last ≡ true) (sym e) before)) in
    let less : (good : ℕ) → first_owner case good ≡ first_owner case last → m * G good ≤ k * H good = λ good mine. ⊎_elim
    (λ (same : good ≡ last).
    let all : H good ≡ m = given_whole good other_last other_moved m (moved_test case other_last good) (λ e. apart_here (sym e ∙ same))
    (test_both (may_move case (first_owner case other_last) good) (moves_before case good other_last)
    (subst (λ g. may_move case (first_owner case other_last) g ≡ true) (sym same) (subst (λ p. may_move case p last ≡ true) own may))
    (subst (λ g. moves_before case g other_last ≡ true) (sym same) before)) in
    whole m k (G good) (H good) (given_few case k last moved good within) all)
    (λ (not_last : good ≡ last → ⊥). ⊎_elim
    (λ (t : moved_test case last good ≡ true).
    let may_good = test_may (may_move case (first_owner case last) good) (moves_before case good last) t in
    let earlier = test_before (may_move case (first_owner case last) good) (moves_before case good last) t in
    let later = through case good last other_last (may_lesser case (first_owner case last) good may_good) (may_lesser case (first_owner case last) last may) (may_lesser case (first_owner case other_last) other_last other_may) earlier before in
    let all : H good ≡ m = given_whole good other_last other_moved m (moved_test case other_last good)
    (λ e. apart case last other_last before (subst (λ g. moves_before case g last ≡ true) e earlier))
    (test_both (may_move case (first_owner case other_last) good) (moves_before case good other_last) (subst (λ p. may_move case p good ≡ true) own may_good) later) in
    whole m k (G good) (H good) (given_few case k last moved good within) all)
    (λ (f : moved_test case last good ≡ false). zero_le m (k * H good) (G good) (given_none good last moved k (moved_test case last good) not_last f))
    (cases_test (moved_test case last good)))
    (cases_eq good last) in
    let same = ordered_same case (first_owner case last) k G m H two
    (λ good other. given_elsewhere case k last moved good other)
    (λ good other. given_elsewhere case m other_last other_moved good (λ e. other (e ∙ sym own)))
    less other_last low high (greater_some case (first_owner case other_last) other_last other_may) in
    let none : G other_last ≡ 0 = ⊎_elim
    (λ (t : moved_test case last other_last ≡ true). absurd (apart case last other_last before (test_before (may_move case (first_owner case last) other_last) (moves_before case other_last last) t)))
    (λ (f : moved_test case last other_last ≡ false). given_none other_last last moved k (moved_test case last other_last) apart_here f)
    (cases_test (moved_test case last other_last)) in
    let a : m * G other_last ≡ m * 0 = ap (λ g. m * g) none in
    let b : k * H other_last ≡ k * other_moved = ap (λ g. k * g) (given_at case m other_last other_moved) in
    let any = times_some k other_moved two.division.some other_some in
    let h : ⊥ = omega (arith, same, a, b, any) in h
  where
    whole : (m k g h : ℕ) → g ≤ k → h ≡ m → m * g ≤ k * h
    whole m k g h few all = let x : m * g ≤ m * k = mul-le-mul_left m few in let y : k * h ≡ k * m = ap (λ n. k * n) all in let z : k * m ≡ m * k = omega arith in omega (arith, x, y, z)

-- with the same last good, as much of it has moved
last_same : (case : GoodsCase) (k last moved m other_moved : ℕ) → AreTwo case k (given_up case k last moved) m (given_up case m last other_moved)
    → 1 ≤ last → last ≤ case.facts.goods → may_move case (first_owner case last) last ≡ true → m * moved ≤ k * other_moved → m * moved ≡ k * other_moved
last_same case k last moved m other_moved two low high may few =
    let G = given_up case k last moved in
    let H = given_up case m last other_moved in
    let less : (good : ℕ) → first_owner case good ≡ first_owner case last → m * G good ≤ k * H good = λ good mine. ⊎_elim
    (λ (same : good ≡ last).
    let a : m * G good ≡ m * moved = ap (λ g. m * g) (given_some good last moved (cond (moved_test case last good) k 0) same) in
    let b : k * H good ≡ k * other_moved = ap (λ g. k * g) (given_some good last other_moved (cond (moved_test case last good) m 0) same) in
    omega (arith, a, b, few))
    (λ (other : good ≡ last → ⊥). let e = given_both case k last moved m other_moved good other in omega (arith, e))
    (cases_eq good last) in
    let same = ordered_same case (first_owner case last) k G m H two
    (λ good other. given_elsewhere case k last moved good other) (λ good other. given_elsewhere case m last other_moved good other)
    less last low high (greater_some case (first_owner case last) last may) in
    let a : m * G last ≡ m * moved = ap (λ g. m * g) (given_at case k last moved) in
    let b : k * H last ≡ k * other_moved = ap (λ g. k * g) (given_at case m last other_moved) in
    omega (arith, same, a, b)

make_two : (case : GoodsCase) (k : ℕ) (held : List ℕ) (given : ℕ → ℕ) (m : ℕ) (others : List ℕ) (other_given : ℕ → ℕ)
    → held ≡ map (share_left case k given) (range_with_len 1 case.facts.goods) → others ≡ map (share_left case m other_given) (range_with_len 1 case.facts.goods)
    → IsDivision case k held → IsDivision case m others → IsEquitable case k held → IsEquitable case m others
    → ((good : ℕ) → given good ≤ k) → ((good : ℕ) → other_given good ≤ m) → AreTwo case k given m other_given
make_two case k held given m others other_given shares other_shares division other equal other_equal few other_few = record {
  division = subst (λ hs. IsDivision case k hs) shares division;
  other = subst (λ hs. IsDivision case m hs) other_shares other;
  equal = subst (λ hs. IsEquitable case k hs) shares equal;
  other_equal = subst (λ hs. IsEquitable case m hs) other_shares other_equal;
  few = few;
  other_few = other_few;
}

-- nothing is given up where nothing has moved
abbrev no_given : ℕ → ℕ
no_given good = 0

-- so player 1's shares are those at first
unmoved_shares : (case : GoodsCase) (k : ℕ) → map (share_at_first case k 1) (range_with_len 1 case.facts.goods) ≡ map (share_left case k no_given) (range_with_len 1 case.facts.goods)
unmoved_shares case k = map_same (share_at_first case k 1) (share_left case k no_given) (range_with_len 1 case.facts.goods) (λ good. numbers (first_owner case good) k (no_given good) refl)
  where
    numbers : (o k g : ℕ) → g ≡ 0 → cond (o == 1) k 0 ≡ cond (o == 1) (k - g) g
    numbers o k g e = grind (arith, nat_tests)

-- shares in proportion, by numbers
proportion : (case : GoodsCase) (k : ℕ) (held : List ℕ) (given : ℕ → ℕ) (m : ℕ) (others : List ℕ) (other_given : ℕ → ℕ)
    → held ≡ map (share_left case k given) (range_with_len 1 case.facts.goods) → others ≡ map (share_left case m other_given) (range_with_len 1 case.facts.goods)
    → ((good : ℕ) → given good ≤ k) → ((good : ℕ) → other_given good ≤ m) → (good : ℕ) → 1 ≤ good → good ≤ case.facts.goods
    → m * given good ≡ k * other_given good → m * parts_held held good ≡ k * parts_held others good
proportion case k held given m others other_given shares other_shares few other_few good low high same =
    let a : parts_held held good ≡ share_left case k given good = ap (λ hs. parts_held hs good) shares ∙ held_at (share_left case k given) case.facts.goods good low high in
    let b : parts_held others good ≡ share_left case m other_given good = ap (λ hs. parts_held hs good) other_shares ∙ held_at (share_left case m other_given) case.facts.goods good low high in
    ⊎_elim
    (λ (own : first_owner case good ≡ 1).
    ap (λ s. m * s) (a ∙ left_mine (first_owner case good) k (given good) own) ∙ rest (given good) (other_given good) (few good) (other_few good) same ∙ sym (ap (λ s. k * s) (b ∙ left_mine (first_owner case good) m (other_given good) own)))
    (λ (not_own : first_owner case good ≡ 1 → ⊥).
    ap (λ s. m * s) (a ∙ left_theirs (first_owner case good) k (given good) not_own) ∙ same ∙ sym (ap (λ s. k * s) (b ∙ left_theirs (first_owner case good) m (other_given good) not_own)))
    (cases_eq (first_owner case good) 1)
  where
    add : (k a b : ℕ) → k * a + k * b ≡ k * (a + b)
    add k a b = omega arith

    rest : (g h : ℕ) → g ≤ k → h ≤ m → m * g ≡ k * h → m * (k - g) ≡ k * (m - h)
    rest g h few other_few same =
        let a = add m g (k - g) ∙ ap (λ n. m * n) (let e : g + (k - g) ≡ k = omega arith in e) in
        let b = add k h (m - h) ∙ ap (λ n. k * n) (let e : h + (m - h) ≡ m = omega arith in e) in
        let c : m * k ≡ k * m = omega arith in
        omega (arith, a, b, c, same)

-- goods have moved in one and not in the other: not both are equitable
not_unmoved : (case : GoodsCase) (k : ℕ) (held : List ℕ) (a b m : ℕ) (others : List ℕ) (d e : ℕ) → IsDivision case k held → IsDivision case m others → IsEquitable case k held → IsEquitable case m others
    → IsMoved case k held a b → IsUnmoved case m others d e → ⊥
not_unmoved case k held a b m others d e division other equal other_equal moved unmoved =
    moved_apart case k moved.last moved.moved m no_given
    (make_two case k held (given_up case k moved.last moved.moved) m others no_given moved.shares (unmoved.shares ∙ unmoved_shares case m) division other equal other_equal
    (λ good. given_few case k moved.last moved.moved good moved.within) (λ good. omega arith))
    moved.low moved.high moved.may moved.some (λ good own. refl)

-- two in which goods have moved
moved_same : (case : GoodsCase) (k : ℕ) (held : List ℕ) (a b m : ℕ) (others : List ℕ) (d e : ℕ) → IsDivision case k held → IsDivision case m others → IsEquitable case k held → IsEquitable case m others
    → IsMoved case k held a b → IsMoved case m others d e
    → (a ≡ d) × (b ≡ e) × ((good : ℕ) → 1 ≤ good → good ≤ case.facts.goods → m * parts_held held good ≡ k * parts_held others good)
moved_same case k held a b m others d e division other equal other_equal one two =
    let G = given_up case k one.last one.moved in
    let H = given_up case m two.last two.moved in
    let few = λ (good : ℕ). given_few case k one.last one.moved good one.within in
    let other_few = λ (good : ℕ). given_few case m two.last two.moved good two.within in
    let both = make_two case k held G m others H one.shares two.shares division other equal other_equal few other_few in
    let back = make_two case m others H k held G two.shares one.shares other division other_equal equal other_few few in
    let own : first_owner case one.last ≡ first_owner case two.last = ⊎_elim
    (λ (same : first_owner case one.last ≡ first_owner case two.last). same)
    (λ (differ : first_owner case one.last ≡ first_owner case two.last → ⊥). absurd (moved_apart case k one.last one.moved m H both one.low one.high one.may one.some
    (λ good mine. given_elsewhere case m two.last two.moved good (λ other. differ (sym mine ∙ other)))))
    (cases_eq (first_owner case one.last) (first_owner case two.last)) in
    let last : one.last ≡ two.last = ⊎_elim
    (λ (t : moves_before case one.last two.last ≡ true). absurd (before_apart case k one.last one.moved m two.last two.moved both one.may one.within two.low two.high two.may two.some own t))
    (λ (f : moves_before case one.last two.last ≡ false). ⊎_elim
    (λ (same : one.last ≡ two.last). same)
    (λ (t : moves_before case two.last one.last ≡ true). absurd (before_apart case m two.last two.moved k one.last one.moved back two.may two.within one.low one.high one.may one.some (sym own) t))
    (total case one.last two.last f))
    (cases_test (moves_before case one.last two.last)) in
    let other_shares : others ≡ map (share_left case m (given_up case m one.last two.moved)) (range_with_len 1 case.facts.goods) =
    subst (λ l. others ≡ map (share_left case m (given_up case m l two.moved)) (range_with_len 1 case.facts.goods)) (sym last) two.shares in
    let again_few = λ (good : ℕ). given_few case m one.last two.moved good two.within in
    let again = make_two case k held G m others (given_up case m one.last two.moved) one.shares other_shares division other equal other_equal few again_few in
    let again_back = make_two case m others (given_up case m one.last two.moved) k held G other_shares one.shares other division other_equal equal again_few few in
    let moved : m * one.moved ≡ k * two.moved = ⊎_elim
    (λ (s : k * two.moved < m * one.moved). sym (last_same case m one.last two.moved k one.moved again_back one.low one.high one.may (omega arith)))
    (λ (s : m * one.moved ≤ k * two.moved). last_same case k one.last one.moved m two.moved again one.low one.high one.may s)
    (cases_lt (k * two.moved) (m * one.moved)) in (
      one.first_weight ∙ ap (points case 2) last ∙ sym two.first_weight,
      one.second_weight ∙ ap (points case 1) last ∙ sym two.second_weight,
      λ good low high. proportion case k held G m others (given_up case m one.last two.moved) one.shares other_shares few again_few good low high (⊎_elim
          (λ (same : good ≡ one.last).
          let x : m * G good ≡ m * one.moved = ap (λ g. m * g) (given_some good one.last one.moved (cond (moved_test case one.last good) k 0) same) in
          let y : k * given_up case m one.last two.moved good ≡ k * two.moved = ap (λ g. k * g) (given_some good one.last two.moved (cond (moved_test case one.last good) m 0) same) in
          omega (arith, x, y, moved))
          (λ (not_last : good ≡ one.last → ⊥). given_both case k one.last one.moved m two.moved good not_last)
          (cases_eq good one.last)),
    )

-- two in which none has
unmoved_same : (case : GoodsCase) (k : ℕ) (held : List ℕ) (a b m : ℕ) (others : List ℕ) (d e : ℕ) → IsUnmoved case k held a b → IsUnmoved case m others d e
    → (a ≡ d) × (b ≡ e) × ((good : ℕ) → 1 ≤ good → good ≤ case.facts.goods → m * parts_held held good ≡ k * parts_held others good)
unmoved_same case k held a b m others d e one two = (
  one.first_weight ∙ sym two.first_weight,
  one.second_weight ∙ sym two.second_weight,
  λ good low high. proportion case k held no_given m others no_given (one.shares ∙ unmoved_shares case k) (two.shares ∙ unmoved_shares case m) (λ g. omega arith) (λ g. omega arith) good low high
      (zeros m k),
)
  where
    zeros : (m k : ℕ) → m * 0 ≡ k * 0
    zeros m k = omega arith

-- two winners are the same: the weights, and each share as a fraction
pub one_winner : (case : GoodsCase) (k : ℕ) (held : List ℕ) (a b m : ℕ) (others : List ℕ) (d e : ℕ) → IsWinner case k held a b → IsWinner case m others d e
    → (a ≡ d) × (b ≡ e) × ((good : ℕ) → 1 ≤ good → good ≤ case.facts.goods → m * parts_held held good ≡ k * parts_held others good)
one_winner case k held a b m others d e one two =
    let division = winner_division case k held a b one in
    let other = winner_division case m others d e two in
    ⊎_elim
    (λ (unmoved : IsUnmoved case k held a b). ⊎_elim
    (λ (still : IsUnmoved case m others d e). unmoved_same case k held a b m others d e unmoved still)
    (λ (moved : IsMoved case m others d e). absurd (not_unmoved case m others d e k held a b other division two.equal one.equal moved unmoved))
    two.by_rule)
    (λ (moved : IsMoved case k held a b). ⊎_elim
    (λ (still : IsUnmoved case m others d e). absurd (not_unmoved case k held a b m others d e division other one.equal two.equal moved still))
    (λ (too : IsMoved case m others d e). moved_same case k held a b m others d e division other one.equal two.equal moved too)
    two.by_rule)
    one.by_rule
