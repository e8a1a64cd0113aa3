-- Printed shares are those of a division, and the rules on them are the rules on its parts.
use Rattle.std.proofs.Common.{◌≡◌, ℕ, ℤ, pos, suc, zero, ◌+◌, ◌-◌, ◌*◌, ◌<◌, ◌≤◌, ◌+ℤ◌, ◌-ℤ◌, ◌*ℤ◌, ◌<ℤ◌, ◌≤ℤ◌, nat_lt, ◌&&◌, cond, Bool, true, false, List, [], ◌∷◌, length, map, get_or, All, sum_by, unsigned_abs, arith, refl, sym, ap, ◌∙◌, ⊎_elim, subst}
use Rattle.std.specs.List.{AllZip, range_with_len}
use Rattle.std.proofs.lemmas.Bool.{cases_lt}
use Rattle.std.proofs.lemmas.Bool.Decides.{nat_tests}
use Rattle.std.proofs.lemmas.Int.{by_lt_z, ints}
use Rattle.std.proofs.lemmas.List.{length-map, get_or-map}
use Rattle.std.proofs.lemmas.List.Sums.{sum_by-cons}
use Rattle.std.proofs.Math.IntN.{pos-*ℤ-pos, *ℤ_comm, zero-*ℤ}
use Rattle.bid_rules.specs.declared.goods.GoodsCase.{GoodsCase}
use Rattle.bid_rules.specs.Fractions.{Fraction, HasSameValue, IsQuotient}
use Rattle.bid_rules.specs.Goods.{IsValidGoodsCase, player_count, points}
use Rattle.bid_rules.specs.Sums.{total}
use Rattle.split_lemmas.proofs.FractionLaws.{same_value, sum_of_quotients}
use Rattle.split_lemmas.proofs.SignedProducts.{add_times, le_times, less_times, times_cancel, times_swap}
use Rattle.split_lemmas.proofs.Zipped.{AllZip-get_or, length-AllZip}
use Rattle.winner_definition.specs.Divisions.{AreWeights, IsDivision, first_points, parts_held, second_points}
use Rattle.winner_definition.specs.Parts.{is_split, part_of, parts_list, parts_of}
use Rattle.winner_definition.specs.Printed.{AreFairShares, AreProperShares, HaveTotal, IsShare, SupportShares, first_total, first_worth, second_total, second_worth}
use Rattle.winner_definition.specs.Shown.{AreShares, AreTotals, HasOneSplit, IsShown, IsSplit, share_of}
use Rattle.winner_definition.proofs.ShownDivisions.{equitable, shown_efficient, shown_envy_free}
use Rattle.winner_definition.proofs.SplitShares.{less_share, share_less, share_some, some_share}
use Rattle.winner_definition.proofs.SupportedDivisions.{held_within}
use Rattle.winner_definition.proofs.WinnerWeights.{cases_test}

-- a share by its numerator without a sign
numerator : (share : Fraction) → IsShare share → pos (unsigned_abs share.0) ≡ share.0
numerator share is = let low = is.1 in omega (arith, ints, low)

numerator_few : (share : Fraction) → IsShare share → unsigned_abs share.0 ≤ share.1
numerator_few share is = let low = is.1 in let high = is.2 in omega (arith, ints, low, high)

-- its parts by numbers
part_numbers : (n d k : ℕ) → n ≤ d → ((nat_lt 0 n && nat_lt n d) ≡ true → d ≡ k) → n * k ≡ cond (nat_lt 0 n) (cond (nat_lt n d) n k) 0 * d
part_numbers n d k few same = ⊎_elim
    (λ (some : 0 < n). ⊎_elim
    (λ (less : n < d).
    let e : d ≡ k = same (both n d some less) in
    let p = split n d k some less in
    ap (λ m. n * m) (sym e) ∙ ap (λ m. m * d) (sym p))
    (λ (all : d ≤ n). let p = whole n d k some all in let e : n ≡ d = omega arith in ap (λ m. m * k) e ∙ swap d k ∙ ap (λ m. m * d) (sym p))
    (cases_lt n d))
    (λ (none : n ≤ 0). let p = nothing n d k none in let e : n ≡ 0 = omega arith in ap (λ m. m * k) e ∙ zeros k d ∙ ap (λ m. m * d) (sym p))
    (cases_lt 0 n)
  where
    both : (n d : ℕ) → 0 < n → n < d → (nat_lt 0 n && nat_lt n d) ≡ true
    both n d some less = grind (arith, nat_tests)

    split : (n d k : ℕ) → 0 < n → n < d → cond (nat_lt 0 n) (cond (nat_lt n d) n k) 0 ≡ n
    split n d k some less = grind (arith, nat_tests)

    whole : (n d k : ℕ) → 0 < n → d ≤ n → cond (nat_lt 0 n) (cond (nat_lt n d) n k) 0 ≡ k
    whole n d k some all = grind (arith, nat_tests)

    nothing : (n d k : ℕ) → n ≤ 0 → cond (nat_lt 0 n) (cond (nat_lt n d) n k) 0 ≡ 0
    nothing n d k none = grind (arith, nat_tests)

    swap : (d k : ℕ) → d * k ≡ k * d
    swap d k = omega arith

    zeros : (k d : ℕ) → 0 * k ≡ 0 * d
    zeros k d = omega arith

part_few : (n d k : ℕ) → ((nat_lt 0 n && nat_lt n d) ≡ true → d ≡ k) → cond (nat_lt 0 n) (cond (nat_lt n d) n k) 0 ≤ k
part_few n d k same = ⊎_elim
    (λ (s : (nat_lt 0 n && nat_lt n d) ≡ true). let e = same s in split n d k s e)
    (λ (s : (nat_lt 0 n && nat_lt n d) ≡ false). other n d k s)
    (cases_test (nat_lt 0 n && nat_lt n d))
  where
    split : (n d k : ℕ) → (nat_lt 0 n && nat_lt n d) ≡ true → d ≡ k → cond (nat_lt 0 n) (cond (nat_lt n d) n k) 0 ≤ k
    split n d k s e = grind (arith, nat_tests)

    other : (n d k : ℕ) → (nat_lt 0 n && nat_lt n d) ≡ false → cond (nat_lt 0 n) (cond (nat_lt n d) n k) 0 ≤ k
    other n d k s = grind (arith, nat_tests)

-- where a split share has as many parts as there are, the share is so many of them
part_quotient : (share : Fraction) (parts : ℕ) → IsShare share → (is_split share ≡ true → share.1 ≡ parts) → IsQuotient share (pos (part_of parts share)) parts
part_quotient share parts is same = (
  is.0,
  ap (λ z. z *ℤ pos parts) (sym (numerator share is)) ∙ pos-*ℤ-pos (unsigned_abs share.0) parts
      ∙ ap pos (part_numbers (unsigned_abs share.0) share.1 parts (numerator_few share is) same) ∙ sym (pos-*ℤ-pos (part_of parts share) share.1),
)

-- each of the shares
part_quotients : (shares : List Fraction) (parts : ℕ) → All IsShare shares → ((i : ℕ) → i < length shares → is_split (get_or shares i (pos 0, 1)) ≡ true → (get_or shares i (pos 0, 1)).1 ≡ parts)
    → AllZip (λ share part. IsQuotient share (pos part) parts) shares (map (part_of parts) shares)
part_quotients [] parts are same = tt
part_quotients (share ∷ shares) parts are same = (
  part_quotient share parts (are 0 (pos 0, 1) (omega arith)) (same 0 (omega arith)),
  part_quotients shares parts (λ k d l. are (suc k) d (omega arith)) (λ i l. same (suc i) (omega arith)),
)

-- one split at most, by place
abbrev pub OneAt : List Fraction → Type 0
OneAt shares = (i j : ℕ) → i < length shares → j < length shares → is_split (get_or shares i (pos 0, 1)) ≡ true → is_split (get_or shares j (pos 0, 1)) ≡ true → i ≡ j

parts_are : (shares : List Fraction) → OneAt shares → (i : ℕ) → i < length shares → is_split (get_or shares i (pos 0, 1)) ≡ true → (get_or shares i (pos 0, 1)).1 ≡ parts_of shares
parts_are [] one i l split = absurd (omega arith)
parts_are (share ∷ shares) one zero l split = sym (taken (is_split share) share.1 (parts_of shares) split)
  where
    taken : (b : Bool) (x y : ℕ) → b ≡ true → cond b x y ≡ x
    taken b x y h = grind (arith, nat_tests)
parts_are (share ∷ shares) one (suc i) l split = ⊎_elim
    (λ (here : is_split share ≡ true). let e : suc i ≡ 0 = one (suc i) 0 l (omega arith) split here in absurd (omega arith))
    (λ (not_here : is_split share ≡ false). parts_are shares (λ i j l m s t. let e : suc i ≡ suc j = one (suc i) (suc j) (omega arith) (omega arith) s t in omega (arith, e)) i (omega arith) split
    ∙ sym (passed (is_split share) share.1 (parts_of shares) not_here))
    (cases_test (is_split share))
  where
    passed : (b : Bool) (x y : ℕ) → b ≡ false → cond b x y ≡ y
    passed b x y h = grind (arith, nat_tests)

-- a split share is one by its numerator without a sign
split_is : (share : Fraction) → IsShare share → is_split share ≡ true → (pos 0 <ℤ share.0) × (share.0 <ℤ pos share.1)
split_is share is split =
    let low = is.1 in
    let n = unsigned_abs share.0 in
    let some : 0 < n = lower n share.1 split in
    let less : n < share.1 = upper n share.1 split in
    (omega (arith, ints, low, some), omega (arith, ints, low, less))
  where
    lower : (n d : ℕ) → (nat_lt 0 n && nat_lt n d) ≡ true → 0 < n
    lower n d h = grind (arith, nat_tests)

    upper : (n d : ℕ) → (nat_lt 0 n && nat_lt n d) ≡ true → n < d
    upper n d h = grind (arith, nat_tests)

pub one_at : (shares : List Fraction) → All IsShare shares → HasOneSplit shares → OneAt shares
one_at shares are one i j l m s t =
    let e : suc i ≡ suc j = one (suc i) (suc j) (omega arith) (omega arith) (omega arith) (omega arith) (here i l s) (here j m t) in
    omega (arith, e)
  where
    here : (i : ℕ) → i < length shares → is_split (get_or shares i (pos 0, 1)) ≡ true → IsSplit shares (suc i)
    here i l s =
        let e : suc i - 1 ≡ i = omega arith in
        subst (λ k. (pos 0 <ℤ (get_or shares k (pos 0, 1)).0) × ((get_or shares k (pos 0, 1)).0 <ℤ pos (get_or shares k (pos 0, 1)).1)) (sym e) (split_is (get_or shares i (pos 0, 1)) (are i (pos 0, 1) l) s)

-- and the other way round
is_split_from : (share : Fraction) → IsShare share → pos 0 <ℤ share.0 → share.0 <ℤ pos share.1 → is_split share ≡ true
is_split_from share is low high = both (unsigned_abs share.0) share.1 (omega (arith, ints, low)) (let from = is.1 in omega (arith, ints, from, high))
  where
    both : (n d : ℕ) → 0 < n → n < d → (nat_lt 0 n && nat_lt n d) ≡ true
    both n d some less = grind (arith, nat_tests)

pub one_from : (shares : List Fraction) → All IsShare shares → OneAt shares → HasOneSplit shares
one_from shares are one good other low high other_low other_high split other_split =
    let e : good - 1 ≡ other - 1 = one (good - 1) (other - 1) (omega arith) (omega arith)
    (is_split_from (get_or shares (good - 1) (pos 0, 1)) (are (good - 1) (pos 0, 1) (omega arith)) split.0 split.1)
    (is_split_from (get_or shares (other - 1) (pos 0, 1)) (are (other - 1) (pos 0, 1) (omega arith)) other_split.0 other_split.1) in
    omega (arith, e)

parts_some : (shares : List Fraction) → All IsShare shares → 1 ≤ parts_of shares
parts_some [] are = omega arith
parts_some (share ∷ shares) are = ⊎_elim
    (λ (here : is_split share ≡ true). let e = taken (is_split share) share.1 (parts_of shares) here in let some = (are 0 (pos 0, 1) (omega arith)).0 in omega (arith, e, some))
    (λ (not_here : is_split share ≡ false). let e = passed (is_split share) share.1 (parts_of shares) not_here in let some = parts_some shares (λ k d l. are (suc k) d (omega arith)) in omega (arith, e, some))
    (cases_test (is_split share))
  where
    taken : (b : Bool) (x y : ℕ) → b ≡ true → cond b x y ≡ x
    taken b x y h = grind (arith, nat_tests)

    passed : (b : Bool) (x y : ℕ) → b ≡ false → cond b x y ≡ y
    passed b x y h = grind (arith, nat_tests)

-- proper shares are those of a division
pub proper_shares : (case : GoodsCase) (shares : List Fraction) → AreProperShares case shares → AreShares case shares (parts_of shares) (parts_list shares)
proper_shares case shares proper =
    let same = parts_are shares (one_at shares proper.within proper.one_split) in
    record {
      division = record {
        some = parts_some shares proper.within;
        each = length-map shares (part_of (parts_of shares)) ∙ proper.each;
        within = λ k d l.
            let inside : k < length shares = omega (arith, l, length-map shares (part_of (parts_of shares))) in
            let at : get_or (map (part_of (parts_of shares)) shares) k d ≡ part_of (parts_of shares) (get_or shares k (pos 0, 1)) = get_or-map (part_of (parts_of shares)) shares k (pos 0, 1) d inside in
            let few = part_few (unsigned_abs (get_or shares k (pos 0, 1)).0) (get_or shares k (pos 0, 1)).1 (parts_of shares) (same k inside) in
            omega (arith, at, few);
      };
      quotients = part_quotients shares (parts_of shares) proper.within same;
      one_split = proper.one_split;
    }

-- player 1's share of a good as so many parts
share_quotient : (case : GoodsCase) (shares : List Fraction) (parts : ℕ) (held : List ℕ) → IsDivision case parts held → AllZip (λ share part. IsQuotient share (pos part) parts) shares held
    → (good : ℕ) → 1 ≤ good → good ≤ case.facts.goods → IsQuotient (share_of shares good) (pos (parts_held held good)) parts
share_quotient case shares parts held division quotients good low high =
    let count = length-AllZip (λ (share : Fraction) (part : ℕ). IsQuotient share (pos part) parts) shares held quotients in
    let few = division.each in
    AllZip-get_or (λ (share : Fraction) (part : ℕ). IsQuotient share (pos part) parts) shares held (good - 1) (pos 0, 1) 0 (omega (arith, low, high, count, few)) quotients

-- a share times points
quotient_times : (share : Fraction) (part parts v : ℕ) → IsQuotient share (pos part) parts → IsQuotient (share.0 *ℤ pos v, share.1) (pos (part * v)) parts
quotient_times share part parts v quotient = (
  quotient.0,
  times_swap share.0 v parts ∙ ap (λ z. z *ℤ pos v) quotient.1 ∙ times_swap (pos part) share.1 v ∙ ap (λ z. z *ℤ pos share.1) (pos-*ℤ-pos part v),
)

-- the rest of a share
quotient_rest : (share : Fraction) (part parts : ℕ) → part ≤ parts → IsQuotient share (pos part) parts → IsQuotient (pos share.1 -ℤ share.0, share.1) (pos (parts - part)) parts
quotient_rest share part parts within quotient =
    let rest = pos share.1 -ℤ share.0 in
    let all : rest +ℤ share.0 ≡ pos share.1 = omega (arith, ints) in
    let left : rest *ℤ pos parts +ℤ share.0 *ℤ pos parts ≡ pos share.1 *ℤ pos parts = sym (add_times rest share.0 parts) ∙ ap (λ z. z *ℤ pos parts) all in
    let both : pos (parts - part) +ℤ pos part ≡ pos parts = omega (arith, ints, within) in
    let right : pos (parts - part) *ℤ pos share.1 +ℤ pos part *ℤ pos share.1 ≡ pos parts *ℤ pos share.1 = sym (add_times (pos (parts - part)) (pos part) share.1) ∙ ap (λ z. z *ℤ pos share.1) both in
    let swap = *ℤ_comm (pos share.1) (pos parts) in
    let is = quotient.1 in
    (quotient.0, omega (arith, ints, left, right, swap, is))

-- a sum of natural numbers as one of whole numbers
total_pos : (f : ℕ → ℕ) (xs : List ℕ) → total (λ x. pos (f x)) xs ≡ pos (sum_by f xs)
total_pos f [] = refl
total_pos f (x ∷ xs) = let h = total_pos f xs in let e = sum_by-cons f x xs in omega (arith, ints, h, e)

-- each number of a range is related to its image
zip_range : {B : Type 0} (R : ℕ → B → Type 0) (g : ℕ → B) (a n : ℕ) → ((i : ℕ) → a ≤ i → i < a + n → R i (g i)) → AllZip R (range_with_len a n) (map g (range_with_len a n))
zip_range R g a zero h = tt
zip_range R g a (suc n) h = (h a (omega arith) (omega arith), zip_range R g (a + 1) n (λ i l m. h i (omega arith) (omega arith)))

-- the totals of both players in parts
first_quotient : (case : GoodsCase) (shares : List Fraction) (parts : ℕ) (held : List ℕ) → IsDivision case parts held → AllZip (λ share part. IsQuotient share (pos part) parts) shares held
    → IsQuotient (first_total case shares) (pos (first_points case held)) parts
first_quotient case shares parts held division quotients =
    let f = λ (good : ℕ). parts_held held good * points case 1 good in
    subst (λ w. IsQuotient (first_total case shares) w parts) (total_pos f (range_with_len 1 case.facts.goods))
    (sum_of_quotients (λ (good : ℕ). pos (f good)) parts (range_with_len 1 case.facts.goods) (map (first_worth case shares) (range_with_len 1 case.facts.goods))
    (zip_range (λ (good : ℕ) (worth : Fraction). IsQuotient worth (pos (f good)) parts) (first_worth case shares) 1 case.facts.goods
    (λ i l m. quotient_times (share_of shares i) (parts_held held i) parts (points case 1 i) (share_quotient case shares parts held division quotients i l (omega arith)))))

second_quotient : (case : GoodsCase) (shares : List Fraction) (parts : ℕ) (held : List ℕ) → IsDivision case parts held → AllZip (λ share part. IsQuotient share (pos part) parts) shares held
    → IsQuotient (second_total case shares) (pos (second_points case parts held)) parts
second_quotient case shares parts held division quotients =
    let f = λ (good : ℕ). (parts - parts_held held good) * points case 2 good in
    subst (λ w. IsQuotient (second_total case shares) w parts) (total_pos f (range_with_len 1 case.facts.goods))
    (sum_of_quotients (λ (good : ℕ). pos (f good)) parts (range_with_len 1 case.facts.goods) (map (second_worth case shares) (range_with_len 1 case.facts.goods))
    (zip_range (λ (good : ℕ) (worth : Fraction). IsQuotient worth (pos (f good)) parts) (second_worth case shares) 1 case.facts.goods
    (λ i l m. quotient_times (pos (share_of shares i).1 -ℤ (share_of shares i).0, (share_of shares i).1) (parts - parts_held held i) parts (points case 2 i)
    (quotient_rest (share_of shares i) (parts_held held i) parts (held_within case parts held division i l m) (share_quotient case shares parts held division quotients i l (omega arith))))))

-- a fraction of the same value is the same quotient
same_quotient : (a b : Fraction) (whole : ℤ) (parts : ℕ) → 0 < b.1 → HasSameValue a b → IsQuotient a whole parts → IsQuotient b whole parts
same_quotient a b whole parts positive same quotient = (
  positive,
  times_cancel (b.0 *ℤ pos parts) (whole *ℤ pos b.1) a.1 quotient.0
      (times_swap b.0 parts a.1 ∙ ap (λ z. z *ℤ pos parts) (sym same) ∙ times_swap a.0 b.1 parts ∙ ap (λ z. z *ℤ pos b.1) quotient.1 ∙ times_swap whole a.1 b.1),
)

-- both have the total, in fractions and in parts
pub totals_to : (case : GoodsCase) (shares : List Fraction) (total : Fraction) (parts : ℕ) (held : List ℕ) → AreShares case shares parts held → HaveTotal case shares total → AreTotals case parts held total
totals_to case shares total parts held are have = record {
  first = same_quotient (first_total case shares) total (pos (first_points case held)) parts have.positive have.first (first_quotient case shares parts held are.division are.quotients);
  second = same_quotient (second_total case shares) total (pos (second_points case parts held)) parts have.positive have.second (second_quotient case shares parts held are.division are.quotients);
}

pub totals_from : (case : GoodsCase) (shares : List Fraction) (total : Fraction) (parts : ℕ) (held : List ℕ) → AreShares case shares parts held → AreTotals case parts held total → HaveTotal case shares total
totals_from case shares total parts held are have = record {
  positive = have.first.0;
  first = same_value (first_total case shares) total (pos (first_points case held)) parts are.division.some (first_quotient case shares parts held are.division are.quotients) have.first;
  second = same_value (second_total case shares) total (pos (second_points case parts held)) parts are.division.some (second_quotient case shares parts held are.division are.quotients) have.second;
}

-- weights support shares and parts alike
pub weights_to : (case : GoodsCase) (shares : List Fraction) (first second parts : ℕ) (held : List ℕ) → AreShares case shares parts held → SupportShares case shares first second → AreWeights case parts held first second
weights_to case shares first second parts held are support = record {
  first_low = support.first_low;
  first_high = support.first_high;
  second_low = support.second_low;
  second_high = support.second_high;
  had = λ good low high some. support.had good low high (some_share (share_of shares good) (parts_held held good) parts (share_quotient case shares parts held are.division are.quotients good low high) some);
  left = λ good low high less. support.left good low high (less_share (share_of shares good) (parts_held held good) parts (share_quotient case shares parts held are.division are.quotients good low high) less);
}

pub weights_from : (case : GoodsCase) (shares : List Fraction) (first second parts : ℕ) (held : List ℕ) → AreShares case shares parts held → AreWeights case parts held first second → SupportShares case shares first second
weights_from case shares first second parts held are weights = record {
  first_low = weights.first_low;
  first_high = weights.first_high;
  second_low = weights.second_low;
  second_high = weights.second_high;
  had = λ good low high some. weights.had good low high (share_some (share_of shares good) (parts_held held good) parts are.division.some (share_quotient case shares parts held are.division are.quotients good low high) some);
  left = λ good low high less. weights.left good low high (share_less (share_of shares good) (parts_held held good) parts are.division.some (share_quotient case shares parts held are.division are.quotients good low high) less);
}

-- shares of a division are proper
within_numbers : (share : Fraction) (part parts : ℕ) → 1 ≤ parts → part ≤ parts → IsQuotient share (pos part) parts → IsShare share
within_numbers share part parts some few quotient = (
  quotient.0,
  by_lt_z share.0 (pos 0) (λ (low : share.0 <ℤ pos 0). absurd (below_zero low)) (λ (up : pos 0 ≤ℤ share.0). up),
  by_lt_z (pos share.1) share.0 (λ (high : pos share.1 <ℤ share.0). absurd (above_one high)) (λ (down : share.0 ≤ℤ pos share.1). down),
)
  where
    below_zero : share.0 <ℤ pos 0 → ⊥
    below_zero low =
        let h = less_times share.0 (pos 0) parts some low in
        let is = quotient.1 in
        let z = zero-*ℤ (pos parts) in
        let p = pos-*ℤ-pos part share.1 in
        omega (arith, ints, h, is, z, p)

    above_one : pos share.1 <ℤ share.0 → ⊥
    above_one high =
        let h = less_times (pos share.1) share.0 parts some high in
        let is = quotient.1 in
        let few_ℤ : pos part ≤ℤ pos parts = omega (arith, ints, few) in
        let g = le_times (pos part) (pos parts) share.1 few_ℤ in
        let swap = *ℤ_comm (pos share.1) (pos parts) in
        omega (arith, ints, h, is, g, swap)

all_within : (shares : List Fraction) (parts : ℕ) (held : List ℕ) → 1 ≤ parts → All (λ part. part ≤ parts) held → AllZip (λ share part. IsQuotient share (pos part) parts) shares held → All IsShare shares
all_within shares parts held some few quotients k d l =
    let count = length-AllZip (λ (share : Fraction) (part : ℕ). IsQuotient share (pos part) parts) shares held quotients in
    within_numbers _ (get_or held k 0) parts some (few k 0 (omega (arith, l, count)))
    (AllZip-get_or (λ (share : Fraction) (part : ℕ). IsQuotient share (pos part) parts) shares held k d 0 l quotients)

pub shares_proper : (case : GoodsCase) (shares : List Fraction) (parts : ℕ) (held : List ℕ) → AreShares case shares parts held → AreProperShares case shares
shares_proper case shares parts held are = record {
  each = sym (length-AllZip (λ (share : Fraction) (part : ℕ). IsQuotient share (pos part) parts) shares held are.quotients) ∙ are.division.each;
  within = all_within shares parts held are.division.some are.division.within are.quotients;
  one_split = are.one_split;
}

-- the rules show a division, and a division that is shown keeps the rules
pub printed_shown : (case : GoodsCase) (shares : List Fraction) (total : Fraction) (first second : ℕ) → AreProperShares case shares → HaveTotal case shares total → SupportShares case shares first second → IsShown case shares total first second
printed_shown case shares total first second proper have support =
    let are = proper_shares case shares proper in
    record {
      parts = parts_of shares;
      held = parts_list shares;
      are_shares = are;
      are_totals = totals_to case shares total (parts_of shares) (parts_list shares) are have;
      are_weights = weights_to case shares first second (parts_of shares) (parts_list shares) are support;
    }

-- so they show a fair one
pub printed_fair : (case : GoodsCase) (shares : List Fraction) (total : Fraction) (first second : ℕ) → IsValidGoodsCase case → player_count case ≡ 2
    → AreProperShares case shares → HaveTotal case shares total → SupportShares case shares first second → AreFairShares case shares
printed_fair case shares total first second valid two proper have support =
    let shown = printed_shown case shares total first second proper have support in
    record {
      parts = shown.parts;
      held = shown.held;
      are_shares = shown.are_shares;
      equitable = equitable case shown.parts shown.held total shown.are_totals;
      envy_free = shown_envy_free case shares total first second valid two shown;
      efficient = shown_efficient case shares total first second shown;
    }
