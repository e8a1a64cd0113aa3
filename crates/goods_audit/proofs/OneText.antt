-- Owners of goods have one audit.
use Rattle.std.proofs.Common.{◌≡◌, ◌⊎◌, ⊎_elim, ℕ, zero, suc, ◌+◌, ◌-◌, ◌<◌, ◌≤◌, ◌==◌, ◌++◌, List, [], ◌∷◌, cond, codes, flat_map, get_or, length, None, Some, arith, refl, sym, ap, ◌∙◌, subst}
use Rattle.std.specs.Prelude.{Option}
use Rattle.std.specs.List.{range_with_len}
use Rattle.std.specs.Option.{option_map}
use Rattle.std.specs.Fmt.{decimal}
use Rattle.std.proofs.lemmas.List.{get_or-map}
use Rattle.std.proofs.lemmas.List.Elements.{All-contains}
use Rattle.arrayvec.specs.declared.array_vec.ArrayVec.{ArrayVec}
use Rattle.bid_rules.specs.declared.goods.GoodsCase.{GoodsCase}
use Rattle.bid_rules.specs.declared.limits.TheConstants.{MEMBER_ROOM}
use Rattle.bid_rules.specs.Goods.{in_search_order, owners_by_good, pair_of, player_count, points}
use Rattle.envy_check.specs.declared.goods.Ef1.{Ef1}
use Rattle.envy_check.specs.declared.goods.Ef1.TheVariants.{Content, Without, Fails}
use Rattle.envy_check.specs.Goods.{IsEf1, IsEf1Table, IsMostValued, goods_of}
use Rattle.split_reports.specs.Parts.{lines_to}
use Rattle.split_reports.specs.Names.{NamesData}
use Rattle.split_reports.specs.Players.{player_line, player_member}
use Rattle.split_frac.specs.Texts.{line_of}
use Rattle.split_lemmas.proofs.ListOrder.{same_from_neither}
use Rattle.goods_audit.specs.Domination.{IsBetterDivision, OwnersByGood}
use Rattle.goods_audit.specs.Texts.{IsAuditText, answer_at, answers, audit_title, better_line, ef1_text, envy_line, envy_lines, welfare_line}

-- a table of answers by player and by other player
abbrev Table : Type 0
Table = List (ArrayVec Ef1 MEMBER_ROOM (Unit {0}))

-- of two goods that are each no less valued than the other, ties to the lower number, one is the other
one_number : (a b good other : ℕ) → (b < a) ⊎ ((b ≡ a) × (good ≤ other)) → (a < b) ⊎ ((a ≡ b) × (other ≤ good)) → good ≡ other
one_number a b good other h k =
    ⊎_elim
    (λ (l : b < a). ⊎_elim (λ (m : a < b). absurd (omega (arith, l, m))) (λ (m : (a ≡ b) × (other ≤ good)). absurd (let e = m.0 in omega (arith, l, e))) k)
    (λ (l : (b ≡ a) × (good ≤ other)). ⊎_elim
    (λ (m : a < b). absurd (let e = l.0 in omega (arith, m, e)))
    (λ (m : (a ≡ b) × (other ≤ good)). let low = l.1 in let high = m.1 in omega (arith, low, high))
    k)
    h

-- some goods have one most valued good
one_most : (case : GoodsCase) (player : ℕ) (goods : List ℕ) (good other : ℕ) → IsMostValued case player goods good → IsMostValued case player goods other → good ≡ other
one_most case player goods good other is was =
    one_number (points case player good) (points case player other) good other
    (All-contains (λ o. (points case player o < points case player good) ⊎ ((points case player o ≡ points case player good) × (good ≤ o))) goods other is.most was.there)
    (All-contains (λ o. (points case player o < points case player other) ⊎ ((points case player o ≡ points case player other) × (other ≤ o))) goods good was.most is.there)

-- there is one answer on a player and another
one_answer : (case : GoodsCase) (owners : List ℕ) (player other : ℕ) (one more : Ef1) → IsEf1 case owners player other one → IsEf1 case owners player other more → one ≡ more
one_answer case owners player other Content Content is was = refl
one_answer case owners player other Content (Without good) is was = absurd (is was.0)
one_answer case owners player other Content Fails is was = absurd (is was.0)
one_answer case owners player other (Without good) Content is was = absurd (was is.0)
one_answer case owners player other (Without good) (Without best) is was = ap (λ (g : ℕ). Without g) (one_most case player (goods_of owners other) good best is.1 was.1)
one_answer case owners player other (Without good) Fails is was = absurd (was.1 good is.1.there is.2)
one_answer case owners player other Fails Content is was = absurd (was is.0)
one_answer case owners player other Fails (Without good) is was = absurd (is.1 good was.1.there was.2)
one_answer case owners player other Fails Fails is was = refl

-- the answer of a table on a player and another is its entry
entry_of : (table : Table) (n player other : ℕ) → length table ≡ n → 1 ≤ player → player ≤ n
    → answer_at (answers table) player other ≡ get_or (get_or table (player - 1) (record { items = [] })).items (other - 1) Content
entry_of table n player other count low high =
    ap (λ (row : List Ef1). get_or row (other - 1) Content)
    (get_or-map (λ (row : ArrayVec Ef1 MEMBER_ROOM (Unit {0})). row.items) table (player - 1) (record { items = [] }) [] (omega (arith, count, low, high)))

-- two tables of a division answer alike
same_answers : (case : GoodsCase) (owners : List ℕ) (table others : Table) → IsEf1Table case owners table → IsEf1Table case owners others
    → (player other : ℕ) → 1 ≤ player → player ≤ player_count case → 1 ≤ other → other ≤ player_count case → answer_at (answers table) player other ≡ answer_at (answers others) player other
same_answers case owners table others is was player other low high first last =
    entry_of table (player_count case) player other is.players low high
    ∙ one_answer case owners player other (get_or (get_or table (player - 1) (record { items = [] })).items (other - 1) Content) (get_or (get_or others (player - 1) (record { items = [] })).items (other - 1) Content)
    (is.entries player low high other first last) (was.entries player low high other first last)
    ∙ sym (entry_of others (player_count case) player other was.players low high)

-- lines that are the same one by one are the same together
same_parts : (text others : ℕ → List ℕ) (from count : ℕ) → ((k : ℕ) → from ≤ k → k < from + count → text k ≡ others k) → flat_map text (range_with_len from count) ≡ flat_map others (range_with_len from count)
same_parts text others from zero same = refl
same_parts text others from (suc count) same =
    ap (λ (xs : List ℕ). xs ++ flat_map text (range_with_len (from + 1) count)) (same from (omega arith) (omega arith))
    ∙ ap (λ (xs : List ℕ). others from ++ xs) (same_parts text others (from + 1) count (λ k l m. same k (omega arith) (omega arith)))

same_lines : (n : ℕ) (text others : ℕ → List ℕ) → ((k : ℕ) → 1 ≤ k → k ≤ n → text k ≡ others k) → lines_to n text ≡ lines_to n others
same_lines n text others same = same_parts text others 1 n (λ k l m. same k l (omega (arith, m)))

-- the line of a player and another, by the answer on them
abbrev line_with : GoodsCase → ℕ → ℕ → Ef1 → List ℕ
line_with case player other answer =
    cond (other == player) [] (line_of (codes "envy " ∷ decimal (player_member case player) ∷ codes " " ∷ decimal (player_member case other) ∷ codes ": " ∷ ef1_text answer ∷ []))

-- where tables answer alike, their lines are the same
same_envies : (case : GoodsCase) (table others : List (List Ef1))
    → ((player other : ℕ) → 1 ≤ player → player ≤ player_count case → 1 ≤ other → other ≤ player_count case → answer_at table player other ≡ answer_at others player other)
    → lines_to (player_count case) (envy_lines case table) ≡ lines_to (player_count case) (envy_lines case others)
same_envies case table others same =
    same_lines (player_count case) (envy_lines case table) (envy_lines case others)
    (λ player low high. same_lines (player_count case) (envy_line case table player) (envy_line case others player)
    (λ other first last. ap (λ (answer : Ef1). line_with case player other answer) (same player other low high first last)))

-- so the texts of owners beside which the same is told are the same
pub one_text : (given : NamesData) (case : GoodsCase) (owners : List ℕ) (better : Option (List ℕ)) (text other : List ℕ) → IsAuditText given case owners better text → IsAuditText given case owners better other → text ≡ other
one_text given case owners better text other is was =
    let lines = same_envies case (answers is.0) (answers was.0) (same_answers case owners is.0 was.0 is.1 was.1) in
    let pair = pair_of case (in_search_order case owners) in
    is.2
    ∙ ap (λ (xs : List ℕ). audit_title given ++ lines_to (player_count case) (player_line given case owners) ++ welfare_line pair ++ xs ++ better_line case better) lines
    ∙ sym was.2

-- there is one least division that dominates the owners, or none
same_better : (case : GoodsCase) (owners : List ℕ) (a b : Option OwnersByGood) → IsBetterDivision case owners a → IsBetterDivision case owners b
    → option_map (λ others. others.items) a ≡ option_map (λ others. others.items) b
same_better case owners None None is was = refl
same_better case owners None (Some b) is was = absurd (is was.0 was.1.allocation was.1.dominates)
same_better case owners (Some a) None is was = absurd (was is.0 is.1.allocation is.1.dominates)
same_better case owners (Some a) (Some b) is was =
    let same : is.0 ≡ was.0 = same_from_neither is.0 was.0 (was.1.least is.0 is.1.allocation is.1.dominates) (is.1.least was.0 was.1.allocation was.1.dominates) in
    ap Some (is.2 ∙ ap (owners_by_good case) same ∙ sym was.2)

-- and so are those that tell the least division that dominates the owners
pub one_audit : (given : NamesData) (case : GoodsCase) (owners : List ℕ) (better another : Option OwnersByGood) (text other : List ℕ)
    → IsBetterDivision case (in_search_order case owners) better → IsBetterDivision case (in_search_order case owners) another
    → IsAuditText given case owners (option_map (λ others. others.items) better) text → IsAuditText given case owners (option_map (λ others. others.items) another) other → text ≡ other
one_audit given case owners better another text other least too is was =
    let same = same_better case (in_search_order case owners) better another least too in
    one_text given case owners (option_map (λ others. others.items) another) text other (subst (λ (o : Option (List ℕ)). IsAuditText given case owners o text) same is) was
