-- A body, and what it holds, calls for one ending.
use Rattle.std.proofs.Common.{◌≡◌, ◌≢◌, ◌⊎◌, ℕ, List, Result, Ok, Err, arith, inl, inr, refl, sym, ap, ◌∙◌, ⊎_elim, subst}
use Rattle.std.specs.Prelude.{Option}
use Rattle.std.specs.Option.{option_map}
use Rattle.bid_rules.specs.declared.cases.Case.{Case}
use Rattle.bid_rules.specs.declared.cases.Case.TheVariants as case
use Rattle.bid_rules.specs.declared.goods.GoodsCase.{GoodsCase}
use Rattle.bid_rules.specs.Facts.{case_of}
use Rattle.bid_rules.specs.Goods.{in_search_order, player_count}
use Rattle.adjusted_winner.specs.Texts.{IsWinnerText}
use Rattle.body_fields.specs.declared.fields.BodyFault.{BodyFault}
use Rattle.certificates.specs.Division.{IsDivisionOf}
use Rattle.certificates.specs.declared.division.Division.{Division}
use Rattle.certificates.specs.declared.division.Division.TheVariants as division
use Rattle.command_results.specs.declared.stop.Stop.{Stop}
use Rattle.command_results.specs.declared.stop.Stop.TheVariants.{Void, OverLimit, NotTwo, BrokenRule, BadCase, BrokenLine}
use Rattle.command_results.specs.Endings.{yes_line}
use Rattle.goods_audit.specs.Domination.{IsBetterDivision, OwnersByGood}
use Rattle.goods_audit.specs.Texts.{IsAuditText}
use Rattle.nash_search.specs.Division.{HasSteps}
use Rattle.split_reports.specs.Names.{NamesData, names_of}
use Rattle.split_json.specs.Reading.{CaseData}
use Rattle.split_solve.specs.Solving.{IsAboveLimit}
use Rattle.rule_verdicts.specs.declared.verdict.Verdict.{Verdict}
use Rattle.rule_verdicts.specs.declared.verdict.Verdict.TheVariants.{No, Yes}
use Rattle.input_commands.specs.Answers.{OfBody, OfCase, OfOwners, OfPair, OfProposal, OfVerdict}
use Rattle.input_commands.specs.Players.{players_of}

-- the ending by what was found: why there is nothing, or what the found value calls for
abbrev Leads : {A E : Type 0} → (E → Stop) → Result A E → (A → Result (List ℕ) Stop → Type 0) → Result (List ℕ) Stop → Type 0
Leads {A = A} {E = E} stop found on ending = ((fault : E) × (found ≡ Err fault) × (ending ≡ Err (stop fault))) ⊎ ((value : A) × (found ≡ Ok value) × on value ending)

-- an ending without a text
abbrev stopped : {E : Type 0} → (E → Stop) → E → Result (List ℕ) Stop
stopped stop fault = Err (stop fault)

-- what was found leads to one ending where each value calls for one
one_lead : {A E : Type 0} (stop : E → Stop) (found : Result A E) (on : A → Result (List ℕ) Stop → Type 0) (x y : Result (List ℕ) Stop)
    → ((value : A) → found ≡ Ok value → on value x → on value y → x ≡ y) → Leads stop found on x → Leads stop found on y → x ≡ y
one_lead stop found on x y one (inl a) (inl b) = let p = a.1 in let q = b.1 in let same : a.0 ≡ b.0 = cc (p, q) in a.2 ∙ ap (stopped stop) same ∙ sym b.2
one_lead stop found on x y one (inl a) (inr b) = let p = a.1 in let q = b.1 in absurd (cc (p, q))
one_lead stop found on x y one (inr a) (inl b) = let p = a.1 in let q = b.1 in absurd (cc (p, q))
one_lead stop found on x y one (inr a) (inr b) =
    let p = a.1 in let q = b.1 in let same : a.0 ≡ b.0 = cc (p, q) in one a.0 a.1 a.2 (subst (λ v. on v y) (sym same) b.2)

-- of a body that is read
of_body : {A : Type 0} (read : List ℕ → Result A BodyFault) (on : A → Result (List ℕ) Stop → Type 0) (bytes : List ℕ) (ending : Result (List ℕ) Stop)
    → OfBody read on bytes ending → Leads BadCase (read bytes) on ending
of_body read on bytes (Err (BadCase fault)) h = inl (fault, h, refl)
of_body read on bytes ending h = inr h

pub one_body : {A : Type 0} (read : List ℕ → Result A BodyFault) (on : A → Result (List ℕ) Stop → Type 0) (bytes : List ℕ) (x y : Result (List ℕ) Stop)
    → ((value : A) → read bytes ≡ Ok value → on value x → on value y → x ≡ y) → OfBody read on bytes x → OfBody read on bytes y → x ≡ y
one_body read on bytes x y one a b = one_lead BadCase (read bytes) on x y one (of_body read on bytes x a) (of_body read on bytes y b)

-- an ending that names a limit
abbrev over_limit : ℕ → Result (List ℕ) Stop
over_limit limit = Err (OverLimit limit)

-- a case is above one limit
one_limit : (case : Case) (limit other : ℕ) → IsAboveLimit case limit → IsAboveLimit case other → limit ≡ other
one_limit (case.Goods goods) limit other a b = let x = a.is_limit in let y = b.is_limit in x ∙ sym y
one_limit (case.Rent rent) limit other a b = absurd a
one_limit (case.Fares fares) limit other a b = absurd a

-- the text of this division
abbrev HasText : (Case → Division → List ℕ → Type 0) → Case → List ℕ → Type 0
HasText prints case text = (division : Division) × IsDivisionOf case division × prints case division text

-- a case ends with its limit or with a text of its best division
abbrev Divided : (Case → Division → List ℕ → Type 0) → Case → Result (List ℕ) Stop → Type 0
Divided prints case ending =
    ((limit : ℕ) × IsAboveLimit case limit × (ending ≡ Err (OverLimit limit)))
    ⊎ ((text : List ℕ) × HasText prints case text × (ending ≡ Ok text))

of_case : (prints : CaseData → Case → Division → List ℕ → Type 0) (given : CaseData) (ending : Result (List ℕ) Stop) → OfCase prints given ending
    → Leads Void (case_of given.facts given.bids) (Divided (prints given)) ending
of_case prints given (Ok text) h = inr (h.0, h.1, inr (text, h.2, refl))
of_case prints given (Err (Void missing)) h = inl (missing, h, refl)
of_case prints given (Err (OverLimit limit)) h = inr (h.0, h.1, inl (limit, h.2, refl))
of_case prints given (Err other) h = absurd h

module _
    (one_count : (case : GoodsCase) (steps other : ℕ) → HasSteps case steps → HasSteps case other → steps ≡ other)
  where
    -- a case above its limit has no division
    allowed : (case : Case) (division : Division) → IsDivisionOf case division → (limit : ℕ) → IsAboveLimit case limit → ⊥
    allowed (case.Goods goods) (division.Goods found) is limit above =
        let same = one_count goods found.steps above.above.0 is.steps above.above.1 in
        let low = is.allowed in
        let high = above.above.2 in
        omega (arith, same, low, high)
    allowed (case.Goods goods) (division.Rent rent) is limit above = absurd is
    allowed (case.Goods goods) (division.Fares fares) is limit above = absurd is
    allowed (case.Rent rent) division is limit above = absurd above
    allowed (case.Fares fares) division is limit above = absurd above

    -- a case calls for one ending where it has one text
    one_division : (prints : Case → Division → List ℕ → Type 0) (case : Case) (x y : Result (List ℕ) Stop)
        → ((text other : List ℕ) → HasText prints case text → HasText prints case other → text ≡ other)
        → Divided prints case x → Divided prints case y → x ≡ y
    one_division prints case x y one (inl a) (inl b) = a.2 ∙ ap over_limit (one_limit case a.0 b.0 a.1 b.1) ∙ sym b.2
    one_division prints case x y one (inl a) (inr b) = absurd (allowed case b.1.0 b.1.1 a.0 a.1)
    one_division prints case x y one (inr a) (inl b) = absurd (allowed case a.1.0 a.1.1 b.0 b.1)
    one_division prints case x y one (inr a) (inr b) = a.2 ∙ ap Ok (one a.0 b.0 a.1 b.1) ∙ sym b.2

    -- and so do facts and bids
    pub one_case : (prints : CaseData → Case → Division → List ℕ → Type 0) (given : CaseData) (x y : Result (List ℕ) Stop)
        → ((case : Case) → case_of given.facts given.bids ≡ Ok case → (text other : List ℕ) → HasText (prints given) case text → HasText (prints given) case other → text ≡ other)
        → OfCase prints given x → OfCase prints given y → x ≡ y
    one_case prints given x y one a b =
        one_lead Void (case_of given.facts given.bids) (Divided (prints given)) x y (λ case made. one_division (prints given) case x y (one case made)) (of_case prints given x a) (of_case prints given y b)

-- owners end with the limit or with their audit
abbrev Weighed : CaseData → GoodsCase → List ℕ → Result (List ℕ) Stop → Type 0
Weighed given case owners ending =
    ((limit : ℕ) × OfOwners given case owners (Err (OverLimit limit)) × (ending ≡ Err (OverLimit limit)))
    ⊎ ((text : List ℕ) × OfOwners given case owners (Ok text) × (ending ≡ Ok text))

of_owners : (given : CaseData) (case : GoodsCase) (owners : List ℕ) (ending : Result (List ℕ) Stop) → OfOwners given case owners ending → Weighed given case owners ending
of_owners given case owners (Ok text) h = inr (text, h, refl)
of_owners given case owners (Err (OverLimit limit)) h = inl (limit, h, refl)
of_owners given case owners (Err other) h = absurd h

-- owners have one audit, which tells the least division that dominates theirs
abbrev pub HaveOneAudit : Type 0
HaveOneAudit = (given : NamesData) (case : GoodsCase) (owners : List ℕ) (better another : Option OwnersByGood) (text other : List ℕ)
    → IsBetterDivision case (in_search_order case owners) better → IsBetterDivision case (in_search_order case owners) another
    → IsAuditText given case owners (option_map (λ others. others.items) better) text → IsAuditText given case owners (option_map (λ others. others.items) another) other → text ≡ other

one_weighed : HaveOneAudit → (given : CaseData) (case : GoodsCase) (owners : List ℕ) (x y : Result (List ℕ) Stop) → Weighed given case owners x → Weighed given case owners y → x ≡ y
one_weighed one given case owners x y (inl a) (inl b) = a.2 ∙ ap over_limit (a.1.0 ∙ sym b.1.0) ∙ sym b.2
one_weighed one given case owners x y (inl a) (inr b) = let is = a.1.0 in let above = a.1.1 in let within = b.1.0 in absurd (omega (arith, is, above, within))
one_weighed one given case owners x y (inr a) (inl b) = let is = b.1.0 in let above = b.1.1 in let within = a.1.0 in absurd (omega (arith, is, above, within))
one_weighed one given case owners x y (inr a) (inr b) =
    let p = a.1.1 in
    let q = b.1.1 in
    a.2 ∙ ap Ok (one (names_of given) case owners p.0 q.0 a.0 b.0 p.1 q.1 p.2 q.2) ∙ sym b.2

-- a proposal calls for one ending
pub one_proposal : HaveOneAudit → (proposal : CaseData × List ℕ) (x y : Result (List ℕ) Stop) → OfProposal proposal x → OfProposal proposal y → x ≡ y
one_proposal one proposal x y a b =
    let p = a.1 in
    let q = b.1 in
    let same : a.0 ≡ b.0 = cc (p, q) in
    let owners = players_of a.0 proposal.1 in
    one_weighed one proposal.0 a.0 owners x y (of_owners proposal.0 a.0 owners x a.2)
    (of_owners proposal.0 a.0 owners y (subst (λ c. OfOwners proposal.0 c (players_of c proposal.1) y) (sym same) b.2))

-- a case of goods ends by how many players it has
abbrev Paired : Case → Result (List ℕ) Stop → Type 0
Paired found ending = (goods : GoodsCase) × (found ≡ case.Goods goods)
    × (((player_count goods ≢ 2) × (ending ≡ Err NotTwo)) ⊎ ((text : List ℕ) × (player_count goods ≡ 2) × IsWinnerText goods text × (ending ≡ Ok text)))

of_pair : (given : CaseData) (ending : Result (List ℕ) Stop) → OfPair given ending → Leads Void (case_of given.facts given.bids) Paired ending
of_pair given (Ok text) h = inr (case.Goods h.0, h.1, (h.0, refl, inr (text, h.2.0, h.2.1, refl)))
of_pair given (Err (Void missing)) h = inl (missing, h, refl)
of_pair given (Err NotTwo) h = inr (case.Goods h.0, h.1, (h.0, refl, inl (h.2, refl)))
of_pair given (Err other) h = absurd h

module _
    (one_text : (case : GoodsCase) (text other : List ℕ) → IsWinnerText case text → IsWinnerText case other → text ≡ other)
  where
    one_paired : (found : Case) (x y : Result (List ℕ) Stop) → Paired found x → Paired found y → x ≡ y
    one_paired found x y a b =
        let p = a.1 in
        let q = b.1 in
        let same : a.0 ≡ b.0 = cc (p, q) in ⊎_elim
        (λ s. ⊎_elim (λ t. s.1 ∙ sym t.1) (λ t. absurd (s.0 (ap player_count same ∙ t.1))) b.2)
        (λ s. ⊎_elim (λ t. absurd (t.0 (sym (ap player_count same) ∙ s.1))) (λ t. s.3 ∙ ap Ok (one_text b.0 s.0 t.0 (subst (λ c. IsWinnerText c s.0) same s.2) t.2) ∙ sym t.3) b.2)
        a.2

    -- facts and bids of goods call for one ending
    pub one_pair : (given : CaseData) (x y : Result (List ℕ) Stop) → OfPair given x → OfPair given y → x ≡ y
    one_pair given x y a b =
        one_lead Void (case_of given.facts given.bids) Paired x y (λ case made. one_paired case x y) (of_pair given x a) (of_pair given y b)

-- an ending that names a rule
abbrev broken_rule : Verdict → Result (List ℕ) Stop
broken_rule Yes = Ok yes_line
broken_rule (No rule) = Err (BrokenRule rule)

-- one that names a line
abbrev broken_line : ℕ → Result (List ℕ) Stop
broken_line number = Err (BrokenLine number)

-- the ending by a verdict or the first broken line
abbrev Judges : (List ℕ → Verdict → Type 0) → (List ℕ → ℕ → Type 0) → List ℕ → Result (List ℕ) Stop → Type 0
Judges judged broken bytes ending =
    ((verdict : Verdict) × judged bytes verdict × (ending ≡ broken_rule verdict))
    ⊎ ((number : ℕ) × broken bytes number × (ending ≡ Err (BrokenLine number)))

of_verdict : (judged : List ℕ → Verdict → Type 0) (broken : List ℕ → ℕ → Type 0) (bytes : List ℕ) (ending : Result (List ℕ) Stop) → OfVerdict judged broken bytes ending
    → Judges judged broken bytes ending
of_verdict judged broken bytes (Ok text) h = inl (Yes, h.0, ap Ok h.1)
of_verdict judged broken bytes (Err (BrokenRule rule)) h = inl (No rule, h, refl)
of_verdict judged broken bytes (Err (BrokenLine number)) h = inr (number, h, refl)
of_verdict judged broken bytes (Err other) h = absurd h

module _
    (judged : List ℕ → Verdict → Type 0)
    (broken : List ℕ → ℕ → Type 0)
    (one : (bytes : List ℕ) (verdict other : Verdict) → judged bytes verdict → judged bytes other → other ≡ verdict)
    (whole : (bytes : List ℕ) (verdict : Verdict) (line : ℕ) → judged bytes verdict → broken bytes line → ⊥)
    (one_line : (bytes : List ℕ) (line other : ℕ) → broken bytes line → broken bytes other → other ≡ line)
  where
    one_judgement : (bytes : List ℕ) (x y : Result (List ℕ) Stop) → Judges judged broken bytes x → Judges judged broken bytes y → x ≡ y
    one_judgement bytes x y (inl a) (inl b) = a.2 ∙ ap broken_rule (sym (one bytes a.0 b.0 a.1 b.1)) ∙ sym b.2
    one_judgement bytes x y (inl a) (inr b) = absurd (whole bytes a.0 b.0 a.1 b.1)
    one_judgement bytes x y (inr a) (inl b) = absurd (whole bytes b.0 a.0 b.1 a.1)
    one_judgement bytes x y (inr a) (inr b) = a.2 ∙ ap broken_line (sym (one_line bytes a.0 b.0 a.1 b.1)) ∙ sym b.2

    -- bytes that are judged call for one ending
    pub one_verdict : (bytes : List ℕ) (x y : Result (List ℕ) Stop) → OfVerdict judged broken bytes x → OfVerdict judged broken bytes y → x ≡ y
    one_verdict bytes x y a b = one_judgement bytes x y (of_verdict judged broken bytes x a) (of_verdict judged broken bytes y b)
