-- Facts and bids have one end, except where memory runs out.
use Rattle.std.proofs.Common.{◌≡◌, ◌≢◌, ℕ, ◌<◌, ◌≤◌, ◌↔◌, List, Option, Result, Ok, Err, refl, sym, ap, ◌∙◌, subst, arith}
use Rattle.bid_rules.specs.declared.bids.Bid.{Bid}
use Rattle.bid_rules.specs.declared.bids.Facts.{Facts}
use Rattle.bid_rules.specs.declared.cases.Case.{Case}
use Rattle.bid_rules.specs.declared.cases.Case.TheVariants as case
use Rattle.bid_rules.specs.declared.cases.Missing.{Missing}
use Rattle.bid_rules.specs.declared.goods.GoodsCase.{GoodsCase}
use Rattle.bid_rules.specs.Facts.{IsValidCase, case_of, facts_of}
use Rattle.certificates.specs.declared.division.Division.{Division}
use Rattle.certificates.specs.declared.division.Division.TheVariants as division
use Rattle.certificates.specs.Division.{IsDivisionOf}
use Rattle.nash_search.specs.declared.division.GoodsDivision.{GoodsDivision}
use Rattle.nash_search.specs.declared.division.OverLimit.{OverLimit}
use Rattle.nash_search.specs.Division.{HasSteps, IsGoodsDivision, IsOverLimit}
use Rattle.split_solve.specs.declared.solving.SolveFault.{SolveFault}
use Rattle.split_solve.specs.declared.solving.SolveFault.TheVariants as fault
use Rattle.split_solve.specs.Solving.{AreFares, IsAboveLimit, IsDivided, IsOver, IsSolved}

-- where a case has a division its step count is within the limit, a law of nash_search
abbrev pub Within : Type 0
Within = (case : GoodsCase) (division : GoodsDivision) (steps : ℕ) → IsGoodsDivision case division → HasSteps case steps → steps ≤ case.facts.limit

-- and where it is refused above it
abbrev pub Above : Type 0
Above = (case : GoodsCase) (over : OverLimit) (steps : ℕ) → IsOverLimit case over → HasSteps case steps → case.facts.limit < steps

-- a case has the facts from which it is made, a law of bid_rules
abbrev pub SameFacts : Type 0
SameFacts = (given : Facts) (bids : List (Option Bid)) (one : Case) → case_of given bids ≡ Ok one → facts_of one ≡ given

-- two cases of the same facts and bids are the same
pub one_case : (given : Facts) (bids : List (Option Bid)) (a b : Case) → case_of given bids ≡ Ok a → case_of given bids ≡ Ok b → a ≡ b
one_case given bids a b h k = cc (h, k)

-- facts and bids that make a case lack none
not_both : (given : Facts) (bids : List (Option Bid)) (one : Case) (missing : Missing) → case_of given bids ≡ Ok one → case_of given bids ≡ Err missing → ⊥
not_both given bids one missing h k = cc (h, k)

-- a division of goods is within the limit
goods_within : Within → (goods : GoodsCase) (steps : ℕ) (d : Division) → HasSteps goods steps → IsDivisionOf (case.Goods goods) d → steps ≤ goods.facts.limit
goods_within within goods steps (division.Goods d) has is = within goods d steps is has
goods_within within goods steps (division.Rent d) has is = absurd is
goods_within within goods steps (division.Fares d) has is = absurd is

-- the answer says above the limit exactly where the step count is
pub over_exact : Within → Above → SameFacts → (given : Facts) (bids : List (Option Bid)) (goods : GoodsCase) (steps : ℕ) (answer : Result (Case × Division) SolveFault) → IsSolved given bids answer
    → case_of given bids ≡ Ok (case.Goods goods) → HasSteps goods steps → IsOver answer ↔ (goods.facts.limit < steps)
over_exact within above same given bids goods steps (Ok answer) is made has =
    let one = one_case given bids answer.0 (case.Goods goods) is.0 made in
    let le = goods_within within goods steps answer.1 has (subst (λ (c : Case). IsDivisionOf c answer.1) one is.1) in
    ((λ e. absurd e), (λ l. absurd (omega (arith, le, l))))
over_exact within above same given bids goods steps (Err (fault.Void missing)) is made has = absurd (not_both given bids (case.Goods goods) missing made is)
over_exact within above same given bids goods steps (Err (fault.OverLimit limit)) is made has =
    let one = one_case given bids is.0 (case.Goods goods) is.1 made in
    let over : IsAboveLimit (case.Goods goods) limit = subst (λ (c : Case). IsAboveLimit c limit) one is.2 in
    ((λ e. above goods (record { limit = limit }) steps over has), (λ l. tt))
over_exact within above same given bids goods steps (Err fault.NoMemory) is made has = absurd (subst AreFares (sym (same given bids (case.Goods goods) made)) is)

-- a division of a case is one of its facts and bids
pub solved_case : (given : Facts) (bids : List (Option Bid)) (one : Case) (d : Division) → case_of given bids ≡ Ok one → IsDivided one (Ok d) → IsSolved given bids (Ok (one, d))
solved_case given bids one d made is = (made, is)

-- a fault of a case is one of its facts and bids
pub solved_fault : SameFacts → (given : Facts) (bids : List (Option Bid)) (one : Case) (f : SolveFault) → case_of given bids ≡ Ok one → IsDivided one (Err f) → IsSolved given bids (Err f)
solved_fault same given bids one (fault.Void missing) made is = absurd is
solved_fault same given bids one (fault.OverLimit limit) made is = (one, made, is)
solved_fault same given bids one fault.NoMemory made is = subst AreFares (same given bids one made) (go one is)
  where
    go : (one : Case) → IsDivided one (Err fault.NoMemory) → AreFares (facts_of one)
    go (case.Rent rent) h = absurd h
    go (case.Goods goods) h = absurd h
    go (case.Fares fares) h = tt

-- a limit that refuses a case is the case's
limit_of : (one : Case) (limit other : ℕ) → IsAboveLimit one limit → IsAboveLimit one other → limit ≡ other
limit_of (case.Rent rent) limit other a b = absurd a
limit_of (case.Goods goods) limit other a b = a.is_limit ∙ sym b.is_limit
limit_of (case.Fares fares) limit other a b = absurd a

-- two faults of the same facts and bids are the same, except where memory runs out
pub one_fault : (given : Facts) (bids : List (Option Bid)) (a b : SolveFault) → IsSolved given bids (Err a) → IsSolved given bids (Err b) → a ≢ fault.NoMemory → b ≢ fault.NoMemory → a ≡ b
one_fault given bids (fault.Void missing) (fault.Void other) h k some more = cc (h, k)
one_fault given bids (fault.Void missing) (fault.OverLimit limit) h k some more = absurd (not_both given bids k.0 missing k.1 h)
one_fault given bids (fault.OverLimit limit) (fault.Void missing) h k some more = absurd (not_both given bids h.0 missing h.1 k)
one_fault given bids (fault.OverLimit limit) (fault.OverLimit other) h k some more =
    let one = one_case given bids h.0 k.0 h.1 k.1 in
    ap fault.OverLimit (limit_of k.0 limit other (subst (λ (c : Case). IsAboveLimit c limit) one h.2) k.2)
one_fault given bids fault.NoMemory b h k some more = absurd (some refl)
one_fault given bids a fault.NoMemory h k some more = absurd (more refl)

-- a division and a limit that refuses do not go together
above_not : Within → Above → (one : Case) (d : Division) (limit : ℕ) → IsDivisionOf one d → IsAboveLimit one limit → ⊥
above_not within above (case.Rent rent) d limit is over = over
above_not within above (case.Fares fares) d limit is over = over
above_not within above (case.Goods goods) d limit is over =
    let has = over.above.1 in
    let le = goods_within within goods over.above.0 d has is in
    let l = over.above.2 in
    absurd (omega (arith, le, l))

-- an answer and a fault of the same facts and bids: memory ran out
pub one_kind : Within → Above → (given : Facts) (bids : List (Option Bid)) (answer : Case × Division) (f : SolveFault) → IsSolved given bids (Ok answer) → IsSolved given bids (Err f) → f ≡ fault.NoMemory
one_kind within above given bids answer (fault.Void missing) is h = absurd (not_both given bids answer.0 missing is.0 h)
one_kind within above given bids answer (fault.OverLimit limit) is h =
    let one = one_case given bids h.0 answer.0 h.1 is.0 in
    absurd (above_not within above answer.0 answer.1 limit is.1 (subst (λ (c : Case). IsAboveLimit c limit) one h.2))
one_kind within above given bids answer fault.NoMemory is h = refl

-- a division of a case is the one division of it, a law of divisions
abbrev pub OneDivision : Type 0
OneDivision = (case : Case) (division other : Division) → IsValidCase case → IsDivisionOf case division → IsDivisionOf case other → division ≡ other

-- two ends of facts and bids that make only valid cases are the same, except where memory runs out
pub one_end : Within → Above → OneDivision → (given : Facts) (bids : List (Option Bid)) → ((one : Case) → case_of given bids ≡ Ok one → IsValidCase one)
    → (a b : Result (Case × Division) SolveFault) → IsSolved given bids a → IsSolved given bids b → a ≢ Err fault.NoMemory → b ≢ Err fault.NoMemory → a ≡ b
one_end within above division given bids valid (Ok a) (Ok b) h k some more =
    let one = one_case given bids a.0 b.0 h.0 k.0 in
    let same = division b.0 a.1 b.1 (valid b.0 k.0) (subst (λ (c : Case). IsDivisionOf c a.1) one h.1) k.1 in
    (λ i. Ok (one i, same i))
one_end within above division given bids valid (Ok a) (Err g) h k some more = absurd (more (ap Err (one_kind within above given bids a g h k)))
one_end within above division given bids valid (Err f) (Ok b) h k some more = absurd (some (ap Err (one_kind within above given bids b f k h)))
one_end within above division given bids valid (Err f) (Err g) h k some more = ap Err (one_fault given bids f g h k (λ e. some (ap Err e)) (λ e. more (ap Err e)))
