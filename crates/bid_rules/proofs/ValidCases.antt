-- The case that facts and bids make: its facts, and that it is valid.
use Rattle.std.proofs.Common.{◌≡◌, Bool, true, false, List, Option, Ok, Err, cond, length, subst, refl, sym, ap}
use Rattle.std.specs.Prelude.{All, IfSome, is_some, is_none}
use Rattle.std.specs.List.{list_all}
use Rattle.bid_rules.specs.declared.bids.Bid.{Bid}
use Rattle.bid_rules.specs.declared.bids.Facts.{Facts}
use Rattle.bid_rules.specs.declared.bids.Facts.TheVariants as facts
use Rattle.bid_rules.specs.declared.cases.Case.{Case}
use Rattle.bid_rules.specs.declared.cases.Case.TheVariants as case
use Rattle.bid_rules.specs.declared.cases.Missing.{Missing}
use Rattle.bid_rules.specs.Facts.{IsCheckedBid, IsCheckedFacts, IsValidCase, case_of, facts_of, fare_case, goods_case, member_count, members_missing, rent_case}
use Rattle.bid_rules.proofs.Bidders.{valid_fares}
use Rattle.bid_rules.proofs.GivenValues.{valid_rent}
use Rattle.bid_rules.proofs.Players.{valid_players}

-- a choice that gives a case went to the side of that case
chosen_true : (test : Bool) (made case : Case) (missing : Missing) → cond test (Ok made) (Err missing) ≡ Ok case → (test ≡ true) × (made ≡ case)
chosen_true true made case missing is = (refl, cc)
chosen_true false made case missing is = cc

-- and one that gives it where the test fails
chosen_false : (test : Bool) (made case : Case) (missing : Missing) → cond test (Err missing) (Ok made) ≡ Ok case → (test ≡ false) × (made ≡ case)
chosen_false true made case missing is = cc
chosen_false false made case missing is = (refl, cc)

-- checked facts and checked bids make a valid case
pub valid_made : (facts : Facts) (bids : List (Option Bid)) (made : Case) → IsCheckedFacts facts → length bids ≡ member_count facts
    → All (λ bid. IfSome bid (IsCheckedBid facts)) bids → case_of facts bids ≡ Ok made → IsValidCase made
valid_made (facts.Rent rent) bids made checked count given is =
    let side = chosen_true (list_all is_some bids) (case.Rent (rent_case rent bids)) made (members_missing bids) is in
    subst IsValidCase side.1 (valid_rent rent bids checked count given side.0)
valid_made (facts.Goods goods) bids made checked count given is =
    let side = chosen_false (list_all is_none bids) (case.Goods (goods_case goods bids)) made (members_missing bids) is in
    subst IsValidCase side.1 (valid_players goods bids checked count given side.0)
valid_made (facts.Fares fares) bids made checked count given is =
    let side = chosen_false (list_all is_none bids) (case.Fares (fare_case fares bids)) made (members_missing bids) is in
    subst IsValidCase side.1 (valid_fares fares bids checked count given side.0)

-- the case has the facts from which it is made
pub same_facts : (facts : Facts) (bids : List (Option Bid)) (made : Case) → case_of facts bids ≡ Ok made → facts_of made ≡ facts
same_facts (facts.Rent rent) bids made is =
    ap facts_of (sym (chosen_true (list_all is_some bids) (case.Rent (rent_case rent bids)) made (members_missing bids) is).1)
same_facts (facts.Goods goods) bids made is =
    ap facts_of (sym (chosen_false (list_all is_none bids) (case.Goods (goods_case goods bids)) made (members_missing bids) is).1)
same_facts (facts.Fares fares) bids made is =
    ap facts_of (sym (chosen_false (list_all is_none bids) (case.Fares (fare_case fares bids)) made (members_missing bids) is).1)
