-- For the law that the number of members changes no Shapley value: a case of fares with another number of them.
use Rattle.std.specs.Prelude.{ℕ}
use Rattle.bid_rules.specs.declared.cases.FareCase.{FareCase}

-- the same case with another number of members: those who have not bid make no difference to it
abbrev pub with_members : FareCase → ℕ → FareCase
with_members case members = record {
  facts = record { members = members; places = case.facts.places; flag = case.facts.flag; legs = case.facts.legs };
  who = case.who;
  at = case.at;
}
