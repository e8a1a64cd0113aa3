use Rattle.std.specs.Int.{w128}
use Rattle.std.proofs.lemmas.Int.{to_z-of_z}
use Rattle.bid_rules.specs.declared.fares.Fares.{Fares}
use Rattle.std.proofs.Common.{ℕ, FitsSigned, arith, ◌≡◌, ◌≤◌, ◌∙◌, ℤ, List, map, flat_map, ap, sym, subst, unsigned_abs}
use Rattle.std.proofs.lemmas.Int.{ints}
use Rattle.std.proofs.lemmas.List.Elements.{All-head, All-tail}
use Rattle.bid_rules.specs.declared.limits.TheConstants.{MOST_FARE_CENTS, MOST_MEMBERS, MOST_PLACES, MOST_RIDERS, PLACE_ROOM}
use Rattle.arrayvec.specs.declared.array_vec.ArrayVec.{ArrayVec}
use Rattle.bid_rules.specs.declared.cases.FareCase.{FareCase}
use Rattle.bid_rules.specs.Facts.{IsValidFareCase}
use Rattle.fare_rules.specs.Head.{head_of}
use Rattle.fare_rules.specs.Printed.{printed_case}
use Rattle.fare_rules.proofs.PrintedNumbers.{legs_bounded, unsigned_rows}
use Rattle.split_lemmas.proofs.PrintedNumbers.{bounded}
use Rattle.fare_rules.proofs.case.case_of.Goals as goal

pub returns-in_default : goal.returns-in_default
returns-in_default c h =
    let low = h.flag in
    let legs = flat_map (λ row. row.items) (unsigned_rows (map (λ row. row.items) c.args.legs.now)) in
    let flag : unsigned_abs c.args.flag ≤ MOST_FARE_CENTS = All-head (λ cents. cents ≤ MOST_FARE_CENTS) (unsigned_abs c.args.flag) legs h.valid.facts.cents in
    let fits : FitsSigned w128 c.args.flag = c.ranges.flag in
    let told = simp to_z-of_z at c.in_default.ensures in
    told (low, omega (arith, ints, flag, low), legs_bounded (map (λ row. row.items) c.args.legs.now) h.legs (All-tail (λ cents. cents ≤ MOST_FARE_CENTS) (unsigned_abs c.args.flag) legs h.valid.facts.cents))

pub returns-in_default-members_between : goal.returns-in_default-members_between
returns-in_default-members_between c h = c.in_default-members_between.ensures (bounded MOST_RIDERS MOST_MEMBERS c.args.who.now (omega arith) h.who h.valid.members)

pub returns-in_default-members_between-2 : goal.returns-in_default-members_between-2
returns-in_default-members_between-2 c h = c.in_default-members_between-2.ensures (bounded c.args.places MOST_PLACES c.args.at.now h.valid.facts.shape.places_high h.at h.valid.places)

-- the case that was built is the printed one
built : (case : FareCase) (places : ℕ) (flag : ℤ) (rows : List (ArrayVec ℤ PLACE_ROOM (Unit {0}))) (who at : List ℤ)
    → case.facts ≡ record { members = MOST_RIDERS; places = places; flag = unsigned_abs flag; legs = record { items = unsigned_rows (map (λ row. row.items) rows) } }
    → case.who.items ≡ map unsigned_abs who → case.at.items ≡ map unsigned_abs at
    → case ≡ printed_case (head_of places flag (map (λ row. row.items) rows) who at)
built case places flag rows who at facts members stops =
    ap {B = FareCase} (λ (f : Fares). record { facts = f; who = case.who; at = case.at }) facts
    ∙ ap {B = FareCase} (λ (xs : List ℕ). record { facts = facts_with (unsigned_rows (map (λ row. row.items) rows)); who = record { items = xs }; at = case.at }) members
    ∙ ap {B = FareCase} (λ (xs : List ℕ). record { facts = facts_with (unsigned_rows (map (λ row. row.items) rows)); who = record { items = map unsigned_abs who }; at = record { items = xs } }) stops
  where
    facts_with : List (ArrayVec ℕ PLACE_ROOM (Unit {0})) → Fares
    facts_with legs = record { members = MOST_RIDERS; places = places; flag = unsigned_abs flag; legs = record { items = legs } }

pub returns-then-is_valid : goal.returns-then-is_valid
returns-then-is_valid c =
    let fits : FitsSigned w128 c.args.flag = c.ranges.flag in
    let told = simp to_z-of_z at c.in-Some.ensures in
    let case : FareCase = record { facts = c.in-Some.facts; who = c.in-Some-members_between.members; at = c.in-Some-members_between-2.stops } in
    let same = built case c.args.places c.args.flag c.args.legs.now c.args.who.now c.args.at.now told.2 c.in-Some-members_between.ensures.1 c.in-Some-members_between-2.ensures.1 in (
      record {
        flag = told.0;
        legs = λ k d l i e m. (told.1 k d l i e m).0;
        who = λ k d l. (c.in-Some-members_between.ensures.0 k d l).0;
        at = λ k d l. (c.in-Some-members_between-2.ensures.0 k d l).0;
        valid = subst IsValidFareCase same (c.is_valid.ensures.0 c.if-is_valid.true);
      },
      same,
    )

pub returns-else-is_valid : goal.returns-else-is_valid
returns-else-is_valid c h =
    let fits : FitsSigned w128 c.args.flag = c.ranges.flag in
    let told = simp to_z-of_z at c.in-Some.ensures in
    let case : FareCase = record { facts = c.in-Some.facts; who = c.in-Some-members_between.members; at = c.in-Some-members_between-2.stops } in
    let same = built case c.args.places c.args.flag c.args.legs.now c.args.who.now c.args.at.now told.2 c.in-Some-members_between.ensures.1 c.in-Some-members_between-2.ensures.1 in
    let back = c.is_valid.ensures.1 (subst IsValidFareCase (sym same) h.valid) in
    let never = c.if-is_valid.false in
    cc
