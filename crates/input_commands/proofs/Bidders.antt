-- A member who has bid is a player.
use Rattle.std.proofs.Common.{◌≡◌, ℕ, zero, suc, ◌+◌, ◌-◌, ◌≤◌, ◌&&◌, nat_le, List, [], ◌∷◌, get_or, Contains, Bool, true, false, Option, Some, None, if◌then◌else◌, is_some, is_none, arith, refl, subst}
use Rattle.std.specs.List.{filter_map, enumerate_from, cons_option, list_all}
use Rattle.std.proofs.lemmas.Bool.Decides.{nat_tests}
use Rattle.bid_rules.specs.declared.bids.Bid.{Bid}
use Rattle.bid_rules.specs.Facts.{members_where}
use Rattle.split_json.specs.Proposals.{has_bid}

-- what is at the number of a bid that passes the test
abbrev numbered : ℕ × Option Bid → Option ℕ
numbered entry = if is_some entry.1 then Some entry.0 else None

-- the members who have bid, numbered from a number
abbrev bidders_from : ℕ → List (Option Bid) → List ℕ
bidders_from n bids = filter_map numbered (enumerate_from n bids)

-- one who is among some members is still there after another
behind : (passes : Bool) (n : ℕ) (members : List ℕ) (member : ℕ) → Contains members member → Contains (cons_option (if passes then Some n else None) members) member
behind true n members member c = (suc c.0, (let l = c.1 in omega arith), c.2)
behind false n members member c = c

-- one who passes the test comes first
first : (passes : Bool) (n : ℕ) (members : List ℕ) → passes ≡ true → Contains (cons_option (if passes then Some n else None) members) n
first true n members e = (0, omega arith, refl)
first false n members e = cc

-- the member at a place where there is a bid is among them
at_place : (n : ℕ) (bids : List (Option Bid)) (k : ℕ) → is_some (get_or bids k None) ≡ true → Contains (bidders_from n bids) (n + k)
at_place n [] k e = cc
at_place n (bid ∷ bids) zero e =
    subst (Contains (bidders_from n (bid ∷ bids))) (let s : n ≡ n + 0 = omega arith in s) (first (is_some bid) n (bidders_from (n + 1) bids) e)
at_place n (bid ∷ bids) (suc k) e =
    subst (Contains (bidders_from n (bid ∷ bids))) (let s : n + 1 + k ≡ n + suc k = omega arith in s)
    (behind (is_some bid) n (bidders_from (n + 1) bids) (n + 1 + k) (at_place (n + 1) bids k e))

-- the two tests of a bidder hold
both : (a b : Bool) → (a && b) ≡ true → (a ≡ true) × (b ≡ true)
both true b e = (refl, e)
both false b e = cc

low_of : (m : ℕ) → nat_le 1 m ≡ true → 1 ≤ m
low_of m e = grind (arith, nat_tests)

-- a member who has bid is among those who have
pub is_player : (bids : List (Option Bid)) (member : ℕ) → has_bid bids member ≡ true → Contains (members_where is_some bids) member
is_player bids member has =
    let tests = both (nat_le 1 member) (is_some (get_or bids (member - 1) None)) has in
    let low : 1 ≤ member = low_of member tests.0 in
    subst (Contains (members_where is_some bids)) (let s : 1 + (member - 1) ≡ member = omega (arith, low) in s) (at_place 1 bids (member - 1) tests.1)

-- where one has bid, not all bids are missing
some_bid : (bids : List (Option Bid)) (k : ℕ) → is_some (get_or bids k None) ≡ true → list_all is_none bids ≡ true → ⊥
some_bid [] k e all = cc
some_bid (None ∷ bids) zero e all = cc
some_bid (None ∷ bids) (suc k) e all = some_bid bids k e all
some_bid (Some bid ∷ bids) k e all = cc

pub not_void : (bids : List (Option Bid)) (member : ℕ) → has_bid bids member ≡ true → list_all is_none bids ≡ true → ⊥
not_void bids member has all = some_bid bids (member - 1) (both (nat_le 1 member) (is_some (get_or bids (member - 1) None)) has).1 all
