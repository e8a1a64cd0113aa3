-- The case of a proposal, and its owners as players.
use Rattle.std.proofs.Common.{◌≡◌, ◌≤◌, ℕ, List, All, Contains, Bool, true, false, length, get_or, if◌then◌else◌, is_some, is_none, Ok, Err, arith, refl, sym, ap, subst}
use Rattle.std.specs.Prelude.{Option}
use Rattle.std.specs.List.{list_all}
use Rattle.std.proofs.lemmas.List.Elements.{All-weaker}
use Rattle.bid_rules.specs.declared.bids.Bid.{Bid}
use Rattle.bid_rules.specs.declared.bids.Facts.{Facts}
use Rattle.bid_rules.specs.declared.bids.Facts.TheVariants as facts
use Rattle.bid_rules.specs.declared.cases.Case.{Case}
use Rattle.bid_rules.specs.declared.cases.Case.TheVariants as case
use Rattle.bid_rules.specs.declared.cases.Missing.{Missing}
use Rattle.bid_rules.specs.declared.goods.GoodsCase.{GoodsCase}
use Rattle.bid_rules.specs.declared.limits.TheConstants.{ITEM_ROOM}
use Rattle.bid_rules.specs.Facts.{IsCheckedFacts, case_of, members_where}
use Rattle.body_fields.specs.Creations.{item_count}
use Rattle.split_json.specs.Proposals.{AreOfGoods, IsReadyProposal, has_bid}
use Rattle.split_json.specs.Reading.{CaseData}
use Rattle.input_commands.proofs.Bidders.{is_player, not_void}

-- there are 1 to 24 goods
counted : (given : Facts) → AreOfGoods given → IsCheckedFacts given → (1 ≤ item_count given) × (item_count given ≤ ITEM_ROOM)
counted (facts.Goods goods) of checked = (checked.counts.2, checked.counts.3)
counted (facts.Rent rent) of checked = absurd of
counted (facts.Fares fares) of checked = absurd of

-- so many members are to own them
pub some_owners : (given : CaseData) (members : List ℕ) → IsReadyProposal given members → 1 ≤ length members
some_owners given members ready =
    let low = (counted given.facts ready.goods ready.ready.facts).0 in let each = ready.each in let items = ready.ready.items in omega (arith, low, each, items)

-- a case of goods has those who bid as its players
made_of : (none : Bool) (missing : Missing) (made found : GoodsCase) → (if none then Err missing else Ok (case.Goods made)) ≡ Ok (case.Goods found) → made ≡ found
made_of true missing made found e = absurd (cc)
made_of false missing made found e = cc

who_bid : (given : Facts) (bids : List (Option Bid)) (found : GoodsCase) → AreOfGoods given → case_of given bids ≡ Ok (case.Goods found) → found.who.items ≡ members_where is_some bids
who_bid (facts.Goods goods) bids found of e = let same = made_of (list_all is_none bids) _ _ found e in ap (λ (c : GoodsCase). c.who.items) (sym same)
who_bid (facts.Rent rent) bids found of e = absurd of
who_bid (facts.Fares fares) bids found of e = absurd of

-- the members who are to own goods are players
pub owners_bid : (given : CaseData) (members : List ℕ) (found : GoodsCase) → IsReadyProposal given members → case_of given.facts given.bids ≡ Ok (case.Goods found)
    → All (λ member. Contains found.who.items member) members
owners_bid given members found ready made =
    let who = who_bid given.facts given.bids found ready.goods made in
    All-weaker (λ member. has_bid given.bids member ≡ true) (λ member. Contains found.who.items member)
    (λ member has. subst (λ (players : List ℕ). Contains players member) (sym who) (is_player given.bids member has)) members ready.bidders

-- facts and bids of goods make no case only where nobody has bid
void_of : (none : Bool) (missing other : Missing) (made : Case) → (if none then Err missing else Ok made) ≡ Err other → none ≡ true
void_of true missing other made e = refl
void_of false missing other made e = cc

all_missing : (given : Facts) (bids : List (Option Bid)) (missing : Missing) → AreOfGoods given → case_of given bids ≡ Err missing → list_all is_none bids ≡ true
all_missing (facts.Goods goods) bids missing of e = void_of (list_all is_none bids) _ missing _ e
all_missing (facts.Rent rent) bids missing of e = absurd of
all_missing (facts.Fares fares) bids missing of e = absurd of

-- so a proposal has a case
pub has_case : (given : CaseData) (members : List ℕ) (missing : Missing) → IsReadyProposal given members → case_of given.facts given.bids ≡ Err missing → ⊥
has_case given members missing ready void =
    not_void given.bids (get_or members 0 0) (ready.bidders 0 0 (some_owners given members ready)) (all_missing given.facts given.bids missing ready.goods void)
