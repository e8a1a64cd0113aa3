-- A bid is allowed exactly where it's checked.
use Rattle.std.proofs.Common.{◌≡◌, ◌↔◌, Bool, true, false, Option, None, Some, if◌then◌else◌, refl, sym, ap, true≢false, is_some}
use Rattle.std.specs.Bool.{Decides}
use Rattle.bid_rules.specs.declared.bids.Bid.{Bid}
use Rattle.bid_rules.specs.declared.bids.Facts.{Facts}
use Rattle.bid_rules.specs.Checks.{passes_bid}
use Rattle.bid_rules.specs.Facts.{IsCheckedBid}
use Rattle.body_fields.specs.Rules.{allowed_bid}
use Rattle.split_lemmas.proofs.Checks.{bid_decided}

-- what holds of a bid that is checked, and of none where it isn't, holds of what is allowed
pub by_rules : (facts : Facts) (bid : Bid) (G : Option Bid → Type 0) → (IsCheckedBid facts bid → G (Some bid)) → ((IsCheckedBid facts bid → ⊥) → G None) → G (allowed_bid facts bid)
unfolding allowed_bid
by_rules facts bid G right wrong = by_test (passes_bid facts bid) (bid_decided facts bid)
  where
    by_test : (passes : Bool) → Decides passes (IsCheckedBid facts bid) → G (if passes then Some bid else None)
    by_test true decides = right (decides.0 refl)
    by_test false decides = wrong (λ checked. absurd (true≢false (sym (decides.1 checked))))

-- a bid is allowed exactly where it's checked
pub allowed_is : (facts : Facts) (bid : Bid) → (allowed_bid facts bid ≡ Some bid) ↔ IsCheckedBid facts bid
allowed_is facts bid = (
  by_rules facts bid (λ (allowed : Option Bid). allowed ≡ Some bid → IsCheckedBid facts bid) (λ checked _. checked) (λ _ is. absurd (true≢false (sym (ap is_some is)))),
  λ checked. by_rules facts bid (λ (allowed : Option Bid). allowed ≡ Some bid) (λ _. refl) (λ wrong. absurd (wrong checked)),
)
