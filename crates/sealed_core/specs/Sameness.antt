-- When the creations or bids that a step compares are equal.
use Rattle.std.specs.Prelude.{ℕ, Bool, false, ◌&&◌, ◌==◌, nat_eq, List, Option, None, Some}
use Rattle.std.specs.Cmp.Lexicographic.{pointwise}
use Rattle.bid_rules.specs.declared.bids.Bid.{Bid}
use Rattle.bid_rules.specs.declared.bids.Bid.TheVariants.{Values, Place}
use Rattle.bid_rules.specs.declared.bids.Facts.{Facts}
use Rattle.bid_rules.specs.declared.bids.Facts.TheVariants.{Rent, Goods, Fares}
use Rattle.sealed_core.specs.Host.{CreationView}

-- the texts are equal, byte for byte
abbrev pub same_text : List ℕ → List ℕ → Bool
same_text a b = pointwise nat_eq a b

-- the lists of texts are equal
abbrev pub same_texts : List (List ℕ) → List (List ℕ) → Bool
same_texts a b = pointwise same_text a b

-- the facts are of one kind and equal
abbrev pub same_facts : Facts → Facts → Bool
same_facts (Rent a) (Rent b) = (a.members == b.members) && (a.rent == b.rent)
same_facts (Goods a) (Goods b) = (a.members == b.members) && (a.goods == b.goods) && (a.limit == b.limit)
same_facts (Fares a) (Fares b) = (a.members == b.members) && (a.places == b.places) && (a.flag == b.flag) && pointwise (λ row other. pointwise nat_eq row.items other.items) a.legs.items b.legs.items
same_facts (Rent a) (Goods b) = false
same_facts (Rent a) (Fares b) = false
same_facts (Goods a) (Rent b) = false
same_facts (Goods a) (Fares b) = false
same_facts (Fares a) (Rent b) = false
same_facts (Fares a) (Goods b) = false

-- two creations are equal if all fields are
abbrev pub same_creation : CreationView → CreationView → Bool
same_creation a b = same_text a.title b.title && same_texts a.members b.members && same_texts a.items b.items && same_facts a.facts b.facts && (a.deadline == b.deadline) && same_text a.tag b.tag

-- the bids are both values or both places, and equal
abbrev pub same_bid : Bid → Bid → Bool
same_bid (Values a) (Values b) = pointwise nat_eq a.items b.items
same_bid (Place a) (Place b) = a == b
same_bid (Values a) (Place b) = false
same_bid (Place a) (Values b) = false

-- a bid is kept, and it is this one
abbrev pub is_kept : Option Bid → Bid → Bool
is_kept None bid = false
is_kept (Some kept) bid = same_bid kept bid
