-- The rules that a reader of bodies and the host share: those of names, of tags, and of a bid under checked facts.
use Rattle.std.specs.Prelude.{◌≡◌, ℕ, Bool, true, not, ◌&&◌, ◌||◌, ◌==◌, nat_le, nat_lt, List, length, Option, Some, None, if◌then◌else◌}
use Rattle.std.specs.List.{list_all}
use Rattle.bid_rules.specs.declared.bids.Bid.{Bid}
use Rattle.bid_rules.specs.declared.bids.Facts.{Facts}
use Rattle.bid_rules.specs.declared.limits.TheConstants.{LONGEST_NAME}
use Rattle.bid_rules.specs.Checks.{passes_bid}
use Rattle.body_fields.specs.declared.limits.TheConstants.{LONGEST_TAG, SHORTEST_TAG}

-- a test of whether the byte is not an ASCII control character
abbrev pub is_plain : ℕ → Bool
is_plain byte = nat_le 32 byte && not (byte == 127)

-- a test of whether the text is a name: at least one byte, at most as many as the longest name, none of them a control
-- character
abbrev pub is_name : List ℕ → Bool
is_name text = nat_lt 0 (length text) && nat_le (length text) LONGEST_NAME && list_all is_plain text

-- the text is a name: at least one byte, at most as many as the longest name, none of them a control character
abbrev pub IsName : List ℕ → Type 0
IsName text = is_name text ≡ true

-- a test of whether the byte may be in a tag: a digit, a lower-case letter or a hyphen
abbrev pub is_tag_byte : ℕ → Bool
is_tag_byte byte = (nat_le 48 byte && nat_le byte 57) || (nat_le 97 byte && nat_le byte 122) || (byte == 45)

-- a test of whether the text is a tag: between the shortest and the longest tag, of digits, lower-case letters and hyphens
abbrev pub is_tag : List ℕ → Bool
is_tag text = nat_le SHORTEST_TAG (length text) && nat_le (length text) LONGEST_TAG && list_all is_tag_byte text

-- the text is a tag: between the shortest and the longest tag, of digits, lower-case letters and hyphens
abbrev pub IsTag : List ℕ → Type 0
IsTag text = is_tag text ≡ true

-- the bid, if the facts allow it
unfoldable pub allowed_bid : Facts → Bid → Option Bid
allowed_bid facts bid = if passes_bid facts bid then Some bid else None
