-- Fares whose legs cost nothing have no fault exactly where the counts and the flag fall are within their limits.
use Rattle.std.proofs.Common.{◌≡◌, ℕ, ◌≤◌, ◌+◌, ◌-◌, suc, List, [], ◌∷◌, length, replicate, All, flat_map, ◌↔◌, refl, arith}
use Rattle.std.proofs.lemmas.List.{length-replicate, get_or-replicate}
use Rattle.std.proofs.lemmas.List.Elements.{All-append, All-cons, All-head, All-nil, All-replicate}
use Rattle.arrayvec.specs.ArrayVec.{ArrayVec}
use Rattle.bid_rules.specs.declared.limits.TheConstants.{FEWEST_MEMBERS, MOST_FARE_CENTS, MOST_PLACES, MOST_RIDERS}
use Rattle.bid_rules.specs.Facts.{IsCheckedFacts}
use Rattle.split_json.specs.Reading.{free_fares}

-- what holds of each number of each part holds of each number of all
All-parts : {X A : Type 0} (f : X → List A) (P : A → Type 0) (xs : List X) → All (λ x. All P (f x)) xs → All P (flat_map f xs)
All-parts f P [] all = All-nil P
All-parts f P (x ∷ xs) all = All-append P (f x) (flat_map f xs) (all 0 x (omega arith)) (All-parts f P xs (λ k d below. all (suc k) d (omega arith)))

-- the legs from one place
abbrev row : ℕ → ArrayVec ℕ
row places = record { items = replicate places 0 }

-- fares without costs are checked exactly where the counts and the flag fall are within their limits
pub free_fares-checked : (members places flag : ℕ) → IsCheckedFacts (free_fares members places flag)
    ↔ ((FEWEST_MEMBERS ≤ members) × (members ≤ MOST_RIDERS) × (1 ≤ places) × (places ≤ MOST_PLACES) × (flag ≤ MOST_FARE_CENTS))
unfolding free_fares
free_fares-checked members places flag = (
  λ checked. (checked.shape.members_low, checked.shape.members_high, checked.shape.places_low, checked.shape.places_high, All-head (λ cents. cents ≤ MOST_FARE_CENTS) flag _ checked.cents),
  λ within. record {
    shape = record {
      members_low = within.0;
      members_high = within.1;
      places_low = within.2;
      places_high = within.3;
      table = record { rows = length-replicate (places + 1) (row places); columns = All-replicate (λ one. length one.items ≡ places) (places + 1) (row places) (length-replicate places 0) };
    };
    cents = All-cons (λ cents. cents ≤ MOST_FARE_CENTS) flag _ within.4
        (All-parts (λ one. one.items) (λ cents. cents ≤ MOST_FARE_CENTS) (replicate (places + 1) (row places))
        (All-replicate (λ one. All (λ cents. cents ≤ MOST_FARE_CENTS) one.items) (places + 1) (row places) (All-replicate (λ cents. cents ≤ MOST_FARE_CENTS) places 0 (omega arith))));
    own_legs = λ place low high.
        rw (get_or-replicate (places + 1) place (row places) _ (omega (arith, high)), get_or-replicate {A = ℕ} places (place - 1) 0 0 (omega (arith, low, high))) refl;
  },
)
