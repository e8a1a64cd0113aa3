-- What the cent plan of a rent asks of its prices.
use Rattle.std.proofs.Common.{◌≡◌, ℕ, ◌+◌, ◌-◌, ◌*◌, ◌<◌, ◌≤◌, List, [], ◌∷◌, ◌++◌, All, length, map, take, get_or, pos, arith, sym, ap, subst, ◌∙◌}
use Rattle.std.specs.Prelude.{unsigned_abs}
use Rattle.std.proofs.lemmas.List.{get_or-map, get_or_default, length-map, map-append, map_more}
use Rattle.std.proofs.lemmas.List.Elements.{All-weaker}
use Rattle.bid_rules.specs.declared.limits.TheConstants.{MOST_AMOUNT}
use Rattle.split_frac.specs.declared.frac.Frac.{Frac}
use Rattle.split_frac.specs.Frac.{IsWithinLimits, fraction_of}
use Rattle.bid_rules.specs.declared.rents.RentCase.{RentCase}
use Rattle.bid_rules.specs.Cents.{amount_at, prices_by_member}
use Rattle.bid_rules.specs.Fractions.{Fraction}
use Rattle.bid_rules.specs.Rent.{RentBest, room_count}
use Rattle.split_lemmas.proofs.RoomPlaces.{room_range, rooms_length}
use Rattle.envy_check.specs.Envy.{IsAmount}
use Rattle.rent_maximin.specs.Division.{IsRentDivision}
use Rattle.rent_maximin.specs.declared.division.RentDivision.{RentDivision}

-- a number of a room
abbrev IsRoom : ℕ → ℕ → Type 0
IsRoom n room = (1 ≤ room) × (room ≤ n)

-- the rooms of the best division are numbers of rooms
pub best_rooms : (case : RentCase) (rooms : List ℕ) (prices : List Fraction) → RentBest case rooms prices → All (IsRoom (room_count case)) rooms
best_rooms case rooms prices best = λ i d l.
    let long = rooms_length (room_count case) rooms best.priced.assignment in
    subst (IsRoom (room_count case)) (get_or_default rooms i 0 d l) (room_range (room_count case) rooms i best.priced.assignment (omega (arith, l, long)))

-- how many prices there are
pub price_count : (case : RentCase) (division : RentDivision) → IsRentDivision case division → length division.prices.items ≡ room_count case
price_count case division is = sym (length-map division.prices.items fraction_of) ∙ is.prices.count

-- the prices are amounts of which there may be a cent plan
pub price_amounts : (prices : List Frac) → All (λ price. IsWithinLimits price × (unsigned_abs price.num ≤ MOST_AMOUNT * price.den)) prices → All IsAmount prices
price_amounts prices within = All-weaker (λ price. IsWithinLimits price × (unsigned_abs price.num ≤ MOST_AMOUNT * price.den)) IsAmount (λ price h. (h.1, h.0.1)) prices within

-- one more price by member
pub price_more : (prices : List Frac) (rooms : List ℕ) (i : ℕ) (amounts : List Frac) (price : Frac) → i < length rooms → All (IsRoom (length prices)) rooms
    → price ≡ get_or prices (get_or rooms i 0 - 1) price → map fraction_of amounts ≡ prices_by_member (take i rooms) (map fraction_of prices)
    → map fraction_of (amounts ++ price ∷ []) ≡ prices_by_member (take (i + 1) rooms) (map fraction_of prices)
price_more prices rooms i amounts price l all is before =
    let place : ℕ = get_or rooms i 0 - 1 in
    let here = all i 0 l in
    let within : place < length prices = omega (arith, here.0, here.1) in
    let amount : ℕ → Fraction = λ room. amount_at (map fraction_of prices) (room - 1) in
    let same : fraction_of price ≡ amount (get_or rooms i 0) = ap fraction_of is ∙ sym (get_or-map fraction_of prices place price (pos 0, 1) within) in
    map-append fraction_of amounts (price ∷ []) ∙ ap (λ xs. xs ++ fraction_of price ∷ []) before ∙ ap (λ x. map amount (take i rooms) ++ x ∷ []) same ∙ sym (map_more amount rooms i 0 l)

-- the division's rooms are numbers of rooms, of which each has a price
pub rooms_within : (case : RentCase) (division : RentDivision) (rooms : List ℕ) (prices : List Frac) → IsRentDivision case division → rooms ≡ division.best.rooms.items → prices ≡ division.prices.items
    → All (IsRoom (length prices)) rooms
rooms_within case division rooms prices is same_rooms same_prices =
    let count : length prices ≡ room_count case = ap length same_prices ∙ price_count case division is in
    subst (λ xs. All (IsRoom (length prices)) xs) (sym same_rooms) (subst (λ m. All (IsRoom m) division.best.rooms.items) (sym count) (best_rooms case division.best.rooms.items (map fraction_of division.prices.items) is.best))

-- the prices by member, as they are listed
pub prices_listed : (division : RentDivision) (rooms : List ℕ) (prices amounts : List Frac) → rooms ≡ division.best.rooms.items → prices ≡ division.prices.items
    → map fraction_of amounts ≡ prices_by_member rooms (map fraction_of prices) → map fraction_of amounts ≡ prices_by_member division.best.rooms.items (map fraction_of division.prices.items)
prices_listed division rooms prices amounts same_rooms same_prices listed =
    listed ∙ ap (λ xs. prices_by_member xs (map fraction_of prices)) same_rooms ∙ ap (λ xs. prices_by_member division.best.rooms.items (map fraction_of xs)) same_prices
