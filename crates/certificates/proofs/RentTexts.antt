-- The canonical certificate of a rent is certificate text.
use Rattle.std.proofs.Common.{◌≡◌, ℕ, pos, ◌^◌, ◌<◌, ◌≤◌, List, [], ◌∷◌, length, map, replicate, get_or, sum, refl, sym, ◌∙◌, subst, arith}
use Rattle.std.proofs.lemmas.List.{length-map}
use Rattle.std.proofs.lemmas.List.Elements.{All-from_get_or}
use Rattle.arrayvec.specs.declared.array_vec.ArrayVec.{ArrayVec}
use Rattle.bid_rules.specs.declared.rents.RentCase.{RentCase}
use Rattle.bid_rules.specs.Rent.{IsValidRentCase, room_count}
use Rattle.cert_reader.specs.declared.forms.Word.TheVariants as word
use Rattle.cert_reader.specs.Forms.{led_by, numbers_of, rent_forms}
use Rattle.cert_reader.specs.Order.{rent_tail}
use Rattle.cert_reader.specs.Numbers.{AreShort, AreSmall}
use Rattle.cert_reader.specs.Text.{CanSay, CanSayAll, IsText, Numbers}
use Rattle.cert_reader.specs.Views.{OfRent, counts_of, rent_said, said_of, says}
use Rattle.certificates.specs.Canonical.{text_saying}
use Rattle.certificates.proofs.Fits.{can-append, fractions_fit, lead_fits, none_fits, numbers_fit, one_fits, rows_fit, small_again}
use Rattle.certificates.specs.RentLines.{canonical_rent}
use Rattle.rent_maximin.specs.Division.{IsRentDivision}
use Rattle.rent_maximin.specs.declared.division.RentDivision.{RentDivision}
use Rattle.split_frac.specs.Frac.{fraction_of}
use Rattle.split_lemmas.proofs.ListPlaces.{get_le_sum}
use Rattle.split_lemmas.proofs.RoomPlaces.{room_range, rooms_length}

-- values that sum to a rent are small
pub row_small : (row : List ℕ) → sum row ≤ 10000000 → AreSmall (map pos row)
row_small row total = small_again row (All-from_get_or (λ x. x < 10 ^ 25) row 0 (λ k l. let most = get_le_sum row k in omega (arith, most, total)))

-- the lines can say the case and the division, in n rooms
fits : (n : ℕ) (case : RentCase) (division : RentDivision) → IsValidRentCase case → IsRentDivision case division → AreShort division.prices.items → room_count case ≡ n
    → CanSayAll (rent_forms n) (rent_said (canonical_rent case division))
unfolding rent_forms
fits n case division valid is prices same =
    let few = valid.facts.0.1 in
    let rent = valid.facts.1.1 in
    let view = canonical_rent case division in
    let rooms = division.best.rooms.items in
    let long : length rooms ≡ n = rooms_length (room_count case) rooms is.rooms.assignment ∙ same in
    let counted : length (map pos rooms) ≡ n = length-map rooms pos ∙ long in
    let rows : CanSayAll (replicate n (numbers_of word.Values n)) (map says view.values) =
    subst (λ (k : ℕ). CanSayAll (replicate k (numbers_of word.Values n)) (map says view.values)) (valid.bids ∙ same)
    (rows_fit word.Values n (λ (row : ArrayVec ℕ 24 (Unit {0})). map pos row.items) case.values.items
    (λ k d l. length-map (get_or case.values.items k d).items pos ∙ valid.rooms k d l ∙ same)
    (λ k d l. row_small (get_or case.values.items k d).items (let s = valid.sums k d l in omega (arith, s, rent)))) in
    let ranks = is.ranks.count in
    let tail : CanSayAll (rent_tail n) (says view.rooms ∷ says view.left ∷ says view.right ∷ says view.walks ∷ says view.ranks ∷ Numbers view.prices ∷ says [] ∷ []) = (
      numbers_fit word.Rooms n view.rooms counted
          (small_again rooms (All-from_get_or (λ x. x < 10 ^ 25) rooms 0 (λ k l. let r = room_range (room_count case) rooms k is.rooms.assignment (omega (arith, l, long, same)) in omega (arith, r.1, few)))),
      (
        numbers_fit word.Left n view.left (is.left.count ∙ same) is.left_range,
        (
          numbers_fit word.Right n view.right (is.dual.rights ∙ same) is.right_range,
          (
            numbers_fit word.Walks n view.walks (is.walks.count ∙ same) is.walk_range,
            (
              numbers_fit word.Ranks n view.ranks (length-map division.walks.ranks.items pos ∙ is.ranks.count ∙ same)
                  (small_again division.walks.ranks.items (λ k d l. let r = is.rank_range k d l in omega (arith, r, few))),
              (fractions_fit word.Prices n division.prices.items (sym (length-map division.prices.items fraction_of) ∙ is.prices.count ∙ same) prices, (none_fits word.End, tt)),
            ),
          ),
        ),
      ),
    ) in (
      lead_fits word.Fairsplit 1 (omega arith),
      (
        none_fits word.KindRent,
        (
          subst (λ (k : ℕ). CanSay (led_by word.Members n 1) (says (pos k ∷ []))) (sym counted) (lead_fits word.Members n (omega (arith, few, same))),
          (
            one_fits word.Rent case.facts.rent (omega (arith, rent)),
            can-append (replicate n (numbers_of word.Values n)) (rent_tail n) (map says view.values) (says view.rooms ∷ says view.left ∷ says view.right ∷ says view.walks ∷ says view.ranks ∷ Numbers view.prices ∷ says [] ∷ []) rows tail,
          ),
        ),
      ),
    )

-- the canonical text is certificate text
pub rent_is_text : (case : RentCase) (division : RentDivision) → IsValidRentCase case → IsRentDivision case division → AreShort division.prices.items
    → IsText (text_saying (OfRent (canonical_rent case division))) (counts_of (OfRent (canonical_rent case division))) (said_of (OfRent (canonical_rent case division)))
rent_is_text case division valid is prices =
    let rooms = division.best.rooms.items in
    let count : length (map pos rooms) ≡ room_count case = length-map rooms pos ∙ rooms_length (room_count case) rooms is.rooms.assignment in
    let low = valid.facts.0.0 in
    let high = valid.facts.0.1 in
    record {
      are_counts = (omega (arith, count, low), omega (arith, count, high));
      fits = fits (length (map pos rooms)) case division valid is prices (sym count);
      text = refl;
    }
