use Rattle.std.proofs.Common.{◌≡◌, ◌++◌, ◌∷◌, [], List, ℕ, length, map, pos, ap, sym, ◌∙◌, subst, flat_map}
use Rattle.std.proofs.lemmas.List.{length-map}
use Rattle.bid_rules.specs.Rent.{room_count}
use Rattle.cert_reader.specs.declared.forms.Word.TheVariants as word
use Rattle.cert_reader.specs.Forms.{rent_forms}
use Rattle.cert_reader.specs.Order.{rent_tail}
use Rattle.cert_reader.specs.Text.{Numbers, Said, text_of, wholes}
use Rattle.cert_reader.specs.Views.{says}
use Rattle.certificates.specs.Lines.{number_line}
use Rattle.certificates.specs.RentLines.{canonical_rent}
use Rattle.certificates.specs.Puts.{Puts}
use Rattle.certificates.proofs.Puts.{puts_two}
use Rattle.certificates.proofs.Rows.{rows_then, twelve}
use Rattle.certificates.proofs.rent.put_rent.Goals as goal

pub returns : goal.returns
unfolding rent_forms
returns c =
    let case = c.args.case.now in
    let division = c.args.division.now in
    let view = canonical_rent case division in
    let n : ℕ = room_count case in
    let old : List ℕ = c.args.text.now in
    let one = number_line word.Fairsplit (wholes (pos 1 ∷ [])) in
    let two = number_line word.KindRent [] in
    let three = number_line word.Members (wholes (pos n ∷ [])) in
    let four = number_line word.Rent (wholes (pos case.facts.rent ∷ [])) in
    let each = flat_map (λ row. number_line word.Values (wholes (map pos row.items))) case.values.items in
    let rooms = number_line word.Rooms (wholes view.rooms) in
    let left = number_line word.Left (wholes view.left) in
    let right = number_line word.Right (wholes view.right) in
    let walks = number_line word.Walks (wholes view.walks) in
    let ranks = number_line word.Ranks (wholes view.ranks) in
    let prices = number_line word.Prices view.prices in
    let last = number_line word.End [] in
    let said : List Said = says view.rooms ∷ says view.left ∷ says view.right ∷ says view.walks ∷ says view.ranks ∷ Numbers view.prices ∷ says [] ∷ [] in
    let rows = subst (λ xs. Puts (flat_map (λ row. number_line word.Values (wholes (map pos row.items))) xs) c.put_head-used.result c.put_head-used.new.text c.put_rows-used.new.text c.put_rows-used.result)
    c.as_slice.ensures.value c.put_rows-used.ensures in
    let count : n ≡ length view.rooms = sym (length-map division.best.rooms.items pos ∙ c.assignment_law.ensures.count case division.best.rooms.items c.requires.division.rooms.assignment) in
    let head = one ++ (two ++ (three ++ four)) in
    let shown = rooms ++ (left ++ right) in
    let tail = walks ++ (ranks ++ (prices ++ last)) in
    let a = puts_two head each 0 old c.put_head-used.new.text c.put_rows-used.new.text c.put_head-used.result c.put_rows-used.result c.put_head-used.ensures rows in
    let b = puts_two (head ++ each) shown 0 old c.put_rows-used.new.text c.put_rooms-used.new.text c.put_rows-used.result c.put_rooms-used.result a c.put_rooms-used.ensures in
    let d = puts_two ((head ++ each) ++ shown) tail 0 old c.put_rooms-used.new.text c.put_prices.new.text c.put_rooms-used.result c.put_prices.result b c.put_prices.ensures in
    subst (λ (text : List ℕ). Puts text 0 old c.put_prices.new.text c.put_prices.result)
    (twelve one two three four each rooms left right walks ranks prices last
    ∙ ap (λ xs. one ++ (two ++ (three ++ (four ++ xs)))) (rows_then word.Values n n (λ row. map pos row.items) case.values.items (rent_tail n) said c.requires.case.bids)
    ∙ ap (λ (k : ℕ). text_of (rent_forms k) (says (pos 1 ∷ []) ∷ says [] ∷ says (pos k ∷ []) ∷ says (view.rent ∷ []) ∷ (map says view.values ++ said))) count) d
