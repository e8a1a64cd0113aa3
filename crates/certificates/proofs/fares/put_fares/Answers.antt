use Rattle.std.proofs.Common.{◌≡◌, ◌+◌, ◌-◌, ◌^◌, ◌++◌, ◌∷◌, [], List, ℕ, length, map, pos, ap, sym, ◌∙◌, append_assoc, append-nil, refl, flat_map, subst}
use Rattle.std.specs.List.{enumerate_from}
use Rattle.std.proofs.lemmas.List.{length-map}
use Rattle.bid_rules.specs.declared.cases.FareCase.{FareCase}
use Rattle.cert_reader.specs.declared.forms.Word.TheVariants as word
use Rattle.cert_reader.specs.Forms.{Form, fares_forms, numbers_of, set_form}
use Rattle.cert_reader.specs.Order.{fares_tail}
use Rattle.cert_reader.specs.Sets.{sets_of}
use Rattle.cert_reader.specs.Text.{Numbers, Said, text_of, wholes}
use Rattle.cert_reader.specs.Views.{says}
use Rattle.certificates.specs.Lines.{number_line}
use Rattle.certificates.specs.FareLines.{canonical_fares, cost_line}
use Rattle.certificates.specs.FareDivisions.{division_of}
use Rattle.certificates.specs.Puts.{Puts}
use Rattle.certificates.proofs.Puts.{puts_two}
use Rattle.certificates.proofs.Rows.{rows_then}
use Rattle.certificates.proofs.Tables.{sets_then}
use Rattle.certificates.proofs.fares.put_fares.Goals as goal

-- parts joined from the left and from the right
joined : (a b d e f legs who at sets r s t : List ℕ) → ((((a ++ (b ++ (d ++ (e ++ f)))) ++ legs) ++ (who ++ at)) ++ sets) ++ (r ++ (s ++ t))
    ≡ a ++ (b ++ (d ++ (e ++ (f ++ (legs ++ (who ++ (at ++ (sets ++ (r ++ (s ++ (t ++ [])))))))))))
joined a b d e f legs who at sets r s t = simp (append_assoc, append-nil) refl

pub returns : goal.returns
unfolding fares_forms
returns c =
    let case = c.args.case.now in
    let view = canonical_fares case (division_of case c.args.fares.now c.args.route.now) in
    let n : ℕ = c.len-riders.result in
    let places : ℕ = case.facts.places in
    let old : List ℕ = c.args.text.now in
    let one = number_line word.Fairsplit (wholes (pos 1 ∷ [])) in
    let two = number_line word.KindFares [] in
    let count = number_line word.Riders (wholes (pos n ∷ [])) in
    let where_to = number_line word.Places (wholes (pos places ∷ [])) in
    let flag = number_line word.Flag (wholes (pos case.facts.flag ∷ [])) in
    let legs = flat_map (λ row. number_line word.Legs (wholes (map pos row.items))) case.facts.legs.items in
    let who = number_line word.Who (wholes view.who) in
    let at = number_line word.At (wholes view.at) in
    let route = number_line word.Route (wholes view.route) in
    let fares = number_line word.Fares view.fares in
    let last_line = number_line word.End [] in
    let table : FareCase → List ℕ = λ of. flat_map (λ set. number_line word.Set (wholes (pos set ∷ cost_line of set))) (sets_of n) in
    let last : List Said = says view.route ∷ Numbers view.fares ∷ says [] ∷ [] in
    let set_forms : List Form = map (set_form n) (sets_of n) ++ fares_tail n in
    let set_lines : ℕ → List Said = λ k. map (λ numbered. says (pos numbered.0 ∷ numbered.1)) (enumerate_from 1 (map (cost_line case) (sets_of k))) ++ last in
    let said : ℕ → ℕ → List Said = λ k j. says (pos 1 ∷ []) ∷ says [] ∷ says (pos k ∷ []) ∷ says (pos places ∷ []) ∷ says (view.flag ∷ []) ∷ (map says view.legs ++ (says view.who ∷ says view.at ∷ set_lines j)) in
    let riders : n ≡ length view.who = c.len-riders.ensures.value ∙ c.requires.case.each ∙ sym (length-map case.who.items pos) in
    let sets = subst (λ (of : FareCase). Puts (table of) c.put_riders-who.result c.put_riders-who.new.text c.put_sets-sets.new.text c.put_sets-sets.result) c.requires.costs c.put_sets-sets.ensures in
    let head = one ++ (two ++ (count ++ (where_to ++ flag))) in
    let a = puts_two head legs 0 old c.put_head-head.new.text c.put_legs-legs.new.text c.put_head-head.result c.put_legs-legs.result c.put_head-head.ensures c.put_legs-legs.ensures in
    let b = puts_two (head ++ legs) (who ++ at) 0 old c.put_legs-legs.new.text c.put_riders-who.new.text c.put_legs-legs.result c.put_riders-who.result a c.put_riders-who.ensures in
    let d = puts_two ((head ++ legs) ++ (who ++ at)) (table case) 0 old c.put_riders-who.new.text c.put_sets-sets.new.text c.put_riders-who.result c.put_sets-sets.result b sets in
    let e = puts_two (((head ++ legs) ++ (who ++ at)) ++ table case) (route ++ (fares ++ last_line)) 0 old c.put_sets-sets.new.text c.put_division.new.text c.put_sets-sets.result c.put_division.result d c.put_division.ensures in
    subst (λ (text : List ℕ). Puts text 0 old c.put_division.new.text c.put_division.result)
    (joined one two count where_to flag legs who at (table case) route fares last_line
    ∙ ap (λ xs. one ++ (two ++ (count ++ (where_to ++ (flag ++ (legs ++ (who ++ (at ++ xs)))))))) (sets_then n (cost_line case) (fares_tail n) last 1 (2 ^ n - 1))
    ∙ ap (λ xs. one ++ (two ++ (count ++ (where_to ++ (flag ++ xs))))) (rows_then word.Legs places (places + 1) (λ row. map pos row.items) case.facts.legs.items
    (numbers_of word.Who n ∷ numbers_of word.At n ∷ set_forms) (says view.who ∷ says view.at ∷ set_lines n) c.requires.case.facts.shape.table.rows)
    ∙ ap (λ (j : ℕ). text_of (fares_forms n places) (said n j)) c.len-riders.ensures.value
    ∙ ap (λ (k : ℕ). text_of (fares_forms k places) (said k (length case.at.items))) riders) e
