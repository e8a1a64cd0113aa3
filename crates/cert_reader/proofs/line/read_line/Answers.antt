use Rattle.std.proofs.Common.{ℕ, List, [], refl, sym, ◌∙◌, ◌≡◌, ap, map, ◌++◌, subst, IfSome, Some, All, length, Bool, true, false}
use Rattle.std.specs.Prelude.{Option, IsTrue, ◌↔◌}
use Rattle.std.specs.Bool.{MatchBool}
use Rattle.split_frac.specs.declared.frac.Frac.{Frac}
use Rattle.cert_reader.specs.Cuts.{IsLine}
use Rattle.cert_reader.specs.Numbers.{IsNumber}
use Rattle.cert_reader.specs.declared.forms.LineForm.{LineForm}
use Rattle.std.proofs.lemmas.List.{append_cancel_left}
use Rattle.bid_rules.specs.Fractions.{Fraction}
use Rattle.split_frac.specs.Frac.{fraction_of}
use Rattle.split_frac.specs.Texts.{numbers_text}
use Rattle.cert_reader.specs.Words.{word_text}
use Rattle.cert_reader.specs.Text.{BeginsWithNumber}
use Rattle.cert_reader.proofs.Numbers.{numbers_apart}
use Rattle.cert_reader.proofs.line.read_line.Goals as goal

-- what comes after a word is one text
behind_word : (line word rest text : List ℕ) → line ≡ word ++ rest → line ≡ word ++ text → rest ≡ text
behind_word line word rest text e f = append_cancel_left word rest text (sym e ∙ f)

-- the first number that is asked for
some_lead : (o : Option ℕ) (n : ℕ) (ns : List Fraction) → o ≡ Some n → IfSome o (λ m. BeginsWithNumber m ns) → BeginsWithNumber n ns
some_lead o n ns e h = subst (λ x. IfSome x (λ m. BeginsWithNumber m ns)) e h

pub returns-then-not-push_numbers : goal.returns-then-not-push_numbers
returns-then-not-push_numbers c numbers line =
    let word = c.as_bytes.ensures.value ∙ c.as_str.ensures in
    c.if-not-push_numbers.ensures numbers line.0.each line.0.written
    (behind_word c.args.line.now (word_text c.args.form.word) c.in-Some.rest.now (numbers_text numbers) (c.in-Some.ensures ∙ ap (λ w. w ++ c.in-Some.rest.now) word) line.1)

-- where the first number is asked for, the line has the form exactly if that number stands in front of it
lead_line : (form : LineForm) (line rest : List ℕ) (lead : ℕ) (led : Bool) (numbers old read : List Fraction) → form.lead ≡ Some lead → line ≡ word_text form.word ++ rest → old ≡ [] → numbers ≡ old ++ read
    → length read ≡ form.count → All (IsNumber form.whole) read → rest ≡ numbers_text read → IsTrue led ↔ BeginsWithNumber lead numbers → MatchBool led (IsLine form numbers line) ((others : List Fraction) → IsLine form others line → ⊥)
lead_line form line rest lead true numbers old read asked text none are many each said decides =
    let same : numbers ≡ read = are ∙ ap (λ xs. xs ++ read) none in (
      record {
        each = ap length same ∙ many;
        written = subst (All (IsNumber form.whole)) (sym same) each;
        first = subst (λ x. IfSome x (λ m. BeginsWithNumber m numbers)) (sym asked) (decides.0 refl);
      },
      text ∙ ap (λ xs. word_text form.word ++ xs) (said ∙ ap numbers_text (sym same)),
    )
lead_line form line rest lead false numbers old read asked text none are many each said decides = λ others is.
    (let both : numbers_text others ≡ numbers_text read = sym (behind_word line (word_text form.word) rest (numbers_text others) text is.1) ∙ said in
    let same : others ≡ numbers = numbers_apart form.whole form.whole others read is.0.written each both ∙ sym (are ∙ ap (λ xs. xs ++ read) none) in
    let led = decides.1 (subst (λ ns. BeginsWithNumber lead ns) same (some_lead form.lead lead others asked is.0.first)) in
    cc)

pub returns-in-Some-lead : goal.returns-in-Some-lead
returns-in-Some-lead c =
    let word = c.as_bytes.ensures.value ∙ c.as_str.ensures in
    let read = c.if-not-push_numbers.ensures in
    lead_line c.args.form c.args.line.now c.in-Some.rest.now c.in-Some-lead.lead c.has_lead.result (map fraction_of c.push_numbers.new.numbers.items) (map fraction_of c.clear.new.self.items) read.0
    c.in-Some-lead.is (c.in-Some.ensures ∙ ap (λ w. w ++ c.in-Some.rest.now) word) (ap (map fraction_of) c.clear.ensures) read.1 read.2 read.3 read.4
    (subst (λ (ns : List Frac). IsTrue c.has_lead.result ↔ BeginsWithNumber c.in-Some-lead.lead (map fraction_of ns)) c.deref.ensures.0 c.has_lead.ensures)
