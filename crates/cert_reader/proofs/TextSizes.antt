-- How long a text can be.
use Rattle.std.proofs.Common.{◌≡◌, ℕ, ℤ, suc, pos, ◌+◌, ◌*◌, ◌≤◌, List, [], ◌∷◌, ◌++◌, length, map, arith, refl, ap, ◌∙◌, sym}
use Rattle.std.specs.List.{enumerate_from}
use Rattle.std.proofs.lemmas.List.{length-append}
use Rattle.cert_reader.specs.declared.limits.TheConstants.{LONGEST_LINE, MOST_BESIDE_MARKS, MOST_NUMBERS}
use Rattle.cert_reader.specs.declared.forms.Counts.TheVariants.{Pair}
use Rattle.cert_reader.specs.Forms.{AreCountsOf, AreInRange, Certificates, Form, Line, Tree, forms_of}
use Rattle.cert_reader.specs.Pairs.{IsPairText, pair_said}
use Rattle.cert_reader.specs.Layout.{PairView}
use Rattle.cert_reader.specs.Text.{CanSay, CanSayAll, IsText, Marks, Numbers, Said, said_text, text_of}
use Rattle.cert_reader.specs.Views.{OfFares, OfGoods, OfRent, CertificateView, counts_of, marks_of, said_of, says}
use Rattle.cert_reader.specs.Words.{word_text}
use Rattle.cert_reader.specs.declared.forms.Word.TheVariants as word
use Rattle.cert_reader.proofs.FormLines.{line_short, said_line}
use Rattle.cert_reader.proofs.FormPlaces.{length_pair, lines_few}
use Rattle.cert_reader.proofs.UsualForms.{AreUsual, count_in, usual_forms}
use Rattle.split_frac.specs.Texts.{line}

-- how many marks a line says, and lines one after another
abbrev marks_in : Said → ℕ
marks_in (Numbers numbers) = 0
marks_in (Marks marks) = length marks

mark_count : List Said → ℕ
mark_count [] = 0
mark_count (Numbers numbers ∷ more) = mark_count more
mark_count (Marks marks ∷ more) = length marks + mark_count more

count_more : (said : Said) (more : List Said) → mark_count (said ∷ more) ≡ marks_in said + mark_count more
unfolding mark_count
count_more (Numbers numbers) more = omega arith
count_more (Marks marks) more = refl

-- a line of at most so many numbers, or of marks
line_size : (form : Form) (said : Said) → count_in form ≤ MOST_NUMBERS → CanSay form said → length (said_text form said) ≤ LONGEST_LINE + 1 + marks_in said
unfolding line
line_size (Line form) (Numbers numbers) few can =
    let p = said_line (Line form) (Numbers numbers) can in
    let short = line_short form (Numbers numbers) p.front few (can, sym p.ended) in
    let long : length (said_text (Line form) (Numbers numbers)) ≡ length p.front + 1 = ap length p.ended ∙ length-append p.front (10 ∷ []) in
    omega (arith, short, long)
line_size (Line form) (Marks marks) few can = absurd can
line_size Tree (Numbers numbers) few can = absurd can
line_size Tree (Marks marks) few can =
    let front : length (word_text word.Tree ++ 32 ∷ marks) ≡ 4 + suc (length marks) = length-append (word_text word.Tree) (32 ∷ marks) in
    let whole : length (said_text Tree (Marks marks)) ≡ length (word_text word.Tree ++ 32 ∷ marks) + 1 = length-append (word_text word.Tree ++ 32 ∷ marks) (10 ∷ []) in
    omega (arith, front, whole)

-- lines one after another
lines_size : (forms : List Form) (said : List Said) → AreUsual forms → CanSayAll forms said → length (text_of forms said) ≤ (LONGEST_LINE + 1) * length forms + mark_count said
unfolding AreUsual
lines_size [] [] h can = omega arith
lines_size [] (one ∷ said) h can = absurd can
lines_size (form ∷ forms) [] h can = absurd can
lines_size (form ∷ forms) (one ∷ said) h can =
    let here = line_size form one h.0.short can.0 in
    let rest = lines_size forms said h.1 can.1 in
    let both : length (said_text form one ++ text_of forms said) ≡ length (said_text form one) + length (text_of forms said) = length-append (said_text form one) (text_of forms said) in
    omega (arith, here, rest, both, count_more one said)

-- rows of numbers say no marks, nor do those of sets
rows_count : (rows : List (List ℤ)) (more : List Said) → mark_count (map says rows ++ more) ≡ mark_count more
unfolding mark_count
rows_count [] more = refl
rows_count (row ∷ rows) more = rows_count rows more

sets_count : (first : ℕ) (rows : List (List ℤ)) (more : List Said) → mark_count (map (λ row. says (pos row.0 ∷ row.1)) (enumerate_from first rows) ++ more) ≡ mark_count more
unfolding mark_count
sets_count first [] more = refl
sets_count first (row ∷ rows) more = sets_count (first + 1) rows more

-- a view says its marks
view_count : (view : CertificateView) → mark_count (said_of view) ≡ length (marks_of view)
unfolding mark_count
view_count (OfRent view) = rows_count view.values _
view_count (OfGoods view) = rows_count view.values _ ∙ (let none : length view.marks + 0 ≡ length view.marks = omega arith in none)
view_count (OfFares view) = rows_count view.legs _ ∙ sets_count 1 view.sets _

pair_count : (view : PairView) → mark_count (pair_said view) ≡ 0
unfolding mark_count
pair_count view = rows_count view.values _

-- the counts of a text are in range
in_range : (view : CertificateView) → AreCountsOf Certificates (counts_of view) → AreInRange (counts_of view)
in_range (OfRent view) h = h
in_range (OfGoods view) h = h
in_range (OfFares view) h = h

-- a text is short except for its marks
pub text_size : (bytes : List ℕ) (view : CertificateView) → IsText bytes (counts_of view) (said_of view) → length bytes ≤ MOST_BESIDE_MARKS + length (marks_of view)
text_size bytes view text =
    let are = in_range view text.are_counts in
    let short = lines_size (forms_of (counts_of view)) (said_of view) (usual_forms (counts_of view) are) text.fits in
    let few = lines_few (counts_of view) are in
    let marks = view_count view in
    let same = ap length text.text in
    omega (arith, short, few, marks, same)

-- the text of a pair is short
pub pair_size : (bytes : List ℕ) (view : PairView) → IsPairText bytes view → length bytes ≤ MOST_BESIDE_MARKS
pair_size bytes view text =
    let short = lines_size (forms_of (Pair view.goods)) (pair_said view) (usual_forms (Pair view.goods) text.are_counts) text.fits in
    let few = length_pair view.goods in
    let marks = pair_count view in
    let same = ap length text.text in
    omega (arith, short, few, marks, same)
