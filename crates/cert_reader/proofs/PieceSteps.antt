-- What an answer on held bytes says of all bytes that were taken from the source.
use Rattle.std.proofs.Common.{◌≡◌, ℕ, ◌+◌, ◌<◌, ◌≤◌, List, [], ◌∷◌, ◌++◌, length, map, take, Bool, false, arith, refl, sym, ap, ◌∙◌, subst, length-append, append_assoc, append-nil}
use Rattle.std.specs.Prelude.{Option, Ok, Err}
use Rattle.std.proofs.KnownBytes.{Consumes-trans}
use Rattle.cert_reader.specs.declared.limits.TheConstants.{MOST_BYTES}
use Rattle.arrayvec.specs.declared.array_vec.ArrayVec.{ArrayVec}
use Rattle.split_frac.specs.declared.frac.Frac.{Frac}
use Rattle.split_frac.specs.Frac.{fraction_of}
use Rattle.cert_reader.specs.declared.ends.TextEnd.{TextEnd}
use Rattle.cert_reader.specs.declared.ends.TextEnd.TheVariants.{NotText, ReadFault, TooLong}
use Rattle.cert_reader.specs.declared.forms.Counts.{Counts}
use Rattle.cert_reader.specs.declared.text_lines.TextLines.{TextLines}
use Rattle.cert_reader.specs.Forms.{AreInRange, Series, forms_of}
use Rattle.cert_reader.specs.Order.{AgreeUpTo, HasNoLine, form_in}
use Rattle.cert_reader.specs.Reading.{Begins, ReadsOnIn, IsEndOf, IsLineRead, IsReadOf, Reading, as_reading}
use Rattle.cert_reader.specs.Steps.{IsRefused, IsNextLineOrRefusal}
use Rattle.cert_reader.specs.Stream.{Hands, Held, IsStopped, taken_count}
use Rattle.cert_reader.specs.Text.{CanSay, IsBrokenTextOf, Numbers, Said, said_text, text_of}
use Rattle.cert_reader.proofs.Agreeing.{agree_series}
use Rattle.cert_reader.proofs.Beginnings.{begins_grown, begins_more, begins_others, broken_behind, none_behind}
use Rattle.cert_reader.proofs.FormLines.{said_line}
use Rattle.cert_reader.proofs.Handed.{hands_trans, stops_after}

-- the reading of held bytes, after whole lines or within a tree
abbrev pub reading_at : Held → ℕ → Counts → Bool → Reading
reading_at held lines counts in_tree = record { ahead = held.ahead; given = held.given; lines = lines; counts = counts; in_tree = in_tree }

-- the reading of held bytes after whole lines
abbrev pub reading_of : Held → ℕ → Counts → Reading
reading_of held lines counts = reading_at held lines counts false

-- which of both a reading is
pub reading_is : (r : Reading) (held : Held) (lines : ℕ) (counts : Counts) (in_tree is : Bool) → reading_at held lines counts in_tree ≡ r → r.in_tree ≡ is → reading_at held lines counts is ≡ r
reading_is r held lines counts in_tree is e at = subst (λ b. reading_at held lines counts b ≡ r) (ap (λ s. s.in_tree) e ∙ at) e

-- whole lines that were read are the first of the bytes taken
pub whole_begins : {series : Series} → (held : Held) (lines : ℕ) (counts : Counts) (taken : List ℕ) (said : List Said) → IsReadOf series (reading_of held lines counts) taken said → Begins series taken lines counts said held.ahead
whole_begins {series} held lines counts taken said h = subst (λ bytes. Begins series bytes lines counts said held.ahead) (sym h.is_taken) h.begins

-- and bytes that begin with whole lines are what a reading of those lines has read, where all that was taken is counted
pub begins_whole : {series : Series} → (held : Held) (lines : ℕ) (counts : Counts) (taken : List ℕ) (said : List Said) → Begins series taken lines counts said held.ahead → length taken ≡ held.given + length held.ahead
    → IsReadOf series (reading_of held lines counts) taken said
begins_whole {series} held lines counts taken said h total = record {
  front = text_of (take lines (forms_of counts)) said;
  is_taken = h.text;
  begins = subst (λ bytes. Begins series bytes lines counts said held.ahead) h.text h;
  total = total;
}

-- how many bytes were taken in all
pub total_of : (a b : Held) (x y : Option (List ℕ)) (handed taken : List ℕ) (p : Hands a b x y handed) → length taken ≡ a.given + length a.ahead → length (taken ++ p.more) ≡ b.given + length b.ahead
total_of a b x y handed taken p e =
    let given = p.given in
    let both : length a.ahead + length p.more ≡ length handed + length b.ahead = sym (length-append a.ahead p.more) ∙ ap length p.seam ∙ length-append handed b.ahead in
    let all : length (taken ++ p.more) ≡ length taken + length p.more = length-append taken p.more in
    omega (arith, given, both, all, e)

-- a line was given out
line_read : {series : Series} → (a b : Held) (x y : Option (List ℕ)) (lines : ℕ) (known counts : Counts) (last : Said) (taken : List ℕ) (said : List Said) → AreInRange counts → AgreeUpTo lines known counts → lines < length (forms_of counts)
    → CanSay (form_in counts lines) last → (p : Hands a b x y (said_text (form_in counts lines) last)) → IsReadOf series (reading_of a lines known) taken said → IsReadOf series (reading_of b (lines + 1) counts) (taken ++ p.more) (said ++ last ∷ [])
line_read {series} a b x y lines known counts last taken said are agree within can p h = begins_whole b (lines + 1) counts (taken ++ p.more) (said ++ last ∷ [])
    (begins_more (taken ++ p.more) (a.ahead ++ p.more) b.ahead lines counts said last
    (begins_others (taken ++ p.more) (a.ahead ++ p.more) lines known counts said (begins_grown taken p.more a.ahead lines known said (whole_begins a lines known taken said h)) (agree_series series lines known counts h.begins.are_counts are agree) agree (omega arith)) within can p.seam)
    (total_of a b x y (said_text (form_in counts lines) last) taken p h.total)

-- the reading stopped
pub stop_end : {series : Series} → (a : Held) (x y : Option (List ℕ)) (lines : ℕ) (known : Counts) (in_tree : Bool) (end : TextEnd) → IsStopped a x y end → ReadsOnIn series (reading_at a lines known in_tree) x y (λ taken said. IsEndOf series end y taken)
stop_end {series} a x y lines known in_tree (NotText line) (more, took, at) = absurd at
stop_end {series} a x y lines known in_tree TooLong (more, took, at) = (more, took, λ taken said h. (let total = h.total in let all : length (taken ++ more) ≡ length taken + length more = length-append taken more in omega (arith, total, all, at)))
stop_end {series} a x y lines known in_tree ReadFault (more, took, at) = (more, took, λ taken said h. (let total = h.total in let all : length (taken ++ more) ≡ length taken + length more = length-append taken more in omega (arith, total, all, at)))

-- a line is broken
pub refused_end : {series : Series} → (a b : Held) (x y : Option (List ℕ)) (lines : ℕ) (known : Counts) (none : List ℕ → Type 0) (end : TextEnd) → taken_count b ≤ MOST_BYTES
    → ((text : List ℕ) → none text → HasNoLine lines known text × (lines ≡ length (forms_of known) → text ≡ [] → ⊥))
    → IsRefused a b x y (lines + 1) none end → ReadsOnIn series (reading_of a lines known) x y (λ taken said. IsEndOf series end y taken)
refused_end {series} a b x y lines known none (NotText line) few never (is, (text, p, ahead, at, no_line)) = (
  p.more,
  p.took,
  λ taken said h. (
    subst (IsBrokenTextOf series (taken ++ p.more)) (sym is)
        (broken_behind (taken ++ p.more) text lines known said
        (subst (Begins series (taken ++ p.more) lines known said) (p.seam ∙ ap (λ xs. text ++ xs) ahead ∙ append-nil text) (begins_grown taken p.more a.ahead lines known said (whole_begins a lines known taken said h)))
        (never text no_line).1 (never text no_line).0),
    (let total = total_of a b x y text taken p h.total in omega arith),
    at,
  ),
)
refused_end {series} a b x y lines known none TooLong few never stop = stop_end a x y lines known false TooLong stop
refused_end {series} a b x y lines known none ReadFault few never stop = stop_end a x y lines known false ReadFault stop

-- one line more, or a broken one
pub settled_line : {series : Series} → (a b : Held) (x y : Option (List ℕ)) (lines : ℕ) (known counts : Counts) (numbers : ArrayVec Frac 24 (Unit {0})) → IsNextLineOrRefusal a b x y lines known (Ok (counts, numbers))
    → ReadsOnIn series (reading_of a lines known) x y (λ taken said. IsLineRead series (reading_of a lines known) (reading_of b (lines + 1) counts) y taken said (Ok numbers))
settled_line {series} a b x y lines known counts numbers (are, agree, within, can, p) =
    (p.more, p.took, λ taken said h. (refl, agree, line_read a b x y lines known counts (Numbers (map fraction_of numbers.items)) taken said are agree within can p h))

-- where no line that may follow was settled, the answer is the end that was met
pub settled_end : {series : Series} → (a b : Held) (x y : Option (List ℕ)) (lines : ℕ) (known : Counts) (end : TextEnd) → taken_count b ≤ MOST_BYTES → lines < length (forms_of known) → IsNextLineOrRefusal a b x y lines known (Err end)
    → ReadsOnIn series (reading_of a lines known) x y (λ taken said. IsEndOf series end y taken)
settled_end {series} a b x y lines known end few within stop = refused_end a b x y lines known (HasNoLine lines known) end few (λ text no_line. (no_line, λ all none. omega arith)) stop

-- what goes on after what was read
pub goes_after : {series : Series} → (a b : Reading) (x y z : Option (List ℕ)) (next : List Said → List Said) (P : List ℕ → List Said → Type 0) → ReadsOnIn series a x y (λ taken said. IsReadOf series b taken (next said)) → ReadsOnIn series b y z P → ReadsOnIn series a x z (λ taken said. P taken (next said))
goes_after {series} a b x y z next P (more, took, read) (others, took_others, then) =
    (more ++ others, Consumes-trans x y z more others took took_others, λ taken said h. subst (λ bytes. P bytes (next said)) (append_assoc taken more others) (then (taken ++ more) (next said) (read taken said h)))

-- and what holds of it
pub goes_so : {series : Series} → (a : Reading) (x y : Option (List ℕ)) (P Q : List ℕ → List Said → Type 0) → ((taken : List ℕ) (said : List Said) → P taken said → Q taken said) → ReadsOnIn series a x y P → ReadsOnIn series a x y Q
goes_so {series} a x y P Q so (more, took, then) = (more, took, λ taken said h. so (taken ++ more) said (then taken said h))

-- a line that was read took bytes
pub line_given : (a b : Held) (x y : Option (List ℕ)) (lines : ℕ) (known counts : Counts) (numbers : ArrayVec Frac 24 (Unit {0})) → IsNextLineOrRefusal a b x y lines known (Ok (counts, numbers)) → a.given < b.given
line_given a b x y lines known counts numbers (are, agree, within, can, p) =
    let line = said_line (form_in counts lines) (Numbers (map fraction_of numbers.items)) can in
    let given = p.given in
    let long = ap length line.ended in
    omega (arith, given, long, length-append line.front (10 ∷ []))

-- a byte after the last line breaks the text
pub refused_behind_all : {series : Series} → (a b c : Held) (x y z : Option (List ℕ)) (lines : ℕ) (known : Counts) (byte : ℕ) (end : TextEnd) → taken_count c ≤ MOST_BYTES → lines ≡ length (forms_of known) → Hands a b x y (byte ∷ [])
    → IsRefused b c y z (lines + 1) (λ _. Unit {0}) end → ReadsOnIn series (reading_of a lines known) x z (λ taken said. IsEndOf series end z taken)
refused_behind_all {series} a b c x y z lines known byte (NotText line) few all p (is, (text, q, ahead, at, _)) =
    refused_end a c x z lines known (λ bytes. bytes ≡ byte ∷ text) (NotText line) few (λ bytes e. (none_behind lines known bytes all, λ _ none. cc (e, none)))
    (is, (byte ∷ text, hands_trans a b c x y z (byte ∷ []) text p q, ahead, at, refl))
refused_behind_all {series} a b c x y z lines known byte TooLong few all p stop = stop_end a x z lines known false TooLong (stops_after a b x y z (byte ∷ []) TooLong p stop)
refused_behind_all {series} a b c x y z lines known byte ReadFault few all p stop = stop_end a x z lines known false ReadFault (stops_after a b x y z (byte ∷ []) ReadFault p stop)

-- what lines show holds of a reading that is given by its fields and isn't within a tree
pub of_lines : {series : Series} → (r : Reading) (before after : TextLines) (x y : Option (List ℕ)) (in_tree : Bool) (P : Reading → Reading → List ℕ → List Said → Type 0) → as_reading before in_tree ≡ r → r.in_tree ≡ false
    → ReadsOnIn series (as_reading before false) x y (P (as_reading before false) (as_reading after false)) → ReadsOnIn series r x y (P r (as_reading after in_tree))
of_lines {series} r before after x y in_tree P e whole h =
    subst (λ t. ReadsOnIn series r x y (P r (as_reading after t))) (sym (ap (λ s. s.in_tree) e ∙ whole))
    (subst (λ s. ReadsOnIn series s x y (P s (as_reading after false))) (reading_is r before.bytes before.lines before.counts in_tree false e whole) h)
