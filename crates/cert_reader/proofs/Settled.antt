-- The next line may follow, or no line that may follow is there.
use Rattle.std.proofs.Common.{◌≡◌, ℕ, ◌<◌, List, [], ◌∷◌, ◌++◌, length, arith, refl, sym, ap, ◌∙◌, subst, append_assoc}
use Rattle.std.specs.Prelude.{Option}
use Rattle.cert_reader.specs.declared.limits.TheConstants.{LONGEST_LINE}
use Rattle.cert_reader.specs.declared.ends.TextEnd.{TextEnd}
use Rattle.cert_reader.specs.declared.ends.TextEnd.TheVariants.{NotText, ReadFault, TooLong}
use Rattle.cert_reader.specs.declared.forms.Counts.{Counts}
use Rattle.cert_reader.specs.Forms.{AreInRange, Tree, forms_of}
use Rattle.cert_reader.specs.Order.{AgreeUpTo, HasNoLine, IsLineOf, form_in}
use Rattle.cert_reader.specs.Steps.{IsRefused}
use Rattle.cert_reader.specs.Stream.{Hands, Held, IsPlain}
use Rattle.cert_reader.specs.Text.{Said}
use Rattle.cert_reader.proofs.Cuts.{Avoids}
use Rattle.cert_reader.proofs.FormLines.{ends, said_line}
use Rattle.cert_reader.proofs.Handed.{hands_trans, stops_after}
use Rattle.cert_reader.proofs.Numbers.{cut_once}
use Rattle.cert_reader.proofs.TreePlaces.{agree_line}
use Rattle.cert_reader.proofs.UsualForms.{short_in}

-- a plain text has no LF
plain_avoids : (text : List ℕ) → IsPlain text → Avoids 10 text
plain_avoids text h = record { none = h.none }

-- the first line of the bytes is none that may follow
pub no_line_behind : (index : ℕ) (known : Counts) (text rest : List ℕ) → IsPlain text
    → ((counts : Counts) (said : Said) → AreInRange counts → AgreeUpTo index known counts → index < length (forms_of counts) → IsLineOf (form_in counts index) said text → ⊥)
    → HasNoLine index known (text ++ 10 ∷ rest)
no_line_behind index known text rest plain none counts said more are agree within can e =
    let form = form_in counts index in
    let s = said_line form said can in
    let both = cut_once 10 text (10 ∷ rest) s.front (10 ∷ more) (plain_avoids text plain) (ends rest) s.plain (ends more) (e ∙ ap (λ xs. xs ++ more) s.ended ∙ append_assoc s.front (10 ∷ []) more) in
    none counts said are agree within (can, ap (λ xs. xs ++ 10 ∷ []) both.0 ∙ sym s.ended)

-- a line that is too long is none of numbers
pub no_line_long : (index : ℕ) (known : Counts) (text rest : List ℕ) → LONGEST_LINE < length text → IsPlain text → (form_in known index ≡ Tree → ⊥) → HasNoLine index known (text ++ 10 ∷ rest)
no_line_long index known text rest long plain line =
    no_line_behind index known text rest plain (λ counts said are agree within is. let short = short_in counts index said text are within (agree_line index known counts agree line) is in omega arith)

-- nor is what has no LF
pub no_line_unended : (index : ℕ) (known : Counts) (text : List ℕ) → IsPlain text → HasNoLine index known text
no_line_unended index known text plain counts said more are agree within can e =
    let form = form_in counts index in
    let s = said_line form said can in
    let both = cut_once 10 text [] s.front (10 ∷ more) (plain_avoids text plain) (record { first = λ h. absurd (omega arith) }) s.plain (ends more)
    (unended text ∙ e ∙ ap (λ xs. xs ++ more) s.ended ∙ append_assoc s.front (10 ∷ []) more) in
    absurd (cc (both.1))
  where
    unended : (text : List ℕ) → text ++ [] ≡ text
    unended [] = refl
    unended (x ∷ xs) = ap (λ ys. x ∷ ys) (unended xs)

-- bytes that were given out, and a refusal of those after them
pub refused_after : (a b c : Held) (x y z : Option (List ℕ)) (line : ℕ) (text : List ℕ) (before none : List ℕ → Type 0) (end : TextEnd) → Hands a b x y text
    → ((rest : List ℕ) → before rest → none (text ++ rest)) → IsRefused b c y z line before end → IsRefused a c x z line none end
refused_after a b c x y z line text before none (NotText broken) p never (is, (rest, q, ahead, at, so)) =
    (is, (text ++ rest, hands_trans a b c x y z text rest p q, ahead, at, never rest so))
refused_after a b c x y z line text before none TooLong p never stop = stops_after a b x y z text TooLong p stop
refused_after a b c x y z line text before none ReadFault p never stop = stops_after a b x y z text ReadFault p stop

-- a broken line, and what was read after it
pub refused_behind : (a b c : Held) (x y z : Option (List ℕ)) (line : ℕ) (text : List ℕ) (none : List ℕ → Type 0) (end : TextEnd) → Hands a b x y (text ++ 10 ∷ [])
    → ((rest : List ℕ) → none (text ++ 10 ∷ rest)) → IsRefused b c y z line (λ _. Unit {0}) end → IsRefused a c x z line none end
refused_behind a b c x y z line text none end p never =
    refused_after a b c x y z line (text ++ 10 ∷ []) (λ _. Unit {0}) none end p (λ rest _. subst none (sym (append_assoc text (10 ∷ []) rest)) (never rest))
