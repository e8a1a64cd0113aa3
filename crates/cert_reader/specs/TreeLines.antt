-- The text of a certificate of goods, as it is read: the line of its tree, character by character.
use Rattle.std.specs.Prelude.{◌≡◌, ◌≢◌, ℕ, ◌≤◌, List, [], ◌∷◌, ◌++◌, length, All, Option, Some, None, Result, Ok, Err}
use Rattle.cert_reader.specs.declared.ends.TextEnd.{TextEnd}
use Rattle.cert_reader.specs.declared.forms.Word.TheVariants as word
use Rattle.cert_reader.specs.Steps.{IsRefused}
use Rattle.cert_reader.specs.Stream.{Hands, Held}
use Rattle.cert_reader.specs.Text.{IsMark}
use Rattle.cert_reader.specs.Words.{word_text}

-- what comes before the marks of a tree
abbrev pub tree_front : List ℕ
tree_front = word_text word.Tree ++ 32 ∷ []

-- the bytes do not begin with the line of a tree
abbrev pub HasNoTree : List ℕ → Type 0
HasNoTree bytes = (marks more : List ℕ) → 1 ≤ length marks → All IsMark marks → bytes ≡ tree_front ++ (marks ++ 10 ∷ more) → ⊥

-- after marks, the line of a tree does not go on with these bytes: they begin neither with a mark nor with an LF
abbrev pub GoesNotOn : List ℕ → Type 0
GoesNotOn [] = Unit {0}
GoesNotOn (byte ∷ bytes) = (IsMark byte → ⊥) × (byte ≢ 10)

-- the word of a tree and its first mark were given out; or no line of a tree was there
abbrev pub IsFirstMark : Held → Held → Option (List ℕ) → Option (List ℕ) → ℕ → Result ℕ TextEnd → Type 0
IsFirstMark before after left left_after line (Ok mark) = IsMark mark × Hands before after left left_after (tree_front ++ mark ∷ [])
IsFirstMark before after left left_after line (Err end) = IsRefused before after left left_after line HasNoTree end

-- one more mark was given out, or the LF after the last mark; or the line does not go on like a tree
abbrev pub IsNextMark : Held → Held → Option (List ℕ) → Option (List ℕ) → ℕ → Result (Option ℕ) TextEnd → Type 0
IsNextMark before after left left_after line (Ok (Some mark)) = IsMark mark × Hands before after left left_after (mark ∷ [])
IsNextMark before after left left_after line (Ok None) = Hands before after left left_after (10 ∷ [])
IsNextMark before after left left_after line (Err end) = IsRefused before after left left_after line GoesNotOn end
