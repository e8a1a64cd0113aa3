-- Lines of weights and prices that were read, one after another, and what holds of each of them.
use Rattle.std.proofs.Common.{◌≡◌, ℕ, List, [], ◌∷◌, ◌++◌, map, refl, sym, All, ◌∙◌, append-nil}
use Rattle.std.proofs.lemmas.List.Elements.{All-head, All-same, All-tail}
use Rattle.estate_texts.specs.Given.{CanGive, GivenLine, given_content}
use Rattle.estate_texts.specs.Lines.{lines_text}
use Rattle.estate_texts.specs.Steps.{BeginsWithGiven}

-- what holds of all lines holds of the later ones
pub all_behind : (P : GivenLine → Type 0) (xs ys zs : List GivenLine) → zs ≡ xs ++ ys → All P zs → All P ys
all_behind P [] ys zs e h = All-same P ys zs (sym e) h
all_behind P (x ∷ xs) ys zs e h = all_behind P xs ys (xs ++ ys) refl (All-tail P x (xs ++ ys) (All-same P (x ∷ xs ++ ys) zs (sym e) h))

-- what holds of all holds of the one read last
pub holds_of_last : (P : GivenLine → Type 0) (read more lines : List GivenLine) (line : GivenLine) → lines ≡ (read ++ line ∷ []) ++ more → All P lines → P line
holds_of_last P [] more lines line e h = All-head P line more (All-same P (line ∷ more) lines (sym e) h)
holds_of_last P (x ∷ read) more lines line e h = holds_of_last P read more ((read ++ line ∷ []) ++ more) line refl (All-tail P x ((read ++ line ∷ []) ++ more) (All-same P (x ∷ (read ++ line ∷ []) ++ more) lines (sym e) h))

-- if no line comes next, all were read
pub all_read : (n : ℕ) (bytes : List ℕ) (read more lines : List GivenLine) → lines ≡ read ++ more → All (CanGive n) lines → bytes ≡ lines_text (map given_content more)
    → ((g : GivenLine) (rest : List ℕ) → BeginsWithGiven n bytes g rest → ⊥) → lines ≡ read
all_read n bytes read [] lines is can text none = is ∙ append-nil read
all_read n bytes read (m ∷ more) lines is can text none =
    absurd (none m (lines_text (map given_content more)) (record { can = All-head (CanGive n) m more (all_behind (CanGive n) read (m ∷ more) lines is can); text = text }))
