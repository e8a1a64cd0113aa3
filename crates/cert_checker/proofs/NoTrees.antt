-- Texts of rents and of fares have no tree.
use Rattle.std.proofs.Common.{ℕ, zero, suc, ◌+◌, List, [], ◌∷◌, ◌++◌, map, replicate}
use Rattle.cert_reader.specs.declared.forms.LineForm.{LineForm}
use Rattle.cert_reader.specs.Forms.{Form, Line, Tree, fares_forms, numbers_of, rent_forms, set_form}
use Rattle.cert_reader.specs.Order.{fares_tail, rent_tail, rider_forms}
use Rattle.cert_reader.specs.declared.forms.Word.TheVariants as word
use Rattle.cert_reader.specs.Sets.{sets_of}
use Rattle.cert_reader.specs.Text.{CanSayAll, Marks, Numbers, Said}
use Rattle.cert_reader.specs.Reading.{with_mark}
use Rattle.cert_checker.proofs.TreeParts.{AreLines}

-- forms of lines of numbers
abbrev pub HaveNoTree : List Form → Type 0
HaveNoTree [] = Unit {0}
HaveNoTree (Line form ∷ forms) = HaveNoTree forms
HaveNoTree (Tree ∷ forms) = ⊥

-- such forms, and others after them
no_tree_append : (forms others : List Form) → HaveNoTree forms → HaveNoTree others → HaveNoTree (forms ++ others)
no_tree_append [] others h k = k
no_tree_append (Line form ∷ forms) others h k = no_tree_append forms others h k
no_tree_append (Tree ∷ forms) others h k = absurd h

-- the same form again and again
no_tree_many : (n : ℕ) (form : LineForm) → HaveNoTree (replicate n (Line form))
no_tree_many zero form = tt
no_tree_many (suc n) form = no_tree_many n form

-- the lines of sets
no_tree_sets : (n : ℕ) (sets : List ℕ) → HaveNoTree (map (set_form n) sets)
no_tree_sets n [] = tt
no_tree_sets n (set ∷ sets) = no_tree_sets n sets

-- a rent
pub no_tree_rent : (n : ℕ) → HaveNoTree (rent_forms n)
unfolding rent_forms
no_tree_rent n = no_tree_append (replicate n (numbers_of word.Values n)) (rent_tail n) (no_tree_many n _) tt

-- fares
pub no_tree_fares : (n places : ℕ) → HaveNoTree (fares_forms n places)
unfolding fares_forms
no_tree_fares n places =
    no_tree_append (replicate (places + 1) (numbers_of word.Legs places)) (rider_forms n ++ (map (set_form n) (sets_of n) ++ fares_tail n)) (no_tree_many (places + 1) _)
    (no_tree_append (map (set_form n) (sets_of n)) (fares_tail n) (no_tree_sets n (sets_of n)) tt)

-- so they say lines of numbers
can_lines : (forms : List Form) (said : List Said) → HaveNoTree forms → CanSayAll forms said → AreLines said
can_lines [] [] h k = tt
can_lines [] (line ∷ said) h k = absurd k
can_lines (form ∷ forms) [] h k = absurd k
can_lines (Tree ∷ forms) (line ∷ said) h k = absurd h
can_lines (Line form ∷ forms) (Numbers numbers ∷ said) h k = can_lines forms said h k.1
can_lines (Line form ∷ forms) (Marks marks ∷ said) h k = absurd k.0

-- and lines with a mark are others
marks_apart : (said : List Said) (mark : ℕ) (rest : List Said) → AreLines (with_mark said mark ++ rest) → ⊥
marks_apart [] mark rest h = h
marks_apart (Marks marks ∷ []) mark rest h = h
marks_apart (Marks marks ∷ line ∷ lines) mark rest h = h
marks_apart (Numbers numbers ∷ lines) mark rest h = marks_apart lines mark rest h

-- no text of such forms has a mark
pub no_mark_said : (forms : List Form) (said : List Said) (mark : ℕ) (rest : List Said) → HaveNoTree forms → CanSayAll forms (with_mark said mark ++ rest) → ⊥
no_mark_said forms said mark rest h k = marks_apart said mark rest (can_lines forms (with_mark said mark ++ rest) h k)
