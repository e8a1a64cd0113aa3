-- The lines of numbers that the text of an estate has behind its counts, and how many numbers each of them has.
use Rattle.std.proofs.Common.{◌≡◌, ℕ, ℤ, zero, suc, ◌+◌, ◌<◌, ◌≤◌, List, [], ◌∷◌, ◌++◌, length, replicate, get_or, arith, refl, ap, ◌∙◌, subst, length-append}
use Rattle.std.proofs.lemmas.List.{get_or-append-add, length-replicate}
use Rattle.cert_reader.specs.declared.forms.Word.TheVariants as word
use Rattle.estate_texts.specs.declared.forms.NumberForm.{NumberForm}
use Rattle.estate_texts.specs.Forms.{AreHeld, CanHold, body_forms, numbers_between}

-- the forms of the lines behind the points
abbrev late_forms : ℕ → ℕ → List NumberForm
late_forms n g = numbers_between word.Owners g g ∷ numbers_between word.Steps 1 1 ∷ numbers_between word.Short 0 n ∷ []

-- how many lines there are
body_long : (n g : ℕ) → length (body_forms n g) ≡ n + 5
body_long n g =
    let rows : length (replicate n (numbers_between word.Values g g)) ≡ n = length-replicate n (numbers_between word.Values g g) in
    let sum : length (replicate n (numbers_between word.Values g g) ++ late_forms n g) ≡ length (replicate n (numbers_between word.Values g g)) + 3 =
    length-append (replicate n (numbers_between word.Values g g)) (late_forms n g) in
    omega (arith, rows, sum)

-- there is a line for each form, and it can hold its numbers
held_long : (forms : List NumberForm) (rows : List (List ℤ)) → AreHeld forms rows → length rows ≡ length forms
held_long [] [] h = refl
held_long [] (r ∷ rows) h = absurd h
held_long (f ∷ forms) [] h = absurd h
held_long (f ∷ forms) (r ∷ rows) h = ap suc (held_long forms rows h.1)

held_at : (forms : List NumberForm) (rows : List (List ℤ)) (i : ℕ) (d : NumberForm) → AreHeld forms rows → i < length forms → CanHold (get_or forms i d) (get_or rows i [])
held_at [] rows i d h low = absurd (omega arith)
held_at (f ∷ forms) [] i d h low = absurd h
held_at (f ∷ forms) (r ∷ rows) zero d h low = h.0
held_at (f ∷ forms) (r ∷ rows) (suc i) d h low = held_at forms rows i d h.1 (omega arith)

pub rows_long : (n g : ℕ) (rows : List (List ℤ)) → AreHeld (body_forms n g) rows → length rows ≡ n + 5
rows_long n g rows h = held_long (body_forms n g) rows h ∙ body_long n g

-- the line of the limit has one number
pub limit_one : (n g : ℕ) (rows : List (List ℤ)) → AreHeld (body_forms n g) rows → length (get_or rows 0 []) ≡ 1
limit_one n g rows h =
    let can = held_at (body_forms n g) rows 0 (numbers_between word.Limit 1 1) h (omega (arith, body_long n g)) in
    let enough = can.enough in
    let few = can.few in
    omega arith

-- there is a member for each player
pub who_few : (n g : ℕ) (rows : List (List ℤ)) → AreHeld (body_forms n g) rows → length (get_or rows 1 []) ≤ n
who_few n g rows h = (held_at (body_forms n g) rows 1 (numbers_between word.Limit 1 1) h (omega (arith, body_long n g))).few

-- the lines behind the points
late_at : (n g i at : ℕ) (rows : List (List ℤ)) (d : NumberForm) → AreHeld (body_forms n g) rows → i < 3 → at ≡ suc (suc (n + i)) → CanHold (get_or (late_forms n g) i d) (get_or rows at [])
late_at n g i at rows d h low is =
    let v = numbers_between word.Values g g in
    let many : length (replicate n v) ≡ n = length-replicate n v in
    let here : get_or (body_forms n g) (suc (suc (n + i))) d ≡ get_or (late_forms n g) i d =
    subst (λ k. get_or (replicate n v ++ late_forms n g) (k + i) d ≡ get_or (late_forms n g) i d) many (get_or-append-add (replicate n v) (late_forms n g) i d) in
    rw is (subst (λ f. CanHold f (get_or rows (suc (suc (n + i))) [])) here (held_at (body_forms n g) rows (suc (suc (n + i))) d h (omega (arith, body_long n g))))

-- there is an owner for each good
pub owners_all : (n g at : ℕ) (rows : List (List ℤ)) → AreHeld (body_forms n g) rows → at ≡ n + 2 → length (get_or rows at []) ≡ g
owners_all n g at rows h is =
    let can = late_at n g 0 at rows (numbers_between word.Limit 1 1) h (omega arith) (omega arith) in
    let enough = can.enough in
    let few = can.few in
    omega arith

-- no more players are short of goods than there are
pub short_few : (n g at : ℕ) (rows : List (List ℤ)) → AreHeld (body_forms n g) rows → at ≡ n + 4 → length (get_or rows at []) ≤ n
short_few n g at rows h is = (late_at n g 2 at rows (numbers_between word.Limit 1 1) h (omega arith) (omega arith)).few
