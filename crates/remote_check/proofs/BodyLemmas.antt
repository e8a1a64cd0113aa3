-- What the judge is given of a body, as it is read.
use Rattle.std.proofs.Common.{◌≡◌, ◌≢◌, ℕ, ◌==◌, ◌∷◌, ◌+◌, ◌-◌, ◌<◌, ◌≤◌, nat_lt, true, false, List, [], ◌++◌, length, take, drop, replicate, Option, Some, None, refl, sym, ap, ◌∙◌, arith, append_assoc, length-append, subst, cond, take-append-drop, length-drop}
use Rattle.std.proofs.lemmas.Bool.Decides.{nat_tests}
use Rattle.std.proofs.lemmas.List.{length-replicate, length-take-le, replicate-append-replicate, take-append-le, take_all, take_at}
use Rattle.std.proofs.Math.Seq.{take-append-add}
use Rattle.std.specs.Io.KnownBytes.{Consumes, IsAtEnd, prepend_known}
use Rattle.remote_check.specs.declared.body.Due.{Due}
use Rattle.remote_check.specs.declared.body.Due.TheVariants.{Awaited, Filler}
use Rattle.remote_check.specs.declared.limits.TheConstants.{FILLER}
use Rattle.remote_check.specs.Bodies.{filler_of, given, given_by, given_of, under_name}

-- the name, the count, and what is beside the link, under what is told of them
abbrev name_in : Option (List ℕ) × ℕ × ℕ → ℕ
name_in (None, faults, tag) = 0
name_in (Some [], faults, tag) = 0
name_in (Some (name ∷ rest), faults, tag) = name

abbrev count_in : Option (List ℕ) × ℕ × ℕ → ℕ
count_in (None, faults, tag) = 0
count_in (Some [], faults, tag) = 0
count_in (Some (name ∷ []), faults, tag) = 0
count_in (Some (name ∷ (count ∷ rest)), faults, tag) = count

abbrev beside_in : Option (List ℕ) × ℕ × ℕ → Option (List ℕ) × ℕ × ℕ
beside_in (None, faults, tag) = (None, 0, 0)
beside_in (Some [], faults, tag) = (None, 0, 0)
beside_in (Some (name ∷ []), faults, tag) = (None, 0, 0)
beside_in (Some (name ∷ (count ∷ [])), faults, tag) = (None, 0, 0)
beside_in (Some (name ∷ (count ∷ (empty ∷ written))), faults, tag) = (cond (tag == 0) None (Some written), faults, empty)

name_is : (name count : ℕ) (beside : Option (List ℕ) × ℕ × ℕ) → name_in (under_name name count beside) ≡ name
name_is name count (None, faults, empty) = refl
name_is name count (Some x, faults, empty) = refl

count_is : (name count : ℕ) (beside : Option (List ℕ) × ℕ × ℕ) → count_in (under_name name count beside) ≡ count
count_is name count (None, faults, empty) = refl
count_is name count (Some x, faults, empty) = refl

beside_is : (name count : ℕ) (beside : Option (List ℕ) × ℕ × ℕ) → beside_in (under_name name count beside) ≡ beside
beside_is name count (None, faults, empty) = refl
beside_is name count (Some x, faults, empty) = refl

-- they are told apart
pub named_same : (name other count counts : ℕ) (beside those : Option (List ℕ) × ℕ × ℕ) → under_name name count beside ≡ under_name other counts those
    → (name ≡ other) × (count ≡ counts) × (beside ≡ those)
named_same name other count counts beside those e = (
  sym (name_is name count beside) ∙ ap name_in e ∙ name_is other counts those,
  sym (count_is name count beside) ∙ ap count_in e ∙ count_is other counts those,
  sym (beside_is name count beside) ∙ ap beside_in e ∙ beside_is other counts those,
)

-- the bytes that were read go
pub awaited_gone : (awaited filler n : ℕ) (front rest : List ℕ) → length front ≡ n → n ≤ awaited → given_of awaited filler (front ++ rest) ≡ front ++ given_of (awaited - n) filler rest
awaited_gone awaited filler n front rest size fits =
    let split : awaited ≡ length front + (awaited - n) = omega arith in
    let first : take awaited (front ++ rest) ≡ front ++ take (awaited - n) rest = ap (λ k. take k (front ++ rest)) split ∙ take-append-add front rest (awaited - n) in
    let same : nat_lt (length (front ++ rest)) awaited ≡ nat_lt (length rest) (awaited - n) = grind (arith, nat_tests, length-append front rest, size, fits) in
    ap (λ xs. xs ++ replicate (filler_of awaited filler (front ++ rest)) 0) first
    ∙ ap (λ short. (front ++ take (awaited - n) rest) ++ replicate (cond short FILLER filler) 0) same
    ∙ append_assoc front (take (awaited - n) rest) (replicate (filler_of (awaited - n) filler rest) 0)

pub given_gone : (awaited filler n : ℕ) (before now : Option (List ℕ)) (front : List ℕ) → Consumes before now front → length front ≡ n → n ≤ awaited
    → Consumes (given awaited filler before) (given (awaited - n) filler now) front
given_gone awaited filler n None now front took size fits = tt
given_gone awaited filler n (Some x) None front took size fits = absurd took
given_gone awaited filler n (Some x) (Some y) front took size fits = ap (given_of awaited filler) took ∙ awaited_gone awaited filler n front y size fits

-- nothing is awaited
pub only_filler : (filler : ℕ) (input : List ℕ) → given_of 0 filler input ≡ replicate filler 0
only_filler filler input =
    let never : nat_lt (length input) 0 ≡ false = grind (arith, nat_tests) in
    ap (λ short. replicate (cond short FILLER filler) 0) never

-- the input ends while bytes are awaited
ended_by : (past awaited filler : ℕ) → 0 < awaited → take {A = ℕ} awaited [] ++ replicate (cond (nat_lt 0 awaited) past filler) 0 ≡ replicate past 0
ended_by past awaited filler some =
    let test : nat_lt 0 awaited ≡ true = grind (arith, nat_tests) in
    let none : take {A = ℕ} awaited [] ≡ [] = take_all awaited [] (omega arith) in
    ap (λ xs. xs ++ replicate (cond (nat_lt 0 awaited) past filler) 0) none ∙ ap (λ v. replicate (cond v past filler) 0) test

ended : (awaited filler : ℕ) → 0 < awaited → given_of awaited filler [] ≡ given_of 0 FILLER []
ended awaited filler some = ended_by FILLER awaited filler some ∙ sym (only_filler FILLER [])

pub given_ended : (awaited filler : ℕ) (before now : Option (List ℕ)) (front : List ℕ) → Consumes before now front → front ≡ [] → IsAtEnd now → 0 < awaited
    → Consumes (given awaited filler before) (given 0 FILLER now) []
given_ended awaited filler None now front took none end some = tt
given_ended awaited filler (Some x) None front took none end some = absurd took
given_ended awaited filler (Some x) (Some y) front took none end some =
    let empty : x ≡ [] = took ∙ ap (λ z. z ++ y) none ∙ end in
    ap (given_of awaited filler) empty ∙ ended awaited filler some ∙ ap (given_of 0 FILLER) (sym end)

pub filler_gone : (filler n : ℕ) (input : Option (List ℕ)) (front : List ℕ) → n ≤ filler → front ≡ replicate n 0 → Consumes (given 0 filler input) (given 0 (filler - n) input) front
filler_gone filler n None front fits is = tt
filler_gone filler n (Some x) front fits is =
    let split : filler ≡ n + (filler - n) = omega arith in
    only_filler filler x ∙ ap (λ k. replicate k 0) split ∙ sym (replicate-append-replicate n (filler - n) 0)
    ∙ ap (λ z. z ++ replicate (filler - n) 0) (sym is) ∙ ap (λ z. front ++ z) (sym (only_filler (filler - n) x))

pub filler_ended : (filler : ℕ) (input : Option (List ℕ)) → filler ≡ 0 → IsAtEnd (given 0 filler input)
filler_ended filler None none = tt
filler_ended filler (Some x) none = only_filler filler x ∙ ap (λ k. replicate k 0) none

-- what was read ahead goes first
pub held_gone : (held rest front : List ℕ) (input : Option (List ℕ)) → held ≡ front ++ rest → Consumes (prepend_known held input) (prepend_known rest input) front
held_gone held rest front None is = tt
held_gone held rest front (Some x) is = ap (λ z. z ++ x) is ∙ append_assoc front rest x

-- a read of what was read ahead
pub held_read : (n : ℕ) (held front behind : List ℕ) (input : Option (List ℕ)) → n ≤ length held → front ≡ take n held → (n ≡ 0 → length (front ++ behind) ≡ 0)
    → (n ≤ length (front ++ behind)) × Consumes (prepend_known held input) (prepend_known (take (length held - n) (drop n held)) input) (take n (front ++ behind))
    × (n ≡ 0 → 0 < length (front ++ behind) → IsAtEnd (prepend_known (take (length held - n) (drop n held)) input))
held_read n held front behind input fits is none =
    let size : length front ≡ n = ap length is ∙ length-take-le n held fits in
    let whole : take (length held - n) (drop n held) ≡ drop n held = take_all _ _ (omega (arith, length-drop n held)) in
    let first : take n (front ++ behind) ≡ front = take_at front behind n size in
    let seam : held ≡ take n (front ++ behind) ++ take (length held - n) (drop n held) =
    sym (take-append-drop n held) ∙ ap (λ z. z ++ drop n held) (sym is ∙ sym first) ∙ ap (λ z. take n (front ++ behind) ++ z) (sym whole) in
    (omega (arith, size, length-append front behind), held_gone held _ _ input seam, λ none_read some. absurd (omega (arith, none none_read, some)))

-- a read of awaited bytes
pub awaited_read : (awaited filler n : ℕ) (got behind : List ℕ) (before now : Option (List ℕ)) → n ≤ length got → length got ≤ awaited → Consumes before now (take n got)
    → (n ≤ length (got ++ behind)) × Consumes (given awaited filler before) (given (awaited - n) filler now) (take n (got ++ behind))
awaited_read awaited filler n got behind before now few fits took =
    let same : take n (got ++ behind) ≡ take n got = take-append-le n got behind few in (
      omega (arith, few, length-append got behind),
      subst (Consumes (given awaited filler before) (given (awaited - n) filler now)) (sym same) (given_gone awaited filler n before now (take n got) took (length-take-le n got few) (omega (arith, few, fits))),
    )

-- the same by what is due
pub awaited_due : (due : Due) (count n : ℕ) (got behind : List ℕ) (before now : Option (List ℕ)) → due ≡ Awaited count → n ≢ 0 → n ≤ length got → length got ≤ count
    → Consumes before now (take n got)
    → (n ≤ length (got ++ behind)) × Consumes (given_by due before) (given (count - n) 0 now) (take n (got ++ behind))
    × (n ≡ 0 → 0 < length (got ++ behind) → IsAtEnd (given (count - n) 0 now))
awaited_due due count n got behind before now is some few fits took =
    let read = awaited_read count 0 n got behind before now few fits took in (
      read.0,
      subst (λ d. Consumes (given_by d before) (given (count - n) 0 now) (take n (got ++ behind))) (sym is) read.1,
      λ none room. absurd (some none),
    )

-- a read of the filler
pub filler_read : (awaited filler n : ℕ) (front behind : List ℕ) (input : Option (List ℕ)) → awaited ≡ 0 → n ≤ filler → front ≡ replicate n 0
    → Consumes (given awaited filler input) (given awaited (filler - n) input) (take n (front ++ behind))
filler_read awaited filler n front behind input none fits is =
    let first : take n (front ++ behind) ≡ front = take_at front behind n (ap length is ∙ length-replicate n 0) in
    let gone : Consumes (given 0 filler input) (given 0 (filler - n) input) (take n (front ++ behind)) = filler_gone filler n input _ fits (first ∙ is) in
    subst (λ k. Consumes (given k filler input) (given k (filler - n) input) (take n (front ++ behind))) (sym none) gone

-- the same by what is due
pub filler_due : (due : Due) (count n : ℕ) (front behind : List ℕ) (input : Option (List ℕ)) → due ≡ Filler count → n ≤ count → front ≡ replicate n 0
    → Consumes (given_by due input) (given 0 (count - n) input) (take n (front ++ behind))
filler_due due count n front behind input is fits zeros =
    subst (λ d. Consumes (given_by d input) (given 0 (count - n) input) (take n (front ++ behind))) (sym is) (filler_read 0 count n front behind input refl fits zeros)
