-- A field that is read is the field that was written, and what was written is read again.
use Rattle.std.proofs.Common.{◌≡◌, ℕ, zero, suc, ◌+◌, ◌^◌, ◌<◌, ◌≤◌, Bool, true, false, cond, ltb, List, [], ◌∷◌, ◌++◌, length, get_or, take, drop, Option, Some, None, refl, sym, ap, subst, ◌∙◌, append_assoc, arith, inl, inr, ◌⊎◌}
use Rattle.std.specs.Prelude.{All, flat_map}
use Rattle.std.specs.Int.{Width, w32, w64, byte_len, from_le_bytes, to_le_bytes}
use Rattle.std.specs.Str.{IsUtf8, is_utf8}
use Rattle.std.proofs.lemmas.Bool.{cases_lt, false_from_ne_true, ltb-false, le-ltb}
use Rattle.std.proofs.lemmas.List.{take_at, drop_at, take-append-drop, length-append, length-take, get_or-drop, get_or-take, get_or_past}
use Rattle.std.proofs.lemmas.List.Concat.{flat_map-cons}
use Rattle.std.proofs.lemmas.List.Elements.{All-nil, All-cons, All-head, All-tail}
use Rattle.std.proofs.lemmas.Nat.{le_bytes_4, le_bytes_8, from_le_bytes-to_le_bytes_4, from_le_bytes-to_le_bytes_8}
use Rattle.std.proofs.lemmas.Str.{IsUtf8-from_is_utf8, is_utf8-from_IsUtf8}
use Rattle.bid_rules.specs.declared.limits.TheConstants.{LONGEST_NAME}
use Rattle.host_journal.specs.Spelling.{text_bytes, texts_bytes}
use Rattle.host_journal.specs.Reading.{◌>>=◌, byte_at, number_at, text_at, many_at, names_at}

-- each of these is a byte
abbrev pub IsBytes : List ℕ → Type 0
IsBytes bytes = (i : ℕ) → get_or bytes i 0 < 256

-- bytes without the first ones are bytes
IsBytes-drop : (n : ℕ) (bytes : List ℕ) → IsBytes bytes → IsBytes (drop n bytes)
IsBytes-drop n bytes h i = rw get_or-drop (h (n + i))

-- the first ones are bytes
IsBytes-take : (n : ℕ) (bytes : List ℕ) → IsBytes bytes → IsBytes (take n bytes)
IsBytes-take n bytes h i =
    elim (cases_lt i n) [
      | inl lt ↦ rw (get_or-take n bytes i 0 lt) (h i)
      | inr le ↦ rw (get_or_past (take n bytes) i 0 (omega (arith, length-take n bytes))) (omega arith)
    ]

-- and so are those after the first
IsBytes-rest : (b : ℕ) (bytes : List ℕ) → IsBytes (b ∷ bytes) → IsBytes bytes
IsBytes-rest b bytes h i = h (suc i)

-- the value of a step that did not fail
pub bind_some : {A B : Type 0} (r : Option A) (f : A → Option B) (y : B) → (r >>= f) ≡ Some y → (x : A) × (r ≡ Some x) × (f x ≡ Some y)
bind_some (Some x) f y e = (x, refl, e)
bind_some None f y e = absurd cc

-- a test that did not fail
pub guard_some : {A : Type 0} (b : Bool) (o : Option A) (y : A) → cond b None o ≡ Some y → (b ≡ false) × (o ≡ Some y)
guard_some true o y e = absurd cc
guard_some false o y e = (refl, e)

-- an option that is there under a test has passed it
pub held_some : {A : Type 0} (b : Bool) (o : Option A) (y : A) → cond b o None ≡ Some y → (b ≡ true) × (o ≡ Some y)
held_some true o y e = (refl, e)
held_some false o y e = absurd cc

-- an option chosen by a test is one of the two
pub chosen : {A : Type 0} (b : Bool) (o p : Option A) (y : A) → cond b o p ≡ Some y → ((b ≡ true) × (o ≡ Some y)) ⊎ ((b ≡ false) × (p ≡ Some y))
chosen true o p y e = inl (refl, e)
chosen false o p y e = inr (refl, e)

-- a value that was read
abbrev done : {A : Type 0} → A → Option A
done x = Some x

-- two values that were read are one
pub some_is : {A : Type 0} (x y : A) → done x ≡ done y → x ≡ y
some_is x y e = cc

-- what a reader took from the front
pub record Takes (bytes text rest : List ℕ) : Type 0 where
  pub parts : bytes ≡ text ++ rest
  pub rest_fits : IsBytes rest

-- one field, and then another
pub Takes-then : (a x b y c : List ℕ) → Takes a x b → Takes b y c → Takes a (x ++ y) c
Takes-then a x b y c p q = record { parts = p.parts ∙ ap (λ (t : List ℕ). x ++ t) q.parts ∙ sym (append_assoc x y c); rest_fits = q.rest_fits }

-- a byte, and then a field
pub Takes-cons : (k : ℕ) (a x b : List ℕ) → Takes a x b → Takes (k ∷ a) (k ∷ x) b
Takes-cons k a x b p = record { parts = ap (λ (t : List ℕ). k ∷ t) p.parts; rest_fits = p.rest_fits }

-- reading and spelling go together
pub record Reads {A : Type 0} (read : List ℕ → Option (A × List ℕ)) (spell : A → List ℕ) (Fits : A → Type 0) : Type 0 where
  pub takes : (bytes : List ℕ) (x : A × List ℕ) → IsBytes bytes → read bytes ≡ Some x → Takes bytes (spell x.0) x.1 × Fits x.0
  pub again : (x : A) (rest : List ℕ) → Fits x → read (spell x ++ rest) ≡ Some (x, rest)

-- a field that was read, and what is read after it
pub record Step {A B : Type 0} (spell : A → List ℕ) (Fits : A → Type 0) (bytes : List ℕ) (f : A × List ℕ → Option B) (y : B) : Type 0 where
  pub x : A
  pub rest : List ℕ
  pub takes : Takes bytes (spell x) rest
  pub fits : Fits x
  pub more : f (x, rest) ≡ Some y

-- reading goes on with what one field has left
pub step : {A B : Type 0} (read : List ℕ → Option (A × List ℕ)) (spell : A → List ℕ) (Fits : A → Type 0) → Reads read spell Fits → (bytes : List ℕ) (f : A × List ℕ → Option B) (y : B)
    → IsBytes bytes → (read bytes >>= f) ≡ Some y → Step spell Fits bytes f y
step read spell Fits reads bytes f y fits e =
    let a = bind_some (read bytes) f y e in
    let t = reads.takes bytes a.0 fits a.1 in
    record { x = a.0.0; rest = a.0.1; takes = t.0; fits = t.1; more = a.2 }

-- ---- one byte

-- the spelling of a byte
abbrev pub one_byte : ℕ → List ℕ
one_byte b = b ∷ []

-- what a byte may be
abbrev pub IsByte : ℕ → Type 0
IsByte b = b < 256

-- a byte that is read was there
byte_takes : (bytes : List ℕ) (x : ℕ × List ℕ) → IsBytes bytes → byte_at bytes ≡ Some x → Takes bytes (one_byte x.0) x.1 × IsByte x.0
byte_takes [] x fits e = absurd cc
byte_takes (b ∷ bytes) x fits e =
    subst (λ (y : ℕ × List ℕ). Takes (b ∷ bytes) (one_byte y.0) y.1 × IsByte y.0) (some_is (b, bytes) x e) (record { parts = refl; rest_fits = IsBytes-rest b bytes fits }, fits 0)

-- bytes are read as they are spelled
pub byte_reads : Reads byte_at one_byte IsByte
byte_reads = record { takes = byte_takes; again = λ b rest fits. refl }

-- ---- numbers

-- numbers below the limit are spelled in as many bytes as the width has, and read back
record IsWide (w : Width) (limit : ℕ) : Type 0 where
  pub len : (n : ℕ) → length (to_le_bytes w n) ≡ byte_len w
  pub back : (bytes : List ℕ) → length bytes ≡ byte_len w → IsBytes bytes → to_le_bytes w (from_le_bytes w bytes) ≡ bytes
  pub forth : (n : ℕ) → n < limit → from_le_bytes w (to_le_bytes w n) ≡ n
  pub below : (bytes : List ℕ) → IsBytes bytes → from_le_bytes w bytes < limit

-- 32 bits hold the numbers below 2^32
wide32 : IsWide w32 (2 ^ 32)
wide32 = record {
  len = λ n. refl;
  back = λ bytes len fits. le_bytes_4 bytes _ len fits refl;
  forth = λ n lt. from_le_bytes-to_le_bytes_4 n lt;
  below = λ bytes fits. omega (arith, fits 0, fits 1, fits 2, fits 3);
}

-- 64 bits hold the numbers below 2^64
wide64 : IsWide w64 (2 ^ 64)
wide64 = record {
  len = λ n. refl;
  back = λ bytes len fits. le_bytes_8 bytes _ len fits refl;
  forth = λ n lt. from_le_bytes-to_le_bytes_8 n lt;
  below = λ bytes fits. omega (arith, fits 0, fits 1, fits 2, fits 3, fits 4, fits 5, fits 6, fits 7);
}

-- a number that is read was spelled there
number_takes : (w : Width) (limit : ℕ) (wide : IsWide w limit) (bytes : List ℕ) (x : ℕ × List ℕ) → IsBytes bytes → number_at w bytes ≡ Some x → Takes bytes (to_le_bytes w x.0) x.1 × (x.0 < limit)
number_takes w limit wide bytes x fits e =
    let g = guard_some (ltb (length bytes) (byte_len w)) (Some (from_le_bytes w (take (byte_len w) bytes), drop (byte_len w) bytes)) x e in
    let long : byte_len w ≤ length bytes = ltb-false _ _ g.0 in
    let front : to_le_bytes w (from_le_bytes w (take (byte_len w) bytes)) ≡ take (byte_len w) bytes = wide.back (take (byte_len w) bytes) (omega (arith, length-take (byte_len w) bytes)) (IsBytes-take (byte_len w) bytes fits) in
    subst (λ (y : ℕ × List ℕ). Takes bytes (to_le_bytes w y.0) y.1 × (y.0 < limit)) (some_is (from_le_bytes w (take (byte_len w) bytes), drop (byte_len w) bytes) x g.1)
    (record { parts = rw front (sym (take-append-drop (byte_len w) bytes)); rest_fits = IsBytes-drop (byte_len w) bytes fits }, wide.below (take (byte_len w) bytes) (IsBytes-take (byte_len w) bytes fits))

-- a number that was spelled is read again
number_again : (w : Width) (limit : ℕ) (wide : IsWide w limit) (n : ℕ) (rest : List ℕ) → n < limit → number_at w (to_le_bytes w n ++ rest) ≡ Some (n, rest)
number_again w limit wide n rest lt =
    let len = wide.len n in
    let long : ltb (length (to_le_bytes w n ++ rest)) (byte_len w) ≡ false = le-ltb _ _ (omega (arith, length-append (to_le_bytes w n) rest)) in
    rw (long, take_at (to_le_bytes w n) rest (byte_len w) len, drop_at (to_le_bytes w n) rest (byte_len w) len, wide.forth n lt) refl

-- the spelling of a number of 32 bits
abbrev pub bytes32 : ℕ → List ℕ
bytes32 n = to_le_bytes w32 n

-- the spelling of a number of 64 bits
abbrev pub bytes64 : ℕ → List ℕ
bytes64 n = to_le_bytes w64 n

-- what 32 bits hold
abbrev pub Is32 : ℕ → Type 0
Is32 n = n < 2 ^ 32

-- what 64 bits hold
abbrev pub Is64 : ℕ → Type 0
Is64 n = n < 2 ^ 64

-- numbers of 32 bits are read as they are spelled
pub reads32 : Reads (number_at w32) bytes32 Is32
reads32 = record { takes = number_takes w32 (2 ^ 32) wide32; again = number_again w32 (2 ^ 32) wide32 }

-- numbers of 64 bits are read as they are spelled
pub reads64 : Reads (number_at w64) bytes64 Is64
reads64 = record { takes = number_takes w64 (2 ^ 64) wide64; again = number_again w64 (2 ^ 64) wide64 }

-- ---- texts

-- a text of at most so many bytes, in UTF-8
abbrev pub IsText : ℕ → List ℕ → Type 0
IsText most text = (length text ≤ most) × IsUtf8 text

-- a text that is read was spelled there
text_takes : (most : ℕ) (bytes : List ℕ) (x : List ℕ × List ℕ) → IsBytes bytes → text_at most bytes ≡ Some x → Takes bytes (text_bytes x.0) x.1 × IsText most x.0
unfolding text_at
text_takes most bytes x fits e =
    let a = step byte_at one_byte IsByte byte_reads bytes _ x fits e in
    let n = a.x in
    let g = guard_some (ltb (length a.rest) n) _ x a.more in
    let u = held_some (is_utf8 (take n a.rest)) _ x g.1 in
    let m = guard_some (ltb most n) _ x u.1 in
    let long : n ≤ length a.rest = ltb-false _ _ g.0 in
    let few : n ≤ most = ltb-false _ _ m.0 in
    let len : length (take n a.rest) ≡ n = omega (arith, length-take n a.rest) in
    let front : Takes a.rest (take n a.rest) (drop n a.rest) = record { parts = sym (take-append-drop n a.rest); rest_fits = IsBytes-drop n a.rest a.takes.rest_fits } in
    let both : Takes bytes (n ∷ take n a.rest) (drop n a.rest) = Takes-then bytes (one_byte n) a.rest (take n a.rest) (drop n a.rest) a.takes front in
    let whole : Takes bytes (text_bytes (take n a.rest)) (drop n a.rest) = subst (λ (k : ℕ). Takes bytes (k ∷ take n a.rest) (drop n a.rest)) (sym len) both in
    subst (λ (y : List ℕ × List ℕ). Takes bytes (text_bytes y.0) y.1 × IsText most y.0) (some_is (take n a.rest, drop n a.rest) x m.1) (whole, (omega (arith, len, few), IsUtf8-from_is_utf8 _ u.0))

-- a text that was spelled is read again
text_again : (most : ℕ) (text rest : List ℕ) → IsText most text → text_at most (text_bytes text ++ rest) ≡ Some (text, rest)
unfolding text_at
text_again most text rest fits =
    let long : ltb (length (text ++ rest)) (length text) ≡ false = le-ltb _ _ (omega (arith, length-append text rest)) in
    let few : ltb most (length text) ≡ false = le-ltb _ _ fits.0 in
    rw (long, take_at text rest (length text) refl, drop_at text rest (length text) refl, is_utf8-from_IsUtf8 text fits.1, few) refl

-- texts are read as they are spelled
pub text_reads : (most : ℕ) → Reads (text_at most) text_bytes (IsText most)
text_reads most = record { takes = text_takes most; again = text_again most }

-- what a reader finds of a text
pub text_done : (most n : ℕ) (bytes rest : List ℕ) → Some (n, rest) ≡ byte_at bytes → n ≤ length rest → IsUtf8 (take n rest) → n ≤ most → text_at most bytes ≡ Some (take n rest, drop n rest)
unfolding text_at
text_done most n bytes rest one long utf8 few = rw (← one, le-ltb _ _ long, is_utf8-from_IsUtf8 _ utf8, le-ltb _ _ few) refl

-- bytes that are no UTF-8 are no text
pub text_broken : (most n : ℕ) (bytes rest : List ℕ) → Some (n, rest) ≡ byte_at bytes → n ≤ length rest → (IsUtf8 (take n rest) → ⊥) → text_at most bytes ≡ None
unfolding text_at
text_broken most n bytes rest one long broken = rw (← one, le-ltb _ _ long, false_from_ne_true (is_utf8 (take n rest)) (λ yes. broken (IsUtf8-from_is_utf8 _ yes))) refl

-- ---- lists

-- so many values that fit
abbrev pub AreMany : {A : Type 0} → (A → Type 0) → ℕ → List A → Type 0
AreMany Fits n xs = (length xs ≡ n) × All Fits xs

module _ {A : Type 0} (read : List ℕ → Option (A × List ℕ)) (spell : A → List ℕ) (Fits : A → Type 0) (reads : Reads read spell Fits) where
  -- values that were read one after another take their spellings, are so many, and fit
  pub many_take : (n : ℕ) (bytes : List ℕ) (x : List A × List ℕ) → IsBytes bytes → many_at read n bytes ≡ Some x → Takes bytes (flat_map spell x.0) x.1 × AreMany Fits n x.0
  unfolding many_at
  many_take zero bytes x fits e =
      subst (λ (y : List A × List ℕ). Takes bytes (flat_map spell y.0) y.1 × AreMany Fits 0 y.0) (some_is ([], bytes) x e) (record { parts = refl; rest_fits = fits }, (refl, All-nil Fits))
  many_take (suc n) bytes x fits e =
      let a = step read spell Fits reads bytes _ x fits e in
      let b = bind_some (many_at read n a.rest) _ x a.more in
      let second = many_take n a.rest b.0 a.takes.rest_fits b.1 in
      let both = Takes-then bytes (spell a.x) a.rest (flat_map spell b.0.0) b.0.1 a.takes second.0 in
      let made : List A × List ℕ = (a.x ∷ b.0.0, b.0.1) in
      subst (λ (y : List A × List ℕ). Takes bytes (flat_map spell y.0) y.1 × AreMany Fits (suc n) y.0) (some_is made x b.2) (rw flat_map-cons both, (ap suc second.1.0, All-cons Fits a.x b.0.0 a.fits second.1.1))

  -- the spellings of values that fit are read back as those values
  pub many_again : (xs : List A) (rest : List ℕ) → All Fits xs → many_at read (length xs) (flat_map spell xs ++ rest) ≡ Some (xs, rest)
  unfolding many_at
  many_again [] rest fits = refl
  many_again (x ∷ xs) rest fits =
      let regrouped : flat_map spell (x ∷ xs) ++ rest ≡ spell x ++ (flat_map spell xs ++ rest) = ap (λ (t : List ℕ). t ++ rest) (flat_map-cons spell x xs) ∙ append_assoc (spell x) (flat_map spell xs) rest in
      ap (many_at read (suc (length xs))) regrouped ∙ rw (reads.again x (flat_map spell xs ++ rest) (All-head Fits x xs fits), many_again xs rest (All-tail Fits x xs fits)) refl

-- ---- lists of names

-- a list of texts that fits its room
abbrev pub AreTexts : ℕ → List (List ℕ) → Type 0
AreTexts room names = (length names ≤ room) × All (IsText LONGEST_NAME) names

-- a list of texts that is read was spelled there
names_take : (room : ℕ) (bytes : List ℕ) (x : List (List ℕ) × List ℕ) → IsBytes bytes → names_at room bytes ≡ Some x → Takes bytes (texts_bytes x.0) x.1 × AreTexts room x.0
unfolding names_at
names_take room bytes x fits e =
    let a = step byte_at one_byte IsByte byte_reads bytes _ x fits e in
    let g = guard_some (ltb room a.x) _ x a.more in
    let few : a.x ≤ room = ltb-false _ _ g.0 in
    let m = many_take (text_at LONGEST_NAME) text_bytes (IsText LONGEST_NAME) (text_reads LONGEST_NAME) a.x a.rest x a.takes.rest_fits g.1 in
    let both : Takes bytes (a.x ∷ flat_map text_bytes x.0) x.1 = Takes-then bytes (one_byte a.x) a.rest (flat_map text_bytes x.0) x.1 a.takes m.0 in
    (subst (λ (k : ℕ). Takes bytes (k ∷ flat_map text_bytes x.0) x.1) (sym m.1.0) both, (omega (arith, few, m.1.0), m.1.1))

-- a list of texts that was spelled is read again
names_again : (room : ℕ) (names : List (List ℕ)) (rest : List ℕ) → AreTexts room names → names_at room (texts_bytes names ++ rest) ≡ Some (names, rest)
unfolding names_at
names_again room names rest fits =
    let few : ltb room (length names) ≡ false = le-ltb _ _ fits.0 in
    rw few (many_again (text_at LONGEST_NAME) text_bytes (IsText LONGEST_NAME) (text_reads LONGEST_NAME) names rest fits.1)

-- lists of texts are read as they are spelled
pub names_read : (room : ℕ) → Reads (names_at room) texts_bytes (AreTexts room)
names_read room = record { takes = names_take room; again = names_again room }
