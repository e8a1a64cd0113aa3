-- The bytes that were read ahead, after a read or a step.
use Rattle.std.proofs.Common.{◌≡◌, ⊎_elim, ℕ, ◌+◌, ◌-◌, ◌≤◌, ◌<◌, min, List, [], ◌++◌, length, take, drop, slice_range, Result, Ok, Err, OnOk, OnErr, refl, sym, ap, subst, ◌∙◌, arith, length-take}
use Rattle.std.proofs.lemmas.Bool.{cases_lt}
use Rattle.std.proofs.lemmas.List.{take_all, take_at, drop_at, take-append-le, drop-append-le, drop-take, drop-drop, length-take-le, length-drop}
use Rattle.gate_log.specs.Log.{IsAhead}
use borrow.Rule.Slice.PartMut.{put_mid, post_of}
use lib.Seq.{take-add}

-- a buffer whose bytes from the end on were written over holds n of them more
pub grown : (xs ys : List ℕ) (start end k n : ℕ) → start ≤ end → end ≤ length xs → n ≤ length ys → slice_range (put_mid end k xs ys) start (end + n) ≡ slice_range xs start end ++ take n ys
grown xs ys start end k n ordered within fits =
    let front = length-take-le end xs within in
    let held = drop start (take end xs) in
    let len : length held ≡ end - start = omega (arith, length-drop start (take end xs)) in
    let sum : end + n - start ≡ (end - start) + n = omega arith in
    let parts : end ≡ start + (end - start) = omega arith in
    let same : held ≡ take (end - start) (drop start xs) = ap (λ j. drop start (take j xs)) parts ∙ drop-take start (end - start) xs in
    let after = ys ++ post_of end k xs in
    ap (take (end + n - start)) (drop-append-le start (take end xs) after (omega arith))
    ∙ ap (λ j. take j (held ++ after)) sum
    ∙ take-add (end - start) n (held ++ after)
    ∙ (rw (take_at held after _ len, drop_at held after _ len, take-append-le n ys (post_of end k xs) fits, same) refl)

-- a buffer that begins later has lost as many bytes at its front
pub passed : (xs : List ℕ) (start end count : ℕ) → start + count ≤ end → slice_range xs (start + count) end ≡ drop count (slice_range xs start end)
passed xs start end count inside =
    let parts : end - start ≡ count + (end - (start + count)) = omega arith in
    sym (ap (λ j. drop count (take j (drop start xs))) parts ∙ drop-take count _ (drop start xs) ∙ ap (take (end - (start + count))) (drop-drop count start xs))

-- no more can be taken than there is
pub take_least : (m : ℕ) (xs : List ℕ) → take (min m (length xs)) xs ≡ take m xs
take_least m xs = ⊎_elim few many (cases_lt m (length xs))
  where
    few : m < length xs → take (min m (length xs)) xs ≡ take m xs
    few lt = let n : min m (length xs) ≡ m = omega (arith, lt) in ap (λ (k : ℕ). take k xs) n

    many : length xs ≤ m → take (min m (length xs)) xs ≡ take m xs
    many le = let n : min m (length xs) ≡ length xs = omega (arith, le) in ap (λ (k : ℕ). take k xs) n ∙ take_all (length xs) xs (omega arith) ∙ sym (take_all m xs le)

-- what goes on after the bytes read ahead is read ahead too
pub ahead_grows : (file old new : List ℕ) (place k : ℕ) → IsAhead file place old → new ≡ old ++ take k (drop (place + length old) file) → IsAhead file place new
ahead_grows file old new place k is grows =
    let rest = drop place file in
    let behind : drop (place + length old) file ≡ drop (length old) rest = sym (drop-drop (length old) place file) in
    let whole : new ≡ take (length old + k) rest =
    grows
    ∙ ap (λ (l : List ℕ). old ++ take k l) behind
    ∙ ap (λ (l : List ℕ). l ++ take k (drop (length old) rest)) is
    ∙ sym (take-add (length old) k rest) in
    let size : length new ≡ min (length old + k) (length rest) = omega (arith, ap length whole, length-take (length old + k) rest) in
    whole ∙ sym (take_least (length old + k) rest) ∙ ap (λ (n : ℕ). take n rest) (sym size)

-- after a read on the bytes are those of the file, whether it failed or not
pub read_either_way : {T E : Type 0} (r : Result T E) (file old new : List ℕ) (place k : ℕ) → OnOk r (new ≡ old ++ take k (drop (place + length old) file)) → OnErr r (new ≡ old)
    → IsAhead file place old → IsAhead file place new
read_either_way (Ok x) file old new place k grows same is = ahead_grows file old new place k is grows
read_either_way (Err x) file old new place k grows same is = subst (IsAhead file place) (sym same) is

-- the first piece of a file
pub first_piece : (file seen bytes none new : List ℕ) → none ≡ [] → new ≡ none ++ take (16384 - length none) (drop (0 + length none) seen) → file ≡ seen → bytes ≡ new → bytes ≡ take 16384 file
first_piece file seen bytes none new empty grows same is =
    is ∙ grows ∙ ap (λ (l : List ℕ). l ++ take (16384 - length l) (drop (0 + length l) seen)) empty ∙ ap (λ (l : List ℕ). take 16384 l) (sym same)
