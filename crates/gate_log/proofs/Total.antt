-- Each file has a meaning: a journal, or its first fault.
use Rattle.std.proofs.Common.{◌≡◌, ◌≢◌, ◌⊎◌, inl, inr, ⊎_elim, ℕ, zero, suc, ◌+◌, ◌≤◌, ◌<◌, ◌^◌, List, [], ◌∷◌, ◌++◌, length, take, drop, slice_index, get_or, All, false, refl, sym, ap, subst, arith, length-take, length-drop}
use Rattle.std.proofs.lemmas.Bool.{cases_lt, cases_eq}
use Rattle.std.proofs.lemmas.List.{take_all, take_more_same, get_or_past}
use Rattle.std.proofs.lemmas.List.Elements.{All-take, All-drop, All-tail}
use Rattle.std.proofs.lemmas.Nat.{le_bytes_4}
use Rattle.std.specs.Int.{to_le_bytes, w32}
use Rattle.gate_log.specs.Records.{start_line, IsVersion, IsLength, Begins, place_after}
use Rattle.gate_log.specs.Faults.{GoesOn, HasMeaning, IsLineFault, IsHeaderFault, length_in, IsOutOfRange}
use Rattle.gate_log.specs.Log.{LogView, IsReading, IsHeaded, secret_in}
use Rattle.gate_log.specs.Gate.{EndsEarly, BeginsRecord}
use Rattle.gate_log.proofs.Crash.{place_push}
use Rattle.gate_log.proofs.Reading.{file_size, record_read, end_read, range_read, short_read, header_read}

-- the start line, as far as it is there, or the first place where it isn't
line_upto : (file : List ℕ) (k : ℕ) → k ≤ 16 → ((k ≤ length file) × (take k file ≡ take k start_line)) ⊎ ((place : ℕ) × IsLineFault place file)
line_upto file zero le = inl (omega arith, refl)
line_upto file (suc k) le = ⊎_elim (λ (long, same). next long same (cases_lt k (length file))) (λ fault. inr fault) (line_upto file k (omega (arith, le)))
  where
    one : k + 1 ≡ suc k
    one = omega arith

    next : k ≤ length file → take k file ≡ take k start_line → (k < length file) ⊎ (length file ≤ k) → ((suc k ≤ length file) × (take (suc k) file ≡ take (suc k) start_line)) ⊎ ((place : ℕ) × IsLineFault place file)
    next long same (inr end) = inr (k, record { within = omega (arith, le); before = same; differs = inl end })
    next long same (inl there) = elim (cases_eq (slice_index file k) (slice_index start_line k)) [
      | inl equal ↦ inl (omega (arith, there), subst (λ (n : ℕ). take n file ≡ take n start_line) one (take_more_same file start_line k 0 (omega (arith, there)) (omega (arith, le)) same equal))
      | inr other ↦ inr (k, record { within = omega (arith, le); before = same; differs = inr other })
    ]

-- the version that a version gate shows
version_of : (gate : ℕ) → (version : ℕ) × IsVersion gate version
version_of gate = elim (cases_eq gate 0) [
  | inl shut ↦ (1, inl (shut, refl))
  | inr opened ↦ (2, inr (opened, refl))
]

-- a file has a fault in its header, or a whole header
pub header_or_fault : (file : List ℕ) → ((place : ℕ) × IsHeaderFault place file) ⊎ ((version : ℕ) × (secret : List ℕ) × Begins version secret [] file)
header_or_fault file = ⊎_elim (λ (long, same). whole long same (cases_lt (length file) 50)) (λ (place, fault). inl (place, inl fault)) (line_upto file 16 (omega arith))
  where
    whole : 16 ≤ length file → take 16 file ≡ take 16 start_line → (length file < 50) ⊎ (50 ≤ length file) → ((place : ℕ) × IsHeaderFault place file) ⊎ ((version : ℕ) × (secret : List ℕ) × Begins version secret [] file)
    whole long same (inl few) = inl (length file, inr (record { line = same; size = refl; short = few }))
    whole long same (inr enough) =
        let (version, is) = version_of (slice_index file 48) in
        let headed : IsHeaded file version = record { line = same; long = enough; is_version = is } in
        let log : LogView = record { place = 49; version = version; at_end = false; size = length file; ahead = drop 49 file } in
        let reading = header_read file file (length file) version (sym (take_all (length file) file (omega arith))) headed log refl refl refl refl refl in
        inr (version, secret_in file, reading.begins)

-- a log that has read all that is left
reading_of : (version : ℕ) (secret : List ℕ) (bodies : List (List ℕ)) (file : List ℕ) → Begins version secret bodies file
    → IsReading file (record { place = place_after bodies; version = version; at_end = false; size = length file; ahead = drop (place_after bodies) file }) secret bodies
reading_of version secret bodies file begins = record {
  begins = begins;
  place = refl;
  unknown = refl;
  size = refl;
  ahead = sym (take_all (length (drop (place_after bodies) file)) (drop (place_after bodies) file) (omega arith));
}

-- the place after the bodies lies within the file
pub place_within : (version : ℕ) (secret : List ℕ) (bodies : List (List ℕ)) (file : List ℕ) → Begins version secret bodies file → place_after bodies < length file
place_within version secret bodies file begins =
    let r = reading_of version secret bodies file begins in
    omega (arith, file_size file _ secret bodies r, begins.has_gate)

-- what is at a gate
data AtGate (bytes : List ℕ) : Type 0 where
  shut : (more : List ℕ) → bytes ≡ 0 ∷ more → AtGate bytes
  whole : (n : ℕ) → BeginsRecord bytes n → AtGate bytes
  wrong : (gate : ℕ) (more : List ℕ) → gate ≢ 0 → bytes ≡ gate ∷ more → IsOutOfRange more → AtGate bytes
  early : EndsEarly bytes → AtGate bytes

at_gate : (bytes : List ℕ) → All (λ b. b < 2 ^ 8) bytes → AtGate bytes
at_gate [] small = early (inl refl)
at_gate (gate ∷ more) small = elim (cases_eq gate 0) [
  | inl closed ↦ shut more (ap (λ (g : ℕ). g ∷ more) closed)
  | inr opened ↦ by_length opened (cases_lt (length more) 4)
]
  where
    n : ℕ
    n = length_in more

    four : 4 ≤ length more → to_le_bytes w32 n ≡ take 4 more
    four enough =
        le_bytes_4 (take 4 more) n (omega (arith, length-take 4 more, enough)) (λ i. byte i (cases_lt i (length (take 4 more)))) refl
      where
        byte : (i : ℕ) → (i < length (take 4 more)) ⊎ (length (take 4 more) ≤ i) → get_or (take 4 more) i 0 < 256
        byte i (inl lt) = All-take (λ b. b < 2 ^ 8) 4 more (All-tail (λ b. b < 2 ^ 8) gate more small) i 0 lt
        byte i (inr past) = omega (arith, get_or_past (take 4 more) i 0 past)

    by_room : gate ≢ 0 → 4 ≤ length more → IsLength n → (length more < 5 + n) ⊎ (5 + n ≤ length more) → AtGate (gate ∷ more)
    by_room opened enough fits (inl few) = early (inr (gate, more, opened, refl, inr (enough, fits, few)))
    by_room opened enough fits (inr long) = whole n (gate, more, opened, refl, fits, sym (four enough), long)

    by_range : gate ≢ 0 → 4 ≤ length more → (n < 1) ⊎ (1 ≤ n) → (4096 < n) ⊎ (n ≤ 4096) → AtGate (gate ∷ more)
    by_range opened enough (inl low) high = wrong gate more opened refl (enough, λ fits. absurd (omega (arith, low, fits.0)))
    by_range opened enough (inr least) (inl above) = wrong gate more opened refl (enough, λ fits. absurd (omega (arith, above, fits.1)))
    by_range opened enough (inr least) (inr most) = by_room opened enough (least, most) (cases_lt (length more) (5 + n))

    by_length : gate ≢ 0 → (length more < 4) ⊎ (4 ≤ length more) → AtGate (gate ∷ more)
    by_length opened (inl few) = early (inr (gate, more, opened, refl, inl few))
    by_length opened (inr enough) = by_range opened enough (cases_lt n 1) (cases_lt 4096 n)

-- after the records that were read
pub goes_on : (version : ℕ) (secret : List ℕ) (bodies : List (List ℕ)) (file : List ℕ) → All (λ b. b < 2 ^ 8) file → Begins version secret bodies file → GoesOn version secret bodies file
goes_on version secret bodies file small begins = by_gate (at_gate ahead small_ahead)
  where
    ahead : List ℕ
    ahead = drop (place_after bodies) file

    small_ahead : All (λ b. b < 2 ^ 8) ahead
    small_ahead = All-drop (λ b. b < 2 ^ 8) (place_after bodies) file small

    log : LogView
    log = record { place = place_after bodies; version = version; at_end = false; size = length file; ahead = ahead }

    r : IsReading file log secret bodies
    r = reading_of version secret bodies file begins

    by_gate : AtGate ahead → GoesOn version secret bodies file
    by_gate (shut more is) = inl (end_read file log secret bodies r ahead r.ahead more is)
    by_gate (whole n is) = inr (inr (take n (drop 5 ahead), All-take (λ b. b < 2 ^ 8) n (drop 5 ahead) (All-drop (λ b. b < 2 ^ 8) 5 ahead small_ahead), (record_read file log secret bodies r ahead r.ahead n is).begins))
    by_gate (wrong gate more opened is range) = inr (inl (place_after bodies + 1, range_read file log secret bodies r ahead r.ahead gate more opened is range))
    by_gate (early ends) = inr (inl (length file, short_read file log secret bodies r ahead r.ahead ends (inr (omega (arith, length-drop (place_after bodies) file)))))

-- from some records on, with no more bytes after them than this
meaning_from : (file : List ℕ) → All (λ b. b < 2 ^ 8) file → (left version : ℕ) (secret : List ℕ) (bodies : List (List ℕ)) → Begins version secret bodies file → length file ≤ place_after bodies + left → HasMeaning file
meaning_from file small zero version secret bodies begins le = absurd (omega (arith, le, place_within version secret bodies file begins))
meaning_from file small (suc left) version secret bodies begins le =
    by_next (λ body more. meaning_from file small left version secret (bodies ++ body ∷ []) more (omega (arith, le, place_push bodies body))) (goes_on version secret bodies file small begins)
  where
    by_next : ((body : List ℕ) → Begins version secret (bodies ++ body ∷ []) file → HasMeaning file) → GoesOn version secret bodies file → HasMeaning file
    by_next later (inl stands) = inl (version, secret, bodies, stands)
    by_next later (inr (inl (place, fault))) = inr (place, inr (version, secret, bodies, fault))
    by_next later (inr (inr (body, bytes, more))) = later body more

pub has_meaning : (file : List ℕ) → All (λ b. b < 2 ^ 8) file → HasMeaning file
has_meaning file small = by_header (header_or_fault file)
  where
    by_header : ((place : ℕ) × IsHeaderFault place file) ⊎ ((version : ℕ) × (secret : List ℕ) × Begins version secret [] file) → HasMeaning file
    by_header (inl (place, fault)) = inr (place, inl fault)
    by_header (inr (version, secret, begins)) = meaning_from file small (length file) version secret [] begins (omega arith)
