-- Reading a journal from its start, record by record.
use Rattle.std.proofs.Common.{◌≡◌, ◌≢◌, ◌⊎◌, inl, inr, ⊎_elim, ℕ, ◌+◌, ◌-◌, ◌≤◌, ◌<◌, List, [], ◌∷◌, ◌++◌, length, take, drop, slice_index, IsFalse, refl, sym, ◌∙◌, ap, subst, arith, append_assoc, length-append, length-take, length-drop, take-append-drop, drop-drop}
use Rattle.std.proofs.lemmas.Bool.{cases_lt}
use Rattle.std.proofs.lemmas.List.{append-nil, get_or-take, drop_more, take_at, drop_at, take_all, take-append-le, take-take, drop-take}
use Rattle.std.specs.Int.{to_le_bytes, from_le_bytes, w32}
use Rattle.gate_log.specs.Records.{start_line, header, IsVersion, IsLength, IsBody, entry, IsRun, Stands, place_after}
use Rattle.gate_log.specs.Faults.{IsHeaderFault, length_in, IsOutOfRange, IsFaultAfter}
use Rattle.gate_log.specs.Log.{LogView, IsReading, IsAhead, with_ahead, past, IsHeaded, secret_in}
use Rattle.gate_log.specs.Gate.{EndsEarly, BeginsRecord}
use Rattle.gate_log.proofs.Crash.{length-header, run_push, place_push, size}

module _ (file : List ℕ) (log : LogView) (secret : List ℕ) (bodies : List (List ℕ)) (r : IsReading file log secret bodies) where
  -- the header and the records that were read end at the place of the log
  front_size : length (header r.begins.gate secret ++ r.begins.run) ≡ log.place
  front_size = size 0 secret bodies log.place r.place r.begins.gate r.begins.run r.begins.secret_size r.begins.is_run

  -- what comes from that place on is still unread
  pub behind : drop log.place file ≡ r.begins.rest
  behind = ap (λ (l : List ℕ). drop log.place l) r.begins.is ∙ drop_at (header r.begins.gate secret ++ r.begins.run) r.begins.rest log.place front_size

  -- the file is as long as that place and what's unread
  pub file_size : length file ≡ log.place + length r.begins.rest
  file_size = omega (arith, ap length r.begins.is, length-append (header r.begins.gate secret ++ r.begins.run) r.begins.rest, front_size)

  module _ (ahead : List ℕ) (is_ahead : IsAhead file log.place ahead) where
    -- what is unread begins with the bytes that were read ahead
    rest_is : r.begins.rest ≡ ahead ++ drop (length ahead) r.begins.rest
    rest_is = sym (take-append-drop (length ahead) r.begins.rest) ∙ ap (λ (l : List ℕ). l ++ drop (length ahead) r.begins.rest) (sym (is_ahead ∙ ap (λ (l : List ℕ). take (length ahead) l) behind))

    -- a whole record
    pub record_read : (n : ℕ) → BeginsRecord ahead n → IsReading file (past (with_ahead log ahead) n) secret (bodies ++ take n (drop 5 ahead) ∷ [])
    record_read n (gate, more, opened, is, fits, written, long) =
        let body = take n (drop 4 more) in
        let left = drop (5 + n) ahead in
        let after = left ++ drop (length ahead) r.begins.rest in
        let body_size : length body ≡ n = omega (arith, length-take n (drop 4 more), length-drop 4 more, long) in
        let left_is : drop n (drop 4 more) ≡ left = drop-drop n 5 (gate ∷ more) ∙ ap (λ (l : List ℕ). drop (5 + n) l) (sym is) in
        let bytes : to_le_bytes w32 (length body) ≡ take 4 more = ap (λ (k : ℕ). to_le_bytes w32 k) body_size ∙ sym written in
        let whole : ahead ≡ entry gate body ++ left =
        is
        ∙ ap (λ (l : List ℕ). gate ∷ l) (sym (take-append-drop 4 more))
        ∙ ap (λ (l : List ℕ). gate ∷ (take 4 more ++ l)) (sym (take-append-drop n (drop 4 more)))
        ∙ ap (λ (l : List ℕ). gate ∷ (l ++ (body ++ drop n (drop 4 more)))) (sym bytes)
        ∙ ap (λ (l : List ℕ). gate ∷ (to_le_bytes w32 (length body) ++ (body ++ l))) left_is
        ∙ ap (λ (l : List ℕ). gate ∷ l) (sym (append_assoc (to_le_bytes w32 (length body)) body left)) in
        let is_body : IsBody body = subst IsLength (sym body_size) fits in
        let next_run : IsRun (bodies ++ body ∷ []) (r.begins.run ++ entry gate body) = run_push bodies r.begins.run body gate r.begins.is_run opened is_body in
        let next_place : log.place + 5 + n ≡ place_after (bodies ++ body ∷ []) = omega (arith, r.place, place_push bodies body, body_size) in
        let file_is : file ≡ header r.begins.gate secret ++ (r.begins.run ++ entry gate body) ++ after =
        r.begins.is
        ∙ ap (λ (l : List ℕ). header r.begins.gate secret ++ r.begins.run ++ l) (rest_is ∙ ap (λ (l : List ℕ). l ++ drop (length ahead) r.begins.rest) whole ∙ append_assoc (entry gate body) left (drop (length ahead) r.begins.rest))
        ∙ sym (append_assoc (header r.begins.gate secret ++ r.begins.run) (entry gate body) after)
        ∙ ap (λ (l : List ℕ). l ++ after) (append_assoc (header r.begins.gate secret) r.begins.run (entry gate body)) in
        let left_size : length left + 5 + n ≡ length ahead = omega (arith, length-drop (5 + n) ahead, ap length is, long) in
        let front : length (header r.begins.gate secret ++ (r.begins.run ++ entry gate body)) ≡ log.place + 5 + n =
        size 0 secret (bodies ++ body ∷ []) (log.place + 5 + n) next_place r.begins.gate (r.begins.run ++ entry gate body) r.begins.secret_size next_run in
        let next_behind : drop (log.place + 5 + n) file ≡ after =
        ap (λ (l : List ℕ). drop (log.place + 5 + n) l) file_is ∙ drop_at (header r.begins.gate secret ++ (r.begins.run ++ entry gate body)) after (log.place + 5 + n) front in
        let result : IsReading file (past (with_ahead log ahead) n) secret (bodies ++ body ∷ []) = record {
          begins = record {
            gate = r.begins.gate;
            run = r.begins.run ++ entry gate body;
            rest = after;
            is_version = r.begins.is_version;
            secret_size = r.begins.secret_size;
            is_run = next_run;
            is = file_is;
            has_gate = omega (arith, length-append left (drop (length ahead) r.begins.rest), left_size, ap length is, long);
          };
          place = next_place;
          unknown = r.unknown;
          size = r.size;
          ahead = sym (ap (λ (l : List ℕ). take (length left) l) next_behind ∙ take_at left (drop (length ahead) r.begins.rest) (length left) refl);
        } in
        let body_is : body ≡ take n (drop 5 ahead) = ap (λ (l : List ℕ). take n (drop 5 l)) (sym is) in
        subst (λ (l : List ℕ). IsReading file (past (with_ahead log ahead) n) secret (bodies ++ l ∷ [])) body_is result

    -- a closed gate
    pub end_read : (more : List ℕ) → ahead ≡ 0 ∷ more → Stands log.version secret bodies file
    end_read more is = record {
      gate = r.begins.gate;
      run = r.begins.run;
      tail = more ++ drop (length ahead) r.begins.rest;
      is_version = r.begins.is_version;
      secret_size = r.begins.secret_size;
      is_run = r.begins.is_run;
      is = r.begins.is ∙ ap (λ (l : List ℕ). header r.begins.gate secret ++ r.begins.run ++ l) (rest_is ∙ ap (λ (l : List ℕ). l ++ drop (length ahead) r.begins.rest) is);
    }

    -- a length out of its range
    pub range_read : (gate : ℕ) (more : List ℕ) → gate ≢ 0 → ahead ≡ gate ∷ more → IsOutOfRange more → IsFaultAfter log.version secret bodies (log.place + 1) file
    range_read gate more opened is (long, wrong) =
        let behind_gate = more ++ drop (length ahead) r.begins.rest in
        let same : length_in behind_gate ≡ length_in more = ap (λ (l : List ℕ). from_le_bytes w32 l) (take-append-le 4 more (drop (length ahead) r.begins.rest) long) in
        record {
          version_gate = r.begins.gate;
          run = r.begins.run;
          gate = gate;
          more = behind_gate;
          is_version = r.begins.is_version;
          secret_size = r.begins.secret_size;
          is_run = r.begins.is_run;
          opened = opened;
          is = r.begins.is ∙ ap (λ (l : List ℕ). header r.begins.gate secret ++ r.begins.run ++ l) (rest_is ∙ ap (λ (l : List ℕ). l ++ drop (length ahead) r.begins.rest) is);
          fault = inr ((omega (arith, long, length-append more (drop (length ahead) r.begins.rest)), λ fits. wrong (subst IsLength same fits)), ap (λ (k : ℕ). k + 1) r.place);
        }

    -- the file ends before the record and the next gate do
    pub short_read : EndsEarly ahead → (4102 ≤ length ahead) ⊎ (length file ≤ log.place + length ahead) → IsFaultAfter log.version secret bodies log.size file
    short_read early far = by_cases early (all (short early) far)
      where
        short : EndsEarly ahead → length ahead < 4102
        short (inl none) = omega (arith, ap length none)
        short (inr (gate, more, opened, is, inl few)) = omega (arith, ap length is, few)
        short (inr (gate, more, opened, is, inr (some, fits, few))) = omega (arith, ap length is, few, fits.1)

        all : length ahead < 4102 → (4102 ≤ length ahead) ⊎ (length file ≤ log.place + length ahead) → r.begins.rest ≡ ahead
        all few (inl many) = absurd (omega (arith, few, many))
        all few (inr end) = sym (take_all (length ahead) r.begins.rest (omega (arith, end, file_size))) ∙ sym (is_ahead ∙ ap (λ (l : List ℕ). take (length ahead) l) behind)

        by_cases : EndsEarly ahead → r.begins.rest ≡ ahead → IsFaultAfter log.version secret bodies log.size file
        by_cases (inl none) same = absurd (omega (arith, ap length none, ap length same, r.begins.has_gate))
        by_cases (inr (gate, more, opened, is, is_short)) same = record {
          version_gate = r.begins.gate;
          run = r.begins.run;
          gate = gate;
          more = more;
          is_version = r.begins.is_version;
          secret_size = r.begins.secret_size;
          is_run = r.begins.is_run;
          opened = opened;
          is = r.begins.is ∙ ap (λ (l : List ℕ). header r.begins.gate secret ++ r.begins.run ++ l) (same ∙ is);
          fault = inl (is_short, r.size);
        }

-- what is left of the bytes read ahead after a record
pub drop_ahead : (piece : List ℕ) (from to n : ℕ) → from + 5 + n ≤ to → take (to - (from + 5 + n)) (drop (from + 5 + n) piece) ≡ drop (5 + n) (take (to - from) (drop from piece))
drop_ahead piece from to n le =
    let left = to - (from + 5 + n) in
    let whole : from + 5 + n ≡ from + (5 + n) = omega arith in
    let count : 5 + n + left ≡ to - from = omega (arith, le) in
    ap (λ (k : ℕ). take left (drop k piece)) whole
    ∙ ap (λ (l : List ℕ). take left l) (sym (drop-drop (5 + n) from piece))
    ∙ sym (drop-take (5 + n) left (drop from piece))
    ∙ ap (λ (k : ℕ). drop (5 + n) (take k (drop from piece))) count

-- what was read ahead after a header
pub ahead_of_header : (piece : List ℕ) (count : ℕ) → 49 ≤ count → take (count - 49) (drop 49 piece) ≡ drop 49 (take count piece)
ahead_of_header piece count le =
    let whole : 49 + (count - 49) ≡ count = omega (arith, le) in
    sym (drop-take 49 (count - 49) piece) ∙ ap (λ (k : ℕ). drop 49 (take k piece)) whole

-- bytes with a whole header, in parts
headed : (bytes : List ℕ) (version : ℕ) → IsHeaded bytes version → bytes ≡ header (slice_index bytes 48) (secret_in bytes) ++ drop 49 bytes
headed bytes version h =
    let one : drop 48 bytes ≡ slice_index bytes 48 ∷ drop 49 bytes = drop_more bytes 48 0 (omega (arith, h.long)) in
    sym (take-append-drop 16 bytes)
    ∙ ap (λ (l : List ℕ). l ++ drop 16 bytes) h.line
    ∙ ap (λ (l : List ℕ). start_line ++ l) (sym (take-append-drop 32 (drop 16 bytes)))
    ∙ ap (λ (l : List ℕ). start_line ++ (secret_in bytes ++ l)) (drop-drop 32 16 bytes ∙ one)
    ∙ sym (append_assoc start_line (secret_in bytes) (slice_index bytes 48 ∷ drop 49 bytes))
    ∙ sym (append_assoc (start_line ++ secret_in bytes) (slice_index bytes 48 ∷ []) (drop 49 bytes))

-- the first bytes of a file with a whole header
pub header_read : (file bytes : List ℕ) (n version : ℕ) → bytes ≡ take n file → IsHeaded bytes version
    → (log : LogView) → log.place ≡ 49 → log.version ≡ version → IsFalse log.at_end → log.size ≡ length file → log.ahead ≡ drop 49 bytes → IsReading file log (secret_in bytes) []
header_read file bytes n version front h log place version_is unknown size_is ahead_is =
    let gate = slice_index bytes 48 in
    let secret = secret_in bytes in
    let rest = drop 49 bytes in
    let secret_size : length secret ≡ 32 = omega (arith, length-take 32 (drop 16 bytes), length-drop 16 bytes, h.long) in
    let file_is : file ≡ header gate secret ++ [] ++ (rest ++ drop n file) =
    sym (take-append-drop n file)
    ∙ ap (λ (l : List ℕ). l ++ drop n file) (sym front ∙ headed bytes version h)
    ∙ append_assoc (header gate secret) rest (drop n file)
    ∙ ap (λ (l : List ℕ). l ++ (rest ++ drop n file)) (sym (append-nil (header gate secret))) in
    let head_size : length (header gate secret ++ []) ≡ 49 = omega (arith, length-append (header gate secret) [], length-header gate secret secret_size) in
    let behind : drop log.place file ≡ rest ++ drop n file =
    ap (λ (k : ℕ). drop k file) place ∙ ap (λ (l : List ℕ). drop 49 l) file_is ∙ drop_at (header gate secret ++ []) (rest ++ drop n file) 49 head_size in
    record {
      begins = record {
        gate = gate;
        run = [];
        rest = rest ++ drop n file;
        is_version = subst (IsVersion gate) (sym version_is) h.is_version;
        secret_size = secret_size;
        is_run = refl;
        is = file_is;
        has_gate = omega (arith, length-append rest (drop n file), length-drop 49 bytes, h.long);
      };
      place = place;
      unknown = unknown;
      size = size_is;
      ahead = ahead_is ∙ sym (take_at rest (drop n file) (length log.ahead) (ap length (sym ahead_is))) ∙ ap (λ (l : List ℕ). take (length log.ahead) l) (sym behind);
    }

-- a fault of the first bytes is one of the file
pub header_fault : (file bytes : List ℕ) (n place : ℕ) → bytes ≡ take n file → (50 ≤ n) ⊎ (length file ≤ n) → IsHeaderFault place bytes → IsHeaderFault place file
header_fault file bytes n place front (inr all) fault = subst (IsHeaderFault place) (front ∙ take_all n file all) fault
header_fault file bytes n place front (inl many) (inr cut) =
    by_cases (⊎_elim (λ (lt : length file < 50). inl lt) (λ (le : 50 ≤ length file). inr le) (cases_lt (length file) 50))
  where
    by_cases : (length file < 50) ⊎ (50 ≤ length file) → IsHeaderFault place file
    by_cases (inl few) = subst (IsHeaderFault place) (front ∙ take_all n file (omega (arith, few, many))) (inr cut)
    by_cases (inr enough) = absurd (omega (arith, cut.size, cut.short, ap length front, length-take n file, many, enough))
header_fault file bytes n place front (inl many) (inl line) = inl record {
  within = line.within;
  before = sym (take-take place n file (omega (arith, line.within, many))) ∙ ap (λ (l : List ℕ). take place l) (sym front) ∙ line.before;
  differs = ⊎_elim (λ few. inl (omega (arith, few, line.within, ap length front, length-take n file, many))) (λ other. inr (λ same. other (at ∙ same))) line.differs;
}
  where
    at : slice_index bytes place ≡ slice_index file place
    at = ap (λ (l : List ℕ). slice_index l place) front ∙ get_or-take n file place 0 (omega (arith, line.within, many))
