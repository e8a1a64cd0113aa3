-- A file has one meaning: a journal of one version, secret and list of bodies, or a fault at one place.
use Rattle.std.proofs.Common.{◌≡◌, ◌≢◌, ◌⊎◌, inl, inr, ⊎_elim, ℕ, ◌+◌, ◌≤◌, ◌<◌, List, [], ◌∷◌, ◌++◌, length, take, drop, slice_index, refl, sym, ◌∙◌, ap, subst, arith, append_assoc, length-append, length-take}
use Rattle.std.proofs.lemmas.Bool.{cases_lt}
use Rattle.std.proofs.lemmas.List.{take_at, drop_at, get_or-take, get_or-drop, drop-drop}
use Rattle.std.proofs.lemmas.Nat.{from_le_bytes-to_le_bytes_4}
use Rattle.std.specs.Int.{to_le_bytes, from_le_bytes, w32}
use Rattle.gate_log.specs.Records.{start_line, header, IsVersion, IsLength, IsBody, entry, IsRun, Begins, BeginWith, Stands, place_after}
use Rattle.gate_log.specs.Faults.{IsLineFault, IsCutHeader, IsHeaderFault, length_in, IsShort, IsOutOfRange, IsRecordFault, IsFaultAfter, IsFault}
use Rattle.gate_log.specs.Log.{secret_in}
use Rattle.gate_log.proofs.Crash.{length-header, length-entry}

-- what a record holds, read back from its bytes
record Entry (bytes body rest : List ℕ) : Type 0 where
  size : length_in (drop 1 bytes) ≡ length body
  body_is : body ≡ take (length_in (drop 1 bytes)) (drop 5 bytes)
  rest_is : rest ≡ drop (5 + length_in (drop 1 bytes)) bytes

-- the first record of some bytes, read back from them
read_entry : (gate : ℕ) (bytes body rest : List ℕ) → IsBody body → bytes ≡ entry gate body ++ rest → Entry bytes body rest
read_entry gate bytes body rest fits is =
    let written = to_le_bytes w32 (length body) in
    let behind : drop 1 bytes ≡ written ++ (body ++ rest) = ap (λ (l : List ℕ). drop 1 l) is ∙ append_assoc written body rest in
    let size : length_in (drop 1 bytes) ≡ length body =
    ap (λ (l : List ℕ). from_le_bytes w32 (take 4 l)) behind
    ∙ ap (λ (l : List ℕ). from_le_bytes w32 l) (take_at written (body ++ rest) 4 refl)
    ∙ from_le_bytes-to_le_bytes_4 (length body) (omega (arith, fits.1)) in
    let five : drop 5 bytes ≡ body ++ rest = sym (drop-drop 4 1 bytes) ∙ ap (λ (l : List ℕ). drop 4 l) behind ∙ drop_at written (body ++ rest) 4 refl in
    record {
      size = size;
      body_is = sym (ap (λ (n : ℕ). take n (drop 5 bytes)) size ∙ ap (λ (l : List ℕ). take (length body) l) five ∙ take_at body rest (length body) refl);
      rest_is = sym (ap (λ (n : ℕ). drop (5 + n) bytes) size ∙ sym (drop-drop (length body) 5 bytes) ∙ ap (λ (l : List ℕ). drop (length body) l) five ∙ drop_at body rest (length body) refl);
    }

-- two records at the front of the same bytes have one body, and the same after them
two_entries : (gate door : ℕ) (run walk body other further beyond rest left : List ℕ) → IsBody body → IsBody other → run ≡ entry gate body ++ further → walk ≡ entry door other ++ beyond → run ++ rest ≡ walk ++ left
    → (body ≡ other) × (further ++ rest ≡ beyond ++ left)
two_entries gate door run walk body other further beyond rest left fits suits is also same =
    let bytes = run ++ rest in
    let first = read_entry gate bytes body (further ++ rest) fits (ap (λ (l : List ℕ). l ++ rest) is ∙ append_assoc (entry gate body) further rest) in
    let second = read_entry door bytes other (beyond ++ left) suits (same ∙ ap (λ (l : List ℕ). l ++ left) also ∙ append_assoc (entry door other) beyond left) in
    (first.body_is ∙ sym second.body_is, first.rest_is ∙ sym second.rest_is)

-- no whole record with a gate after it begins here
Stops : List ℕ → Type 0
Stops rest = (gate : ℕ) (body after : List ℕ) → gate ≢ 0 → IsBody body → rest ≡ entry gate body ++ after → 1 ≤ length after → ⊥

-- no record begins at a closed gate
closed_stops : (tail : List ℕ) → Stops (0 ∷ tail)
unfolding Stops
closed_stops tail gate body after opened fits is some = opened (sym (ap (λ (l : List ℕ). slice_index l 0) is))

-- no whole record begins at a fault
fault_stops : (gate : ℕ) (more : List ℕ) → IsShort more ⊎ IsOutOfRange more → Stops (gate ∷ more)
unfolding Stops
fault_stops gate more fault g body after opened fits is some =
    let e = read_entry g (gate ∷ more) body after fits is in
    let size : length_in more ≡ length body = e.size in
    let long : length more ≡ 4 + length body + length after = omega (arith, ap length is, length-append (entry g body) after, length-entry g body) in
    by_cases size long fault
  where
    by_cases : length_in more ≡ length body → length more ≡ 4 + length body + length after → IsShort more ⊎ IsOutOfRange more → ⊥
    by_cases size long (inl (inl few)) = absurd (omega (arith, few, long))
    by_cases size long (inl (inr (enough, range, few))) = absurd (omega (arith, few, long, size, some))
    by_cases size long (inr (enough, wrong)) = wrong (subst IsLength (sym size) fits)

-- the same bodies, and the same bytes after them
record Same (bodies others : List (List ℕ)) (rest left : List ℕ) : Type 0 where
  bodies_are : bodies ≡ others
  rest_is : rest ≡ left

-- two readings of the same records
same_run : (bodies others : List (List ℕ)) (run walk rest left : List ℕ) → IsRun bodies run → IsRun others walk → run ++ rest ≡ walk ++ left
    → 1 ≤ length rest → 1 ≤ length left → Stops rest → Stops left → Same bodies others rest left
unfolding Stops
same_run [] [] run walk rest left is also same some more stops ends =
    record { bodies_are = refl; rest_is = sym (ap (λ (l : List ℕ). l ++ rest) is) ∙ same ∙ ap (λ (l : List ℕ). l ++ left) also }
same_run [] (body ∷ others) run walk rest left is (gate, further, opened, fits, also, others_run) same some more stops ends =
    absurd (ends_early stops)
  where
    ends_early : Stops rest → ⊥
    ends_early stopped = stopped gate body (further ++ left) opened fits
        (sym (ap (λ (l : List ℕ). l ++ rest) is) ∙ same ∙ ap (λ (l : List ℕ). l ++ left) also ∙ append_assoc (entry gate body) further left) (omega (arith, more, length-append further left))
same_run (body ∷ bodies) [] run walk rest left (gate, further, opened, fits, is, bodies_run) also same some more stops ends =
    absurd (ends_early ends)
  where
    ends_early : Stops left → ⊥
    ends_early stopped = stopped gate body (further ++ rest) opened fits
        (sym (ap (λ (l : List ℕ). l ++ left) also) ∙ sym same ∙ ap (λ (l : List ℕ). l ++ rest) is ∙ append_assoc (entry gate body) further rest) (omega (arith, some, length-append further rest))
same_run (body ∷ bodies) (other ∷ others) run walk rest left (gate, further, opened, fits, is, bodies_run) (door, beyond, wide, suits, also, others_run) same some more stops ends =
    let two = two_entries gate door run walk body other further beyond rest left fits suits is also same in
    let below = same_run bodies others further beyond rest left bodies_run others_run two.1 some more stops ends in
    record {
      bodies_are = ap (λ (b : List ℕ). b ∷ bodies) two.0 ∙ ap (λ (l : List (List ℕ)). other ∷ l) below.bodies_are;
      rest_is = below.rest_is;
    }

-- what a header holds, read back from the file's bytes
record Headed (file secret rest : List ℕ) (gate : ℕ) : Type 0 where
  line : take 16 file ≡ start_line
  gate_is : gate ≡ slice_index file 48
  secret_is : secret ≡ secret_in file
  rest_is : rest ≡ drop 49 file
  long : 49 + length rest ≡ length file

-- the header of some bytes, read back from them
read_header : (gate : ℕ) (file secret rest : List ℕ) → length secret ≡ 32 → file ≡ header gate secret ++ rest → Headed file secret rest gate
read_header gate file secret rest size is =
    let parts : file ≡ start_line ++ (secret ++ (gate ∷ rest)) =
    is ∙ append_assoc (start_line ++ secret) (gate ∷ []) rest ∙ append_assoc start_line secret (gate ∷ rest) in
    let sixteen : drop 16 file ≡ secret ++ (gate ∷ rest) = ap (λ (l : List ℕ). drop 16 l) parts ∙ drop_at start_line (secret ++ (gate ∷ rest)) 16 refl in
    let front : drop 48 file ≡ gate ∷ rest = sym (drop-drop 32 16 file) ∙ ap (λ (l : List ℕ). drop 32 l) sixteen ∙ drop_at secret (gate ∷ rest) 32 size in
    record {
      line = ap (λ (l : List ℕ). take 16 l) parts ∙ take_at start_line (secret ++ (gate ∷ rest)) 16 refl;
      gate_is = sym (sym (get_or-drop 48 file 0 0) ∙ ap (λ (l : List ℕ). slice_index l 0) front);
      secret_is = sym (ap (λ (l : List ℕ). take 32 l) sixteen ∙ take_at secret (gate ∷ rest) 32 size);
      rest_is = sym (sym (drop-drop 1 48 file) ∙ ap (λ (l : List ℕ). drop 1 l) front);
      long = omega (arith, ap length is, length-append (header gate secret) rest, length-header gate secret size);
    }

-- a file with this header and these records, and after them what is no whole record
record Parted (gate : ℕ) (secret : List ℕ) (bodies : List (List ℕ)) (run rest file : List ℕ) : Type 0 where
  secret_size : length secret ≡ 32
  is_run : IsRun bodies run
  is : file ≡ header gate secret ++ run ++ rest
  some : 1 ≤ length rest
  stops : Stops rest

-- the header of a file in parts
head_of : (gate : ℕ) (secret : List ℕ) (bodies : List (List ℕ)) (run rest file : List ℕ) → Parted gate secret bodies run rest file → Headed file secret (run ++ rest) gate
head_of gate secret bodies run rest file p = read_header gate file secret (run ++ rest) p.secret_size (p.is ∙ append_assoc (header gate secret) run rest)

-- each part of a file is the same
record SameParts (gate other_gate : ℕ) (secret other_secret : List ℕ) (bodies others : List (List ℕ)) (rest left : List ℕ) : Type 0 where
  gate_is : gate ≡ other_gate
  secret_is : secret ≡ other_secret
  bodies_are : bodies ≡ others
  rest_is : rest ≡ left

-- a file has its parts in one way
same_parts : (gate door : ℕ) (secret word : List ℕ) (bodies others : List (List ℕ)) (run walk rest left file : List ℕ)
    → Parted gate secret bodies run rest file → Parted door word others walk left file → SameParts gate door secret word bodies others rest left
same_parts gate door secret word bodies others run walk rest left file p q =
    let first = head_of gate secret bodies run rest file p in
    let second = head_of door word others walk left file q in
    let same = same_run bodies others run walk rest left p.is_run q.is_run (first.rest_is ∙ sym second.rest_is) p.some q.some p.stops q.stops in
    record {
      gate_is = first.gate_is ∙ sym second.gate_is;
      secret_is = first.secret_is ∙ sym second.secret_is;
      bodies_are = same.bodies_are;
      rest_is = same.rest_is;
    }

-- the parts of a journal
stands_parted : (version : ℕ) (secret : List ℕ) (bodies : List (List ℕ)) (file : List ℕ) (s : Stands version secret bodies file) → Parted s.gate secret bodies s.run (0 ∷ s.tail) file
stands_parted version secret bodies file s = record { secret_size = s.secret_size; is_run = s.is_run; is = s.is; some = omega arith; stops = closed_stops s.tail }

-- the parts of a file with a fault after its records
fault_parted : (v : ℕ) (secret : List ℕ) (bodies : List (List ℕ)) (place : ℕ) (file : List ℕ) (f : IsFaultAfter v secret bodies place file) → Parted f.version_gate secret bodies f.run (f.gate ∷ f.more) file
fault_parted v secret bodies place file f = record {
  secret_size = f.secret_size;
  is_run = f.is_run;
  is = f.is;
  some = omega arith;
  stops = fault_stops f.gate f.more (⊎_elim (λ short. inl short.0) (λ wrong. inr wrong.0) f.fault);
}

-- a version gate says one version
one_version : (gate v w : ℕ) → IsVersion gate v → IsVersion gate w → v ≡ w
one_version gate v w (inl (shut, v_is)) (inl (also, w_is)) = v_is ∙ sym w_is
one_version gate v w (inl (shut, v_is)) (inr (opened, w_is)) = absurd (opened shut)
one_version gate v w (inr (opened, v_is)) (inl (shut, w_is)) = absurd (opened shut)
one_version gate v w (inr (opened, v_is)) (inr (also, w_is)) = v_is ∙ sym w_is

-- a file has one list of bodies
pub one_meaning : (v w : ℕ) (secret word : List ℕ) (bodies others : List (List ℕ)) (file : List ℕ) → Stands v secret bodies file → Stands w word others file
    → (v ≡ w) × (secret ≡ word) × (bodies ≡ others)
one_meaning v w secret word bodies others file s t =
    let same = same_parts s.gate t.gate secret word bodies others s.run t.run (0 ∷ s.tail) (0 ∷ t.tail) file (stands_parted v secret bodies file s) (stands_parted w word others file t) in
    (one_version s.gate v w s.is_version (subst (λ (k : ℕ). IsVersion k w) (sym same.gate_is) t.is_version), same.secret_is, same.bodies_are)

-- a header that has a fault isn't whole
no_header_fault : (place gate : ℕ) (file secret rest : List ℕ) → Headed file secret rest gate → 1 ≤ length rest → IsHeaderFault place file → ⊥
no_header_fault place gate file secret rest h some (inr cut) = absurd (omega (arith, cut.size, cut.short, h.long, some))
no_header_fault place gate file secret rest h some (inl line) = ⊎_elim (λ few. absurd (omega (arith, few, line.within, h.long))) (λ other. other at) line.differs
  where
    at : slice_index file place ≡ slice_index start_line place
    at = sym (get_or-take 16 file place 0 line.within) ∙ ap (λ (l : List ℕ). slice_index l place) h.line

-- a journal has no fault
pub no_fault : (v place : ℕ) (secret : List ℕ) (bodies : List (List ℕ)) (file : List ℕ) → Stands v secret bodies file → IsFault place file → ⊥
no_fault v place secret bodies file s (inl head) =
    no_header_fault place s.gate file secret (s.run ++ 0 ∷ s.tail) (head_of s.gate secret bodies s.run (0 ∷ s.tail) file (stands_parted v secret bodies file s)) (omega (arith, length-append s.run (0 ∷ s.tail))) head
no_fault v place secret bodies file s (inr (w, word, others, f)) =
    let same = same_parts s.gate f.version_gate secret word bodies others s.run f.run (0 ∷ s.tail) (f.gate ∷ f.more) file (stands_parted v secret bodies file s) (fault_parted w word others place file f) in
    f.opened (sym (ap (λ (l : List ℕ). slice_index l 0) same.rest_is))

-- the first byte that differs
one_line : (p q : ℕ) (file : List ℕ) → p < q → IsLineFault p file → IsLineFault q file → ⊥
one_line p q file less first second =
    ⊎_elim (λ few. absurd (omega (arith, few, less, long))) (λ other. other at) first.differs
  where
    long : q ≤ length file
    long = omega (arith, second.within, ap length second.before, length-take q file, length-take q start_line)

    at : slice_index file p ≡ slice_index start_line p
    at = sym (get_or-take q file p 0 less) ∙ ap (λ (l : List ℕ). slice_index l p) second.before ∙ get_or-take q start_line p 0 less

-- a file that is cut after the start line has no fault in that line
line_or_cut : (p q : ℕ) (file : List ℕ) → IsLineFault p file → IsCutHeader q file → ⊥
line_or_cut p q file line cut = ⊎_elim (λ few. absurd (omega (arith, few, line.within, ap length cut.line, length-take 16 file))) (λ other. other at) line.differs
  where
    at : slice_index file p ≡ slice_index start_line p
    at = sym (get_or-take 16 file p 0 line.within) ∙ ap (λ (l : List ℕ). slice_index l p) cut.line

-- a header has one first fault
one_header_fault : (p q : ℕ) (file : List ℕ) → IsHeaderFault p file → IsHeaderFault q file → p ≡ q
one_header_fault p q file (inl a) (inr b) = absurd (line_or_cut p q file a b)
one_header_fault p q file (inr a) (inl b) = absurd (line_or_cut q p file b a)
one_header_fault p q file (inr a) (inr b) = sym a.size ∙ b.size
one_header_fault p q file (inl a) (inl b) =
    ⊎_elim (λ less. absurd (one_line p q file less a b)) (λ le. ⊎_elim (λ less. absurd (one_line q p file less b a)) (λ also. omega (arith, le, also)) (cases_lt q p)) (cases_lt p q)

-- a record that is cut has no length out of its range
short_or_wrong : (more : List ℕ) → IsShort more → IsOutOfRange more → ⊥
short_or_wrong more (inl few) (enough, wrong) = absurd (omega (arith, few, enough))
short_or_wrong more (inr (enough, fits, few)) (also, wrong) = wrong fits

-- a record has one fault
one_record_fault : (at : ℕ) (more : List ℕ) (size p q : ℕ) → IsRecordFault at more size p → IsRecordFault at more size q → p ≡ q
one_record_fault at more size p q (inl (a, p_is)) (inl (b, q_is)) = p_is ∙ sym q_is
one_record_fault at more size p q (inl (a, p_is)) (inr (b, q_is)) = absurd (short_or_wrong more a b)
one_record_fault at more size p q (inr (a, p_is)) (inl (b, q_is)) = absurd (short_or_wrong more b a)
one_record_fault at more size p q (inr (a, p_is)) (inr (b, q_is)) = p_is ∙ sym q_is

-- a file has one first fault
pub one_fault : (p q : ℕ) (file : List ℕ) → IsFault p file → IsFault q file → p ≡ q
one_fault p q file (inl a) (inl b) = one_header_fault p q file a b
one_fault p q file (inl a) (inr (w, word, others, b)) =
    absurd (no_header_fault p b.version_gate file word (b.run ++ b.gate ∷ b.more) (head_of b.version_gate word others b.run (b.gate ∷ b.more) file (fault_parted w word others q file b)) (omega (arith, length-append b.run (b.gate ∷ b.more))) a)
one_fault p q file (inr (v, secret, bodies, a)) (inl b) =
    absurd (no_header_fault q a.version_gate file secret (a.run ++ a.gate ∷ a.more) (head_of a.version_gate secret bodies a.run (a.gate ∷ a.more) file (fault_parted v secret bodies p file a)) (omega (arith, length-append a.run (a.gate ∷ a.more))) b)
one_fault p q file (inr (v, secret, bodies, a)) (inr (w, word, others, b)) =
    let same = same_parts a.version_gate b.version_gate secret word bodies others a.run b.run (a.gate ∷ a.more) (b.gate ∷ b.more) file (fault_parted v secret bodies p file a) (fault_parted w word others q file b) in
    let more : a.more ≡ b.more = ap (λ (l : List ℕ). drop 1 l) same.rest_is in
    one_record_fault (place_after bodies) a.more (length file) p q a.fault
    (subst (λ (l : List (List ℕ)). IsRecordFault (place_after l) a.more (length file) q) (sym same.bodies_are) (subst (λ (l : List ℕ). IsRecordFault (place_after others) l (length file) q) (sym more) b.fault))

-- of two readings of the same bytes as records one goes on where the other ends
either_run : (bodies others : List (List ℕ)) (run walk rest left : List ℕ) → IsRun bodies run → IsRun others walk → run ++ rest ≡ walk ++ left → BeginWith bodies others ⊎ BeginWith others bodies
either_run [] others run walk rest left is also same = inr (others, refl)
either_run (body ∷ bodies) [] run walk rest left is also same = inl (body ∷ bodies, refl)
either_run (body ∷ bodies) (other ∷ others) run walk rest left (gate, further, opened, fits, is, bodies_run) (door, beyond, wide, suits, also, others_run) same =
    let two = two_entries gate door run walk body other further beyond rest left fits suits is also same in
    ⊎_elim (λ (more, longer). inl (more, ap (λ (b : List ℕ). b ∷ bodies) two.0 ∙ ap (λ (l : List (List ℕ)). other ∷ l) longer))
    (λ (more, longer). inr (more, ap (λ (b : List ℕ). b ∷ others) (sym two.0) ∙ ap (λ (l : List (List ℕ)). body ∷ l) longer))
    (either_run bodies others further beyond rest left bodies_run others_run two.1)

-- and where one stops at what is no whole record, it is the longer
stopped_run : (bodies others : List (List ℕ)) (run walk rest left : List ℕ) → IsRun bodies run → IsRun others walk → run ++ rest ≡ walk ++ left → Stops rest → 1 ≤ length left → BeginWith bodies others
unfolding Stops
stopped_run bodies [] run walk rest left is also same stops some = (bodies, refl)
stopped_run [] (body ∷ others) run walk rest left is (gate, further, opened, fits, also, others_run) same stops some =
    absurd (stops gate body (further ++ left) opened fits
    (sym (ap (λ (l : List ℕ). l ++ rest) is) ∙ same ∙ ap (λ (l : List ℕ). l ++ left) also ∙ append_assoc (entry gate body) further left) (omega (arith, some, length-append further left)))
stopped_run (body ∷ bodies) (other ∷ others) run walk rest left (gate, further, opened, fits, is, bodies_run) (door, beyond, wide, suits, also, others_run) same stops some =
    let two = two_entries gate door run walk body other further beyond rest left fits suits is also same in
    let (more, longer) = stopped_run bodies others further beyond rest left bodies_run others_run two.1 stops some in
    (more, ap (λ (b : List ℕ). b ∷ bodies) two.0 ∙ ap (λ (l : List (List ℕ)). other ∷ l) longer)

-- the header of a file that begins with records
begins_head : (v : ℕ) (secret : List ℕ) (bodies : List (List ℕ)) (file : List ℕ) (b : Begins v secret bodies file) → Headed file secret (b.run ++ b.rest) b.gate
begins_head v secret bodies file b = read_header b.gate file secret (b.run ++ b.rest) b.secret_size (b.is ∙ append_assoc (header b.gate secret) b.run b.rest)

-- a whole header has no fault
pub no_header : (v place : ℕ) (secret : List ℕ) (bodies : List (List ℕ)) (file : List ℕ) → Begins v secret bodies file → IsHeaderFault place file → ⊥
no_header v place secret bodies file b fault =
    no_header_fault place b.gate file secret (b.run ++ b.rest) (begins_head v secret bodies file b) (omega (arith, b.has_gate, length-append b.run b.rest)) fault

-- two beginnings of one file
pub one_begin : (v w : ℕ) (secret word : List ℕ) (bodies others : List (List ℕ)) (file : List ℕ) → Begins v secret bodies file → Begins w word others file
    → (v ≡ w) × (secret ≡ word) × (BeginWith bodies others ⊎ BeginWith others bodies)
one_begin v w secret word bodies others file a b =
    let first = begins_head v secret bodies file a in
    let second = begins_head w word others file b in
    let gate = first.gate_is ∙ sym second.gate_is in (
      one_version a.gate v w a.is_version (subst (λ (k : ℕ). IsVersion k w) (sym gate) b.is_version),
      first.secret_is ∙ sym second.secret_is,
      either_run bodies others a.run b.run a.rest b.rest a.is_run b.is_run (first.rest_is ∙ sym second.rest_is),
    )

-- a journal has each record that it begins with
pub stands_begin : (v w : ℕ) (secret word : List ℕ) (bodies others : List (List ℕ)) (file : List ℕ) → Stands v secret bodies file → Begins w word others file → BeginWith bodies others
stands_begin v w secret word bodies others file s b =
    let first = head_of s.gate secret bodies s.run (0 ∷ s.tail) file (stands_parted v secret bodies file s) in
    stopped_run bodies others s.run b.run (0 ∷ s.tail) b.rest s.is_run b.is_run (first.rest_is ∙ sym (begins_head w word others file b).rest_is) (closed_stops s.tail) b.has_gate

-- and so has a file with a fault before it
pub fault_begin : (v w place : ℕ) (secret word : List ℕ) (bodies others : List (List ℕ)) (file : List ℕ) → IsFaultAfter v secret bodies place file → Begins w word others file → BeginWith bodies others
fault_begin v w place secret word bodies others file f b =
    let parted = fault_parted v secret bodies place file f in
    let first = head_of f.version_gate secret bodies f.run (f.gate ∷ f.more) file parted in
    stopped_run bodies others f.run b.run (f.gate ∷ f.more) b.rest f.is_run b.is_run (first.rest_is ∙ sym (begins_head w word others file b).rest_is) parted.stops b.has_gate

-- a journal begins with its records
pub begins_stands : (v : ℕ) (secret : List ℕ) (bodies : List (List ℕ)) (file : List ℕ) → Stands v secret bodies file → Begins v secret bodies file
begins_stands v secret bodies file s = record { gate = s.gate; run = s.run; rest = 0 ∷ s.tail; is_version = s.is_version; secret_size = s.secret_size; is_run = s.is_run; is = s.is; has_gate = omega arith }

-- and so does a file with a fault after them
pub begins_fault : (v place : ℕ) (secret : List ℕ) (bodies : List (List ℕ)) (file : List ℕ) → IsFaultAfter v secret bodies place file → Begins v secret bodies file
begins_fault v place secret bodies file f = record { gate = f.version_gate; run = f.run; rest = f.gate ∷ f.more; is_version = f.is_version; secret_size = f.secret_size; is_run = f.is_run; is = f.is; has_gate = omega arith }
