-- What the two writes of an append may leave.
use Rattle.std.proofs.Common.{◌≡◌, ◌≢◌, inl, inr, ℕ, ◌+◌, List, [], ◌∷◌, ◌++◌, length, drop, refl, sym, ◌∙◌, ap, subst, arith, append_assoc, length-append, length-drop}
use Rattle.std.proofs.lemmas.Bool.{cases_eq}
use Rattle.std.proofs.lemmas.List.{append-nil, nil_from_length}
use Rattle.std.proofs.lemmas.List.Sums.{sum_by-append, sum_by-cons}
use Rattle.std.specs.List.{sum_by}
use Rattle.std.specs.Int.{to_le_bytes, w32}
use Rattle.split_base.specs.Disk.{IsWritten, IsTorn, Tears, Each, Only}
use Rattle.gate_log.proofs.Pieces.{kept_front, written_at, OneTorn, torn_one}
use Rattle.gate_log.specs.Records.{start_line, header, IsVersion, IsBody, entry, IsRun, Stands, HoldsRecords, place_after, IsBeforeOrAfter}

-- the length of a body is written in 4 bytes
pub length-le : (n : ℕ) → length (to_le_bytes w32 n) ≡ 4
length-le n = refl

-- the length of a record
pub length-entry : (gate : ℕ) (body : List ℕ) → length (entry gate body) ≡ 5 + length body
length-entry gate body = omega (arith, length-append (to_le_bytes w32 (length body)) body, length-le (length body))

-- the length of a run of records
pub length-run : (bodies : List (List ℕ)) (run : List ℕ) → IsRun bodies run → length run ≡ sum_by (λ body. 5 + length body) bodies
length-run [] run is = ap length is
length-run (body ∷ bodies) run (gate, more, opened, fits, is, rest) =
    omega (arith, ap length is, length-append (entry gate body) more, length-entry gate body, length-run bodies more rest, sum_by-cons (λ (b : List ℕ). 5 + length b) body bodies)

-- a run of records with one more
pub run_push : (bodies : List (List ℕ)) (run body : List ℕ) (gate : ℕ) → IsRun bodies run → gate ≢ 0 → IsBody body → IsRun (bodies ++ body ∷ []) (run ++ entry gate body)
run_push [] run body gate is opened fits = (gate, [], opened, fits, ap (λ (l : List ℕ). l ++ entry gate body) is ∙ sym (append-nil (entry gate body)), refl)
run_push (first ∷ bodies) run body gate (g, more, o, f, is, rest) opened fits =
    (g, more ++ entry gate body, o, f, ap (λ (l : List ℕ). l ++ entry gate body) is ∙ append_assoc (entry g first) more (entry gate body), run_push bodies more body gate rest opened fits)

-- the place after one record more
pub place_push : (bodies : List (List ℕ)) (body : List ℕ) → place_after (bodies ++ body ∷ []) ≡ place_after bodies + 5 + length body
place_push bodies body = omega (arith, sum_by-append (λ (b : List ℕ). 5 + length b) bodies (body ∷ []))

-- the length of a header without the first gate
pub length-header : (gate : ℕ) (secret : List ℕ) → length secret ≡ 32 → length (header gate secret) ≡ 49
length-header gate secret size = omega (arith, length-append (start_line ++ secret) (gate ∷ []), length-append start_line secret)

-- the file with a record after the closed gate
pub record Staged (version : ℕ) (secret : List ℕ) (bodies : List (List ℕ)) (body file : List ℕ) : Type 0 where
  pub gate : ℕ
  pub run : List ℕ
  pub tail : List ℕ
  pub is_version : IsVersion gate version
  pub secret_size : length secret ≡ 32
  pub is_run : IsRun bodies run
  pub is : file ≡ header gate secret ++ run ++ 0 ∷ (to_le_bytes w32 (length body) ++ body ++ 0 ∷ tail)

module _ (version : ℕ) (secret : List ℕ) (bodies : List (List ℕ)) (p : ℕ) (at : p ≡ place_after bodies) where
  -- a header and the records of the bodies end at the place after them
  pub size : (gate : ℕ) (run : List ℕ) → length secret ≡ 32 → IsRun bodies run → length (header gate secret ++ run) ≡ p
  size gate run secret_size is_run = omega (arith, length-append (header gate secret) run, length-header gate secret secret_size, length-run bodies run is_run, at)

  -- what comes after the closed gate can be cut off
  gate_split : (gate : ℕ) (run tail : List ℕ) → header gate secret ++ run ++ 0 ∷ tail ≡ (header gate secret ++ run ++ 0 ∷ []) ++ tail
  gate_split gate run tail = sym (append_assoc (header gate secret ++ run) (0 ∷ []) tail)

  -- with one byte more the bytes end after the closed gate
  behind_gate : (gate : ℕ) (run : List ℕ) → length secret ≡ 32 → IsRun bodies run → length (header gate secret ++ run ++ 0 ∷ []) ≡ p + 1
  behind_gate gate run secret_size is_run = omega (arith, length-append (header gate secret ++ run) (0 ∷ []), size gate run secret_size is_run)

  -- the closed gate is in each outcome of the first write
  pub torn_behind : (n : ℕ) (d c : List ℕ) → Stands version secret bodies d → IsTorn (p + 1) n d c → Stands version secret bodies c
  torn_behind n d c s torn = record {
    run = s.run;
    tail = drop (p + 1) c;
    gate = s.gate;
    is_version = s.is_version;
    secret_size = s.secret_size;
    is_run = s.is_run;
    is = kept_front (header s.gate secret ++ s.run ++ 0 ∷ []) s.tail c (p + 1) n (behind_gate s.gate s.run s.secret_size s.is_run)
        (subst (λ (l : List ℕ). IsTorn (p + 1) n l c) (s.is ∙ gate_split s.gate s.run s.tail) torn)
        ∙ append_assoc (header s.gate secret ++ s.run) (0 ∷ []) (drop (p + 1) c);
  }

  -- a record that was written after the closed gate is there, with the gate still closed
  pub written_behind : (body d new : List ℕ) → Stands version secret bodies d → IsWritten d (p + 1) (to_le_bytes w32 (length body) ++ body ++ 0 ∷ []) new → Staged version secret bodies body new
  written_behind body d new s w =
      let piece = to_le_bytes w32 (length body) ++ body ++ 0 ∷ [] in
      let left = drop (length piece) s.tail in
      record {
        run = s.run;
        tail = left;
        gate = s.gate;
        is_version = s.is_version;
        secret_size = s.secret_size;
        is_run = s.is_run;
        is = written_at (header s.gate secret ++ s.run ++ 0 ∷ []) s.tail piece new (p + 1) (behind_gate s.gate s.run s.secret_size s.is_run)
            (subst (λ (l : List ℕ). IsWritten l (p + 1) piece new) (s.is ∙ gate_split s.gate s.run s.tail) w)
            ∙ append_assoc (header s.gate secret ++ s.run) (0 ∷ []) (piece ++ left)
            ∙ ap (λ (l : List ℕ). header s.gate secret ++ s.run ++ 0 ∷ l) (append_assoc (to_le_bytes w32 (length body) ++ body) (0 ∷ []) left);
      }

  -- a whole record after any gate counts or it doesn't
  any_gate : (body run tail : List ℕ) (first gate : ℕ) (c : List ℕ) → IsVersion first version → length secret ≡ 32 → IsRun bodies run → IsBody body
      → c ≡ header first secret ++ run ++ gate ∷ (to_le_bytes w32 (length body) ++ body ++ 0 ∷ tail) → IsBeforeOrAfter version secret bodies body c
  any_gate body run tail first gate c is_version secret_size is_run fits is = elim (cases_eq gate 0) [
    | inl shut ↦ inl record {
      run = run;
      tail = to_le_bytes w32 (length body) ++ body ++ 0 ∷ tail;
      gate = first;
      is_version = is_version;
      secret_size = secret_size;
      is_run = is_run;
      is = is ∙ ap (λ (g : ℕ). header first secret ++ run ++ g ∷ (to_le_bytes w32 (length body) ++ body ++ 0 ∷ tail)) shut;
    }
    | inr opened ↦ inr (opens body run tail first gate c is_version secret_size is_run fits opened is)
  ]
    where
      opens : (body run tail : List ℕ) (first gate : ℕ) (c : List ℕ) → IsVersion first version → length secret ≡ 32 → IsRun bodies run → IsBody body → gate ≢ 0
          → c ≡ header first secret ++ run ++ gate ∷ (to_le_bytes w32 (length body) ++ body ++ 0 ∷ tail) → Stands version secret (bodies ++ body ∷ []) c
      opens body run tail first gate c is_version secret_size is_run fits opened is = record {
        run = run ++ entry gate body;
        tail = tail;
        gate = first;
        is_version = is_version;
        secret_size = secret_size;
        is_run = run_push bodies run body gate is_run opened fits;
        is = is
            ∙ sym (append_assoc (header first secret ++ run) (entry gate body) (0 ∷ tail))
            ∙ ap (λ (l : List ℕ). l ++ 0 ∷ tail) (append_assoc (header first secret) run (entry gate body));
      }

  -- bytes after those of a record are bytes after its closed gate
  regroup : (body tail more : List ℕ) → (to_le_bytes w32 (length body) ++ body ++ 0 ∷ tail) ++ more ≡ to_le_bytes w32 (length body) ++ body ++ 0 ∷ (tail ++ more)
  regroup body tail more = append_assoc (to_le_bytes w32 (length body) ++ body) (0 ∷ tail) more

  -- a torn write of the gate leaves the file of before or the one with the record
  pub torn_gate : (body d c : List ℕ) → IsBody body → Staged version secret bodies body d → IsTorn p 1 d c → IsBeforeOrAfter version secret bodies body c
  torn_gate body d c fits s torn =
      let rest = to_le_bytes w32 (length body) ++ body ++ 0 ∷ s.tail in
      let one : OneTorn (header s.gate secret ++ s.run) rest c = torn_one (header s.gate secret ++ s.run) rest c 0 p (size s.gate s.run s.secret_size s.is_run) (subst (λ (l : List ℕ). IsTorn p 1 l c) s.is torn) in
      any_gate body s.run (s.tail ++ one.more) s.gate one.byte c s.is_version s.secret_size s.is_run fits
      (one.is ∙ ap (λ (l : List ℕ). header s.gate secret ++ s.run ++ one.byte ∷ l) (regroup body s.tail one.more))

  -- with its gate open the record is one of those that the file has
  pub written_gate : (body d new : List ℕ) → IsBody body → Staged version secret bodies body d → IsWritten d p (1 ∷ []) new → Stands version secret (bodies ++ body ∷ []) new
  written_gate body d new fits s w =
      let rest = to_le_bytes w32 (length body) ++ body ++ 0 ∷ s.tail in
      let is : new ≡ header s.gate secret ++ s.run ++ 1 ∷ rest = written_at (header s.gate secret ++ s.run) (0 ∷ rest) (1 ∷ []) new p (size s.gate s.run s.secret_size s.is_run) (subst (λ (l : List ℕ). IsWritten l p (1 ∷ []) new) s.is w) in
      record {
        run = s.run ++ entry 1 body;
        tail = s.tail;
        gate = s.gate;
        is_version = s.is_version;
        secret_size = s.secret_size;
        is_run = run_push bodies s.run body 1 s.is_run (λ e. absurd (omega arith)) fits;
        is = is
            ∙ sym (append_assoc (header s.gate secret ++ s.run) (entry 1 body) (0 ∷ s.tail))
            ∙ ap (λ (l : List ℕ). l ++ 0 ∷ s.tail) (append_assoc (header s.gate secret) s.run (entry 1 body));
      }

-- the two stretches of an append, each a write and a sync
module _ (images mid : List ℕ → Type 0) (version : ℕ) (secret : List ℕ) (bodies : List (List ℕ)) (body : List ℕ) (p : ℕ) (at : p ≡ place_after bodies) where
  -- whatever the first write leaves has the bodies of before
  pub first_leaves : (n : ℕ) → Each images (Stands version secret bodies) → (c : List ℕ) → Tears images (p + 1) n c → Stands version secret bodies c
  first_leaves n each c (d, was, torn) = torn_behind version secret bodies p at n d c (each d was) torn

  -- after the first write and sync each image has the record after the closed gate
  pub first_done : (seen next piece : List ℕ) → Each images (Stands version secret bodies) → images seen → piece ≡ to_le_bytes w32 (length body) ++ body ++ 0 ∷ []
      → IsWritten seen (p + 1) piece next → Only next mid → Each mid (Staged version secret bodies body)
  first_done seen next piece each now is written only c left =
      let staged : Staged version secret bodies body next = written_behind version secret bodies p at body seen next (each seen now) (subst (λ (l : List ℕ). IsWritten seen (p + 1) l next) is written) in
      subst (Staged version secret bodies body) (sym (only c left)) staged

  -- whatever the second write leaves has the bodies of before or those with one more
  pub second_leaves : IsBody body → Each mid (Staged version secret bodies body) → (c : List ℕ) → Tears mid p 1 c → IsBeforeOrAfter version secret bodies body c
  second_leaves fits each c (d, was, torn) = torn_gate version secret bodies p at body d c fits (each d was) torn

  -- after the second write and sync each image has the bodies with one more
  pub second_done : (seen next : List ℕ) (last : List ℕ → Type 0) → IsBody body → Each mid (Staged version secret bodies body) → mid seen → IsWritten seen p (1 ∷ []) next → Only next last
      → Each last (Stands version secret (bodies ++ body ∷ []))
  second_done seen next last fits each now written only c left =
      subst (Stands version secret (bodies ++ body ∷ [])) (sym (only c left)) (written_gate version secret bodies p at body seen next fits (each seen now) written)

-- the version gate of a journal
module _ (secret : List ℕ) (bodies : List (List ℕ)) where
  -- the version gate comes after the first line and the secret
  at_gate : (gate : ℕ) (run rest : List ℕ) → header gate secret ++ run ++ rest ≡ (start_line ++ secret) ++ gate ∷ (run ++ rest)
  at_gate gate run rest = append_assoc (header gate secret) run rest ∙ append_assoc (start_line ++ secret) (gate ∷ []) (run ++ rest)

  -- the first line and the secret have 48 bytes
  front_size : length secret ≡ 32 → length (start_line ++ secret) ≡ 48
  front_size size = omega (arith, length-append start_line secret)

  -- whatever byte its version gate has, a file holds its records
  any_version : (gate : ℕ) (run tail c : List ℕ) → length secret ≡ 32 → IsRun bodies run → c ≡ header gate secret ++ run ++ 0 ∷ tail → HoldsRecords secret bodies c
  any_version gate run tail c secret_size is_run is = elim (cases_eq gate 0) [
    | inl shut ↦ (1, record { gate = gate; run = run; tail = tail; is_version = inl (shut, refl); secret_size = secret_size; is_run = is_run; is = is })
    | inr opened ↦ (2, record { gate = gate; run = run; tail = tail; is_version = inr (opened, refl); secret_size = secret_size; is_run = is_run; is = is })
  ]

  -- a torn write of the version gate leaves the records
  pub torn_version : (version : ℕ) (d c : List ℕ) → Stands version secret bodies d → IsTorn 48 1 d c → HoldsRecords secret bodies c
  torn_version version d c s torn =
      let behind = s.run ++ 0 ∷ s.tail in
      let one : OneTorn (start_line ++ secret) behind c =
      torn_one (start_line ++ secret) behind c s.gate 48 (front_size s.secret_size) (subst (λ (l : List ℕ). IsTorn 48 1 l c) (s.is ∙ at_gate s.gate s.run (0 ∷ s.tail)) torn) in
      any_version one.byte s.run (s.tail ++ one.more) c s.secret_size s.is_run
      (one.is ∙ ap (λ (l : List ℕ). (start_line ++ secret) ++ one.byte ∷ l) (append_assoc s.run (0 ∷ s.tail) one.more) ∙ sym (at_gate one.byte s.run (0 ∷ (s.tail ++ one.more))))

  -- with its version gate open a file is of version 2
  pub written_version : (version : ℕ) (d new : List ℕ) → Stands version secret bodies d → IsWritten d 48 (1 ∷ []) new → Stands 2 secret bodies new
  written_version version d new s w =
      let behind = s.run ++ 0 ∷ s.tail in
      record {
        gate = 1;
        run = s.run;
        tail = s.tail;
        is_version = inr ((λ e. absurd (omega arith)), refl);
        secret_size = s.secret_size;
        is_run = s.is_run;
        is = written_at (start_line ++ secret) (s.gate ∷ behind) (1 ∷ []) new 48 (front_size s.secret_size) (subst (λ (l : List ℕ). IsWritten l 48 (1 ∷ []) new) (s.is ∙ at_gate s.gate s.run (0 ∷ s.tail)) w)
            ∙ sym (at_gate 1 s.run (0 ∷ s.tail));
      }

-- a header and a closed gate, written into an empty file
pub fresh_bytes : (secret file piece new : List ℕ) → length file ≡ 0 → piece ≡ header 1 secret ++ 0 ∷ [] → IsWritten file 0 piece new → new ≡ header 1 secret ++ 0 ∷ []
fresh_bytes secret file piece new none is written =
    let empty : drop (length piece) file ≡ [] = nil_from_length (drop (length piece) file) (omega (arith, length-drop (length piece) file, none)) in
    written_at [] file piece new 0 refl written ∙ ap (λ (l : List ℕ). piece ++ l) empty ∙ append-nil piece ∙ is

-- an empty journal has no bodies
pub fresh_stands : (secret new : List ℕ) → length secret ≡ 32 → new ≡ header 1 secret ++ 0 ∷ [] → Stands 2 secret [] new
fresh_stands secret new size is = record {
  gate = 1;
  run = [];
  tail = [];
  is_version = inr ((λ e. absurd (omega arith)), refl);
  secret_size = size;
  is_run = refl;
  is = is ∙ ap (λ (l : List ℕ). l ++ 0 ∷ []) (sym (append-nil (header 1 secret)));
}
