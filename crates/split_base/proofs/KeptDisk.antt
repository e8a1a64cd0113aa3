-- A disk in memory after one call more.
use Rattle.std.proofs.Common.{◌≡◌, ◌⊎◌, ⊎_elim, inl, inr, ℕ, ◌+◌, ◌-◌, ◌≤◌, ◌<◌, List, [], ◌∷◌, ◌++◌, length, take, drop, replicate, refl, sym, ◌∙◌, ap, subst, arith, length-append, length-drop}
use Rattle.std.proofs.lemmas.List.{append-nil, nil_from_length, take-append-le, drop-append-le, take_all, drop_all, take-replicate, length-replicate}
use Rattle.std.proofs.Math.Seq.{take-append-add}
use Rattle.split_base.specs.declared.memory.disk.Call.{Call}
use Rattle.split_base.specs.declared.memory.disk.Call.TheVariants as call
use Rattle.split_base.specs.Disk.{AddsNone, Only, IsWritten, Rests, MayTear}
use Rattle.split_base.specs.Past.{Act, Wrote, Synced, State, DiskState, after_write, after, after_all, stable_file, images_of, state_of, seen_of, images_at, moment_of, left_of, after_call, after_act}
use Rattle.split_base.specs.PastLaws.{over, le_or_lt, seen_image}
use Rattle.split_base.proofs.Images.{after_push, elapses_push, elapses_same}
use Rattle.split_base.specs.Replay.{acts_of, bytes_of}

-- the calls with one more
pub acts_push : (calls : List Call) (bytes : List ℕ) (call : Call) (more : List ℕ) → bytes_of calls ≡ length bytes → acts_of (calls ++ call ∷ []) (bytes ++ more) ≡ acts_of calls bytes ++ acts_of (call ∷ []) more
acts_push [] bytes call more size = ap (λ (l : List ℕ). acts_of (call ∷ []) (l ++ more)) (nil_from_length bytes (sym size))
acts_push (call.Wrote place count ∷ calls) bytes call more size =
    let fits : count ≤ length bytes = omega (arith, size) in
    let front : take count (bytes ++ more) ≡ take count bytes = take-append-le count bytes more fits in
    let back : drop count (bytes ++ more) ≡ drop count bytes ++ more = drop-append-le count bytes more fits in
    let rest = acts_push calls (drop count bytes) call more (omega (arith, size, length-drop count bytes)) in
    ap (λ (l : List ℕ). Wrote place l ∷ acts_of (calls ++ call ∷ []) (drop count (bytes ++ more))) front
    ∙ ap (λ (l : List ℕ). Wrote place (take count bytes) ∷ acts_of (calls ++ call ∷ []) l) back
    ∙ ap (λ (l : List Act). Wrote place (take count bytes) ∷ l) rest
acts_push (call.Synced ∷ calls) bytes call more size = ap (λ (l : List Act). Synced ∷ l) (acts_push calls bytes call more size)

-- how many bytes the calls have written with one call more
pub bytes_push : (calls : List Call) (call : Call) → bytes_of (calls ++ call ∷ []) ≡ bytes_of calls + bytes_of (call ∷ [])
bytes_push [] call = omega arith
bytes_push (call.Wrote place count ∷ calls) call = omega (arith, bytes_push calls call)
bytes_push (call.Synced ∷ calls) call = bytes_push calls call

-- a call that changed nothing
pub rests_same : (d e : DiskState) → e.first ≡ d.first → e.acts ≡ d.acts → Rests seen_of images_at moment_of left_of d e
rests_same d e first acts =
    let P : List Act → Type 0 = λ l. Rests seen_of images_at moment_of left_of d (record e { first = d.first; acts = l }) in
    let Q : List ℕ → Type 0 = λ f. Rests seen_of images_at moment_of left_of d (record e { first = f }) in
    subst Q (sym first) (subst P (sym acts) (record { same = refl; adds_none = λ c image. image; time = elapses_same d.first d.acts }))

-- the state after a call of the list of calls
pub state_push : (first : List ℕ) (calls new : List Call) (bytes whole more : List ℕ) (call : Call) (act : Act) → bytes_of calls ≡ length bytes → whole ≡ bytes ++ more
    → new ≡ calls ++ call ∷ [] → acts_of (call ∷ []) more ≡ act ∷ [] → acts_of new whole ≡ acts_of calls bytes ++ act ∷ []
state_push first calls new bytes whole more call act size bytes_is calls_is act_is =
    ap (λ (l : List Call). acts_of l whole) calls_is
    ∙ ap (λ (l : List ℕ). acts_of (calls ++ call ∷ []) l) bytes_is
    ∙ acts_push calls bytes call more size
    ∙ ap (λ (l : List Act). acts_of calls bytes ++ l) act_is

-- the state after one act more
pub state_after : (first : List ℕ) (acts new : List Act) (act : Act) → new ≡ acts ++ act ∷ [] → after_all (stable_file first) new ≡ after (after_all (stable_file first) acts) act
state_after first acts new act is = ap (λ (l : List Act). after_all (stable_file first) l) is ∙ after_push (stable_file first) acts act

-- a sync
pub sync_rests : (d : DiskState) (taken : ℕ) → Rests seen_of images_at moment_of left_of d (after_act (after_call d) Synced taken)
sync_rests d taken =
    let s : state_of (after_act (after_call d) Synced taken) ≡ after (state_of d) Synced = after_push (stable_file d.first) d.acts Synced in
    let adds_none : AddsNone (images_at d) (images_at (after_act (after_call d) Synced taken)) =
    λ c image. (let is : c ≡ seen_of d = subst (λ (s : State). images_of s c) s image in subst (images_at d) (sym is) (seen_image d)) in
    let time = elapses_push d.first d.acts Synced in
    record {
      same = ap (λ (s : State). s.seen) s;
      adds_none = adds_none;
      time = record {
        later = time.later;
        nothing_else = λ t c le left. ⊎_elim (λ past. inl past) (λ now. inr (adds_none c now)) (time.nothing_else t c le left);
        keeps = time.keeps;
      };
    }

-- after a sync there is one image, what a read gives
pub sync_durable : (d : DiskState) (taken : ℕ) → Only (seen_of d) (images_at (after_act (after_call d) Synced taken))
sync_durable d taken c image = subst (λ (s : State). images_of s c) (after_push (stable_file d.first) d.acts Synced) image

-- a write
pub written_is : (old bytes : List ℕ) (place : ℕ) → IsWritten old place bytes (after_write old place bytes)
written_is old [] place = refl
written_is old (b ∷ bytes) place = record { gap = replicate (place - length old) 0; gap_size = length-replicate {A = ℕ} (place - length old) 0; is = refl }

-- the file after a write holds its bytes
pub write_written : (d : DiskState) (place : ℕ) (bytes : List ℕ) (taken : ℕ) → IsWritten (seen_of d) place bytes (seen_of (after_act (after_call d) (Wrote place bytes) taken))
write_written d place bytes taken =
    let s : state_of (after_act (after_call d) (Wrote place bytes) taken) ≡ after (state_of d) (Wrote place bytes) = after_push (stable_file d.first) d.acts (Wrote place bytes) in
    subst (IsWritten (seen_of d) place bytes) (sym (ap (λ (s : State). s.seen) s)) (written_is (seen_of d) bytes place)

-- what a crash may leave after a write is what it might have left before, torn by it or not
pub write_tears : (d : DiskState) (place : ℕ) (bytes : List ℕ) (taken : ℕ) → MayTear images_at moment_of left_of place (length bytes) d (after_act (after_call d) (Wrote place bytes) taken)
write_tears d place bytes taken = record {
  crash = λ c image. subst (λ (s : State). images_of s c) (after_push (stable_file d.first) d.acts (Wrote place bytes)) image;
  time = elapses_push d.first d.acts (Wrote place bytes);
}

-- a file that was filled up with zeros and then written over
pub over_grown : (old bytes : List ℕ) (place end : ℕ) → end ≡ place + length bytes
    → take place (old ++ replicate (end - length old) 0) ++ bytes ++ drop (place + length bytes) (old ++ replicate (end - length old) 0) ≡ over old place bytes
over_grown old bytes place end is =
    ap (λ (l : List ℕ). l ++ bytes ++ drop (place + length bytes) grown) (front (le_or_lt place (length old)))
    ∙ ap (λ (l : List ℕ). take place old ++ replicate (place - length old) 0 ++ bytes ++ l) (back (le_or_lt (length old) (place + length bytes)))
  where
    none : (n : ℕ) → n ≡ 0 → replicate {A = ℕ} n 0 ≡ []
    none n is = ap (λ (k : ℕ). replicate {A = ℕ} k 0) is

    sum : (a b : ℕ) → a ≤ b → b ≡ a + (b - a)
    sum a b le = omega (arith, le)

    zeros : List ℕ
    zeros = replicate (end - length old) 0

    grown : List ℕ
    grown = old ++ replicate (end - length old) 0

    front : (place ≤ length old) ⊎ (length old < place) → take place grown ≡ take place old ++ replicate (place - length old) 0
    front (inl within) =
        take-append-le place old zeros within
        ∙ sym (append-nil (take place old))
        ∙ ap (λ (l : List ℕ). take place old ++ l) (sym (none (place - length old) (omega (arith, within))))
    front (inr past) =
        ap (λ (n : ℕ). take n grown) (sum (length old) place (omega (arith, past)))
        ∙ take-append-add old zeros (place - length old)
        ∙ ap (λ (l : List ℕ). old ++ l) (take-replicate (place - length old) (end - length old) 0 (omega (arith, is, past)))
        ∙ ap (λ (l : List ℕ). l ++ replicate (place - length old) 0) (sym (take_all place old (omega (arith, past))))

    back : (length old ≤ place + length bytes) ⊎ (place + length bytes < length old) → drop (place + length bytes) grown ≡ drop (place + length bytes) old
    back (inl past) =
        drop_all (place + length bytes) grown (omega (arith, is, past, length-append old zeros, length-replicate {A = ℕ} (end - length old) 0))
        ∙ sym (drop_all (place + length bytes) old past)
    back (inr within) =
        ap (λ (l : List ℕ). drop (place + length bytes) (old ++ l)) (none (end - length old) (omega (arith, is, within)))
        ∙ ap (λ (l : List ℕ). drop (place + length bytes) l) (append-nil old)

-- a write of some bytes is a write over the file
pub over_is_written : (old bytes : List ℕ) (place : ℕ) → 1 ≤ length bytes → over old place bytes ≡ after_write old place bytes
over_is_written old [] place some = absurd (omega (arith, some))
over_is_written old (b ∷ bytes) place some = refl
