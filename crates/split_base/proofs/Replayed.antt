-- A file made anew from the calls of a disk, with the first of the writes since the last sync.
use Rattle.std.proofs.Common.{◌≡◌, ◌⊎◌, inl, inr, ℕ, ◌+◌, ◌-◌, ◌≤◌, ◌<◌, min, Bool, true, false, List, [], ◌∷◌, length, take, drop, refl, sym, ◌∙◌, ap, arith, length-take, length-drop}
use Rattle.std.proofs.lemmas.List.{take_all}
use Rattle.split_base.specs.declared.memory.disk.Call.{Call}
use Rattle.split_base.specs.declared.memory.disk.Call.TheVariants as call
use Rattle.split_base.specs.Past.{Act, Wrote, Synced, State, Write, after_write, after, after_all, stable_file, total, on_top}
use Rattle.split_base.specs.PastLaws.{le_or_lt, length_over}
use Rattle.split_base.proofs.Images.{written_fits, written_no_shorter}
use Rattle.split_base.specs.Replay.{acts_of, bytes_of, after_bytes}

-- how many bytes these calls have written
size_of : List Act → ℕ
size_of [] = 0
size_of (Wrote place bytes ∷ acts) = length bytes + size_of acts
size_of (Synced ∷ acts) = size_of acts

-- whether a sync is among them
abbrev syncs : List Act → Bool
syncs [] = false
syncs (Wrote place bytes ∷ acts) = syncs acts
syncs (Synced ∷ acts) = true

-- the acts have written as many bytes as their calls
size_of_acts : (calls : List Call) (bytes : List ℕ) → bytes_of calls ≡ length bytes → size_of (acts_of calls bytes) ≡ length bytes
unfolding size_of
size_of_acts [] bytes is = is
size_of_acts (call.Wrote place count ∷ calls) bytes is =
    let fits : count ≤ length bytes = omega (arith, is) in
    omega (arith, is, length-take count bytes, length-drop count bytes, size_of_acts calls (drop count bytes) (omega (arith, is, length-drop count bytes)))
size_of_acts (call.Synced ∷ calls) bytes is = size_of_acts calls bytes is

-- with no sync all writes are later ones
total_plain : (s : State) (acts : List Act) → syncs acts ≡ false → total (after_all s acts).later ≡ size_of acts + total s.later
unfolding size_of
total_plain s [] none = omega arith
total_plain s (Wrote place bytes ∷ acts) none = omega (arith, total_plain (after s (Wrote place bytes)) acts none)
total_plain s (Synced ∷ acts) none = absurd (cc none)

-- with a sync the later ones are among these
total_synced : (s : State) (acts : List Act) → syncs acts ≡ true → total (after_all s acts).later ≤ size_of acts
unfolding size_of
total_synced s [] one = absurd (cc one)
total_synced s (Wrote place bytes ∷ acts) one = omega (arith, total_synced (after s (Wrote place bytes)) acts one)
total_synced s (Synced ∷ acts) one = behind (total_synced (after s Synced) acts) (syncs acts) refl
  where
    behind : (syncs acts ≡ true → total (after_all (after s Synced) acts).later ≤ size_of acts) → (b : Bool) → syncs acts ≡ b → total (after_all (after s Synced) acts).later ≤ size_of acts
    behind later true is = later is
    behind later false is = omega (arith, total_plain (after s Synced) acts is)

-- without a sync, the bytes that are left go on top of the stable file
plain : (s : State) (acts : List Act) (keep left : ℕ) → syncs acts ≡ false → left ≡ keep - total s.later
    → after_bytes (on_top s.stable s.later keep) acts left ≡ on_top (after_all s acts).stable (after_all s acts).later keep
plain s [] keep left none is = refl
plain s (Wrote place bytes ∷ acts) keep left none is =
    let below = on_top s.stable s.later keep in
    ap (λ (n : ℕ). after_bytes (after_write below place (take n bytes)) acts (left - length bytes)) is
    ∙ plain (after s (Wrote place bytes)) acts keep (left - length bytes) none (omega (arith, is))
plain s (Synced ∷ acts) keep left none is = absurd (cc none)

-- with a sync among the acts, what comes before the last one is played whole
synced : (s : State) (acts : List Act) (keep left : ℕ) → syncs acts ≡ true → left + total (after_all s acts).later ≡ size_of acts + keep
    → after_bytes s.seen acts left ≡ on_top (after_all s acts).stable (after_all s acts).later keep
unfolding size_of
synced s [] keep left one is = absurd (cc one)
synced s (Wrote place bytes ∷ acts) keep left one is =
    let enough : length bytes ≤ left = omega (arith, is, total_synced (after s (Wrote place bytes)) acts one) in
    ap (λ (l : List ℕ). after_bytes (after_write s.seen place l) acts (left - length bytes)) (take_all left bytes enough)
    ∙ synced (after s (Wrote place bytes)) acts keep (left - length bytes) one (omega (arith, is, enough))
synced s (Synced ∷ acts) keep left one is = behind (λ later. synced (after s Synced) acts keep left later is) (syncs acts) refl
  where
    behind : (syncs acts ≡ true → after_bytes s.seen acts left ≡ on_top (after_all (after s Synced) acts).stable (after_all (after s Synced) acts).later keep)
        → (b : Bool) → syncs acts ≡ b → after_bytes s.seen acts left ≡ on_top (after_all (after s Synced) acts).stable (after_all (after s Synced) acts).later keep
    behind later true is_true = later is_true
    behind later false is_false = plain (after s Synced) acts keep left is_false (omega (arith, is, total_plain (after s Synced) acts is_false))

-- the stable bytes with the first `keep` bytes of the later writes on top
pub replay_crashed : (first : List ℕ) (calls : List Call) (bytes : List ℕ) (keep left : ℕ) → bytes_of calls ≡ length bytes
    → left + total (after_all (stable_file first) (acts_of calls bytes)).later ≡ length bytes + keep
    → after_bytes first (acts_of calls bytes) left ≡ on_top (after_all (stable_file first) (acts_of calls bytes)).stable (after_all (stable_file first) (acts_of calls bytes)).later keep
replay_crashed first calls bytes keep left size is = by_cases (syncs (acts_of calls bytes)) refl
  where
    acts : List Act
    acts = acts_of calls bytes

    by_cases : (b : Bool) → syncs acts ≡ b → after_bytes first acts left ≡ on_top (after_all (stable_file first) acts).stable (after_all (stable_file first) acts).later keep
    by_cases true one = synced (stable_file first) acts keep left one (omega (arith, is, size_of_acts calls bytes size))
    by_cases false none = plain (stable_file first) acts keep left none (omega (arith, is, size_of_acts calls bytes size, total_plain (stable_file first) acts none))

-- bytes past the last write don't count
pub on_top_all : (stable : List ℕ) (later : List Write) (keep most : ℕ) → total later ≤ keep → total later ≤ most → on_top stable later keep ≡ on_top stable later most
on_top_all stable [] keep most enough too = refl
on_top_all stable (w ∷ earlier) keep most enough too =
    ap (λ (l : List ℕ). after_write l w.place (take (keep - total earlier) w.bytes)) (on_top_all stable earlier keep most (omega (arith, enough)) (omega (arith, too)))
    ∙ ap (λ (l : List ℕ). after_write (on_top stable earlier most) w.place l)
    (take_all (keep - total earlier) w.bytes (omega (arith, enough)) ∙ sym (take_all (most - total earlier) w.bytes (omega (arith, too))))

-- no part of the later writes makes the file longer than all of them
part_no_longer : (below seen bytes : List ℕ) (place j : ℕ) → length below ≤ length seen → length (after_write below place (take j bytes)) ≤ length (after_write seen place bytes)
part_no_longer below seen [] place j le = omega (arith, le, ap (λ (l : List ℕ). length (after_write below place l)) (take_none j))
  where
    take_none : (n : ℕ) → take {A = ℕ} n [] ≡ []
    take_none n = take_all {A = ℕ} n [] (omega arith)
part_no_longer below seen (b ∷ bytes) place j le =
    written_fits below (take j (b ∷ bytes)) place (length (after_write seen place (b ∷ bytes))) (omega (arith, le, written_no_shorter seen (b ∷ bytes) place))
    (omega (arith, length-take j (b ∷ bytes), length_over seen (b ∷ bytes) place))

-- what a crash leaves is no longer than what a read gives
pub on_top_no_longer : (s : State) (acts : List Act) (keep : ℕ) → length (on_top s.stable s.later keep) ≤ length s.seen
    → length (on_top (after_all s acts).stable (after_all s acts).later keep) ≤ length (after_all s acts).seen
on_top_no_longer s [] keep le = le
on_top_no_longer s (Wrote place bytes ∷ acts) keep le =
    on_top_no_longer (after s (Wrote place bytes)) acts keep (part_no_longer (on_top s.stable s.later keep) s.seen bytes place (keep - total s.later) le)
on_top_no_longer s (Synced ∷ acts) keep le = on_top_no_longer (after s Synced) acts keep (omega arith)

-- the stable bytes with the first `keep` bytes of the later writes on top, or all of them
pub replay_kept : (first : List ℕ) (calls : List Call) (bytes : List ℕ) (stable keep left : ℕ) → bytes_of calls ≡ length bytes
    → stable + total (after_all (stable_file first) (acts_of calls bytes)).later ≡ length bytes → left ≡ stable + min keep (length bytes - stable)
    → after_bytes first (acts_of calls bytes) left ≡ on_top (after_all (stable_file first) (acts_of calls bytes)).stable (after_all (stable_file first) (acts_of calls bytes)).later keep
replay_kept first calls bytes stable keep left size held is =
    replay_crashed first calls bytes (min keep (length bytes - stable)) left size (omega (arith, held, is)) ∙ same (le_or_lt keep (total s.later))
  where
    s : State
    s = after_all (stable_file first) (acts_of calls bytes)

    most : ℕ
    most = min keep (length bytes - stable)

    same : (keep ≤ total s.later) ⊎ (total s.later < keep) → on_top s.stable s.later most ≡ on_top s.stable s.later keep
    same (inl within) = ap (λ (n : ℕ). on_top s.stable s.later n) (least keep (length bytes - stable) (omega (arith, held, within)))
      where
        least : (a b : ℕ) → a ≤ b → min a b ≡ a
        least a b le = omega (arith, le)
    same (inr past) = on_top_all s.stable s.later most keep (omega (arith, held, past)) (omega (arith, past))
