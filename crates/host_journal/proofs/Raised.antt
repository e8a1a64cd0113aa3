-- What an opening makes of the file, and what a crash may leave of it.
use Rattle.std.proofs.Common.{◌≡◌, ◌⊎◌, inl, inr, ℕ, ◌+◌, List, [], ◌∷◌, ap, subst, ◌∙◌, arith, Result, Ok, Err, OnOk}
use Rattle.split_base.specs.Disk.{AddsNone, Each, Rests, LeavesOnly, IsWritten, Tears}
use Rattle.split_lemmas.proofs.Moments.{joined, rests_leave, started, untorn}
use Rattle.gate_log.specs.Log.{LogView}
use Rattle.sealed_core.specs.Host.{HostView, EventView}
use Rattle.host_journal.specs.Journal.{HasEvents, HasRaised, IsReplayed, LeftAlone}

-- what follows from two facts after Ok
pub ok_both : {T E : Type 0} (r : Result T E) (A B C : Type 0) → OnOk r A → OnOk r B → (A → B → C) → OnOk r C
ok_both (Ok x) A B C a b f = f a b
ok_both (Err e) A B C a b f = tt

-- no call at all tears nothing
pub still_writes : {D : Type 0} (images : D → List ℕ → Type 0) (moment : D → ℕ) (left_since : D → ℕ → List ℕ → Type 0) (disk : D) → ((c : List ℕ) → left_since disk (moment disk) c → images disk c)
    → LeavesOnly moment left_since disk disk (Tears (images disk) 48 1)
still_writes images moment left_since disk only = started moment left_since disk (Tears (images disk) 48 1) (λ f left. (f, only f left, untorn 48 1 f))

pub still_torn : (images : List ℕ → Type 0) → Each images (Tears images 48 1)
still_torn images f now = (f, now, untorn 48 1 f)

-- calls that change no byte
pub rests_writes : {D : Type 0} (seen : D → List ℕ) (images : D → List ℕ → Type 0) (moment : D → ℕ) (left_since : D → ℕ → List ℕ → Type 0) (old new : D) → Rests seen images moment left_since old new
    → ((c : List ℕ) → left_since old (moment old) c → images old c) → LeavesOnly moment left_since old new (Tears (images old) 48 1)
rests_writes seen images moment left_since old new rests only =
    rests_leave moment left_since seen images old new (Tears (images old) 48 1) rests only (λ f now. (f, now, untorn 48 1 f))

pub rests_torn : (old new : List ℕ → Type 0) → AddsNone old new → Each new (Tears old 48 1)
rests_torn old new adds_none f now = (f, adds_none f now, untorn 48 1 f)

-- and then a write of that byte
pub then_writes : {D : Type 0} (seen : D → List ℕ) (images : D → List ℕ → Type 0) (moment : D → ℕ) (left_since : D → ℕ → List ℕ → Type 0) (old mid new : D) → Rests seen images moment left_since old mid
    → ((c : List ℕ) → left_since old (moment old) c → images old c) → LeavesOnly moment left_since mid new (Tears (images mid) 48 1) → LeavesOnly moment left_since old new (Tears (images old) 48 1)
then_writes seen images moment left_since old mid new rests only second =
    joined moment left_since old mid new (Tears (images old) 48 1) (Tears (images mid) 48 1) (Tears (images old) 48 1) (rests_writes seen images moment left_since old mid rests only) second (λ f p. p)
    (λ f (d, was, torn). (d, rests.adds_none d was, torn))

pub then_torn : (old mid new : List ℕ → Type 0) → AddsNone old mid → Each new (Tears mid 48 1) → Each new (Tears old 48 1)
then_torn old mid new adds_none each f now = let (d, was, torn) = each f now in (d, adds_none d was, torn)

-- after a whole reading: the file is as it was, or it was of version 1 and its version gate was written
pub opened_done : {D : Type 0} (seen : D → List ℕ) (moment : D → ℕ) (old mid new : D) (log : LogView) (h : HostView) (secret : List ℕ) (events : List EventView) → seen mid ≡ seen old → moment mid ≡ moment old + 1
    → IsReplayed (seen mid) log h secret events → (new ≡ mid) ⊎ ((log.version ≡ 1) × IsWritten (seen mid) 48 (1 ∷ []) (seen new) × (moment new ≡ moment mid + 2))
    → LeftAlone seen moment old new ⊎ HasRaised seen moment old new
opened_done seen moment old mid new log h secret events same one r (inl alone) = inl (record { same = ap seen alone ∙ same; calls = ap moment alone ∙ one })
opened_done seen moment old mid new log h secret events same one r (inr (version, written, two)) = inr (record {
  secret = secret;
  events = events;
  before = subst (HasEvents 1 secret events) same (subst (λ (v : ℕ). HasEvents v secret events (seen mid)) version r.has);
  written = subst (λ (f : List ℕ). IsWritten f 48 (1 ∷ []) (seen new)) same written;
  calls = omega (arith, one, two);
})
