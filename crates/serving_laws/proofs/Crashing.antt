-- What a crash leaves of a run.
use Rattle.std.proofs.Common.{◌≡◌, ◌⊎◌, ℕ, ◌≤◌, List, [], ◌∷◌, ◌++◌, Option, None, Some, sym, ap, ◌∙◌, subst, inl, inr, ⊎_elim, arith, Contains, append_assoc, append-nil, not-suc-le-zero}
use Rattle.std.proofs.lemmas.List.Elements.{Contains-push_cases}
use Rattle.split_base.specs.declared.disk.Disk.{Ghosts}
use Rattle.split_base.specs.Disk.{Each}
use Rattle.host_journal.specs.Journal.{HoldsEvents}
use Rattle.host_journal.specs.States.{IsFile, State, lists_of}
use Rattle.serving.specs.Exchanges.{Answered, Exchange}
use Rattle.sealed_core.specs.Host.{EventView}
use Rattle.serving.specs.Serving.{host_service}
use Rattle.serving_laws.specs.Crashes.{Acknowledges, HoldsKept, IsFileOfOne, Since}
use Rattle.serving_laws.proofs.Chains.{passes_first, responds_first}
use Rattle.serving_laws.proofs.Growing.{Grows, responds_grows}

first_of : {D : Type 0} (s : State) (run : List (Exchange (D × State))) (file : List ℕ) → IsFile s file → IsFileOfOne s run file
first_of s [] file is = is
first_of s (e ∷ later) file is = inl is

-- later moments are greater
later_moment : {D : Type 0} (d : Ghosts D) (w : D × State) (run : List (Exchange (D × State))) (new : D × State) → Answered (host_service d) w run new → d.is_honest w.0 → d.moment w.0 ≤ d.moment new.0
later_moment {D} d w [] new same honest = subst (λ (x : D × State). d.moment w.0 ≤ d.moment x.0) (sym same) (omega arith)
later_moment d w (e ∷ later) new run honest =
    let passes = passes_first d w e later new run in
    let one = (passes.any_moment honest).later in
    let rest = later_moment d e.after later new run.2 (passes.honest.0 honest) in
    omega (arith, one, rest)

-- what a crash since an earlier moment might have left it might have left before, or it is a file of one of the states
back : {D : Type 0} (d : Ghosts D) (w : D × State) (run : List (Exchange (D × State))) (new : D × State) → Answered (host_service d) w run new → d.is_honest w.0
    → (t : ℕ) → t ≤ d.moment w.0 → (file : List ℕ) → d.left_since new.0 t file → d.left_since w.0 t file ⊎ IsFileOfOne w.1 run file
back {D} d w [] new same honest t le file left = inl (subst (λ (x : D × State). d.left_since x.0 t file) same left)
back d w (e ∷ later) new run honest t le file left =
    let passes = passes_first d w e later new run in
    let leaves = passes.any_moment honest in
    ⊎_elim (λ at_e. ⊎_elim (λ at_w. inl at_w) (λ either. ⊎_elim (λ is. inr (inl is)) (λ is. inr (inr (first_of e.after.1 later file is))) either) (leaves.before t file le at_e))
    (λ one. inr (inr one)) (back d e.after later new run.2 (passes.honest.0 honest) t (omega (arith, le, leaves.later)) file left)

module _ {D : Type 0} (d : Ghosts D) (only : (disk : D) (file : List ℕ) → d.is_honest disk → d.left_since disk (d.moment disk) file → d.images disk file) where
  pub since : (w : D × State) (run : List (Exchange (D × State))) (new : D × State) → Answered (host_service d) w run new → d.is_honest w.0 → Each (d.images w.0) (IsFile w.1) → Since d new.0 w run
  since w [] new same honest each = (
    later_moment d w [] new same honest,
    (λ file left. each file (only w.0 file honest (subst (λ (x : D × State). d.left_since x.0 (d.moment w.0) file) same left))),
  )
  since w (e ∷ later) new run honest each =
      let passes = passes_first d w e later new run in
      let still = passes.honest.0 honest in (
        (passes.any_moment honest).later,
        (λ file left. ⊎_elim (λ now. inl (each file (only w.0 file honest now))) (λ one. one) (back d w (e ∷ later) new run honest (d.moment w.0) (omega arith) file left)),
        since e.after later new run.2 still (passes.left still),
      )

-- a file of a state holds its events
only_one : {A : Type 0} (x y : A) → Contains (x ∷ []) y → y ≡ x
only_one x y among = ⊎_elim (λ none. absurd (not-suc-le-zero none.1)) (λ is. sym is) (Contains-push_cases [] x y among)

one_of : (secret : List ℕ) (kept : List EventView) (waiting : Option EventView) (events : List EventView) → Contains (lists_of kept waiting) events → (more : List EventView) × (events ≡ kept ++ more)
one_of secret kept None events among = ([], only_one kept events among ∙ sym (append-nil kept))
one_of secret kept (Some e) events among =
    ⊎_elim (λ first. ([], only_one kept events first ∙ sym (append-nil kept))) (λ is. (e ∷ [], sym is)) (Contains-push_cases (kept ∷ []) (kept ++ e ∷ []) events among)

file_holds : (s : State) (file : List ℕ) → IsFile s file → HoldsKept s file
file_holds s file (events, among, holds) =
    let (more, is) = one_of s.secret s.kept s.waiting events among in
    (more, subst (λ (l : List EventView). HoldsEvents s.secret l file) is holds)

-- a file of a later state holds the events of the earlier one
grown_holds : (s new : State) (file : List ℕ) → Grows s new → HoldsKept new file → HoldsKept s file
grown_holds s new file g (more, holds) = (
  g.more ++ more,
  subst (λ (l : List EventView). HoldsEvents s.secret l file) (ap (λ (l : List EventView). l ++ more) g.kept ∙ append_assoc s.kept g.more more)
      (subst (λ (x : List ℕ). HoldsEvents x (new.kept ++ more) file) g.secret holds),
)

-- a file of one of the states of a run
one_holds : {D : Type 0} (d : Ghosts D) (w : D × State) (run : List (Exchange (D × State))) (new : D × State) → Answered (host_service d) w run new → d.is_honest w.0 → (file : List ℕ)
    → IsFileOfOne w.1 run file → HoldsKept w.1 file
one_holds d w [] new run honest file is = file_holds w.1 file is
one_holds d w (e ∷ later) new run honest file (inl is) = file_holds w.1 file is
one_holds d w (e ∷ later) new run honest file (inr one) =
    grown_holds w.1 e.after.1 file (responds_grows d w.0 e.after.0 e.head e.body e.moment w.1 e.after.1 e.due.said honest (responds_first d w e later new run))
    (one_holds d e.after later new run.2 ((passes_first d w e later new run).honest.0 honest) file one)

pub acknowledges : {D : Type 0} (d : Ghosts D) (w : D × State) (run : List (Exchange (D × State))) (new : D × State) → Answered (host_service d) w run new → d.is_honest w.0 → Since d new.0 w run
    → Acknowledges d new.0 w run
acknowledges d w [] new run honest s = λ file left. file_holds w.1 file (s.1 file left)
acknowledges d w (e ∷ later) new run honest s = (
  (λ file left. one_holds d w (e ∷ later) new run honest file (s.1 file left)),
  acknowledges d e.after later new run.2 ((passes_first d w e later new run).honest.0 honest) s.2,
)
