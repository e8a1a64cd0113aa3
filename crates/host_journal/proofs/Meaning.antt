-- A file holds one list of events or has one first fault.
use Rattle.std.proofs.Common.{◌≡◌, ◌⊎◌, inl, inr, ⊎_elim, ℕ, List, [], ◌∷◌, ◌++◌, map, length, refl, sym, ◌∙◌, ap, subst, arith, All, length-append}
use Rattle.std.proofs.lemmas.List.Elements.{All-head, All-tail}
use Rattle.gate_log.specs.Records.{Stands, Begins, BeginWith, place_after}
use Rattle.gate_log.specs.Faults.{IsFault, IsFaultAfter, IsHeaderFault}
use Rattle.sealed_core.specs.Host.{HostView, EventView, apply}
use Rattle.sealed_core.specs.Runs.{CanApplyAll, apply_all, host_of}
use Rattle.sealed_core.specs.Sealed.{empty}
use Rattle.host_journal.specs.Spelling.{IsEvent, IsOfVersion, spelling}
use Rattle.host_journal.specs.Journal.{AreKept, HasEvents, IsNoEvent, IsEventFault, IsFirstFault}
use Rattle.host_journal.proofs.Events.{one_spelling}

-- what holds of the bodies of every file
pub record Laws : Type 0 where
  pub one_meaning : (v w : ℕ) (secret word : List ℕ) (bodies others : List (List ℕ)) (file : List ℕ) → Stands v secret bodies file → Stands w word others file → (v ≡ w) × (secret ≡ word) × (bodies ≡ others)
  pub no_fault : (v place : ℕ) (secret : List ℕ) (bodies : List (List ℕ)) (file : List ℕ) → Stands v secret bodies file → IsFault place file → ⊥
  pub one_fault : (p q : ℕ) (file : List ℕ) → IsFault p file → IsFault q file → p ≡ q
  pub stands : (v : ℕ) (secret : List ℕ) (bodies : List (List ℕ)) (file : List ℕ) → Stands v secret bodies file → Begins v secret bodies file
  pub fault : (v place : ℕ) (secret : List ℕ) (bodies : List (List ℕ)) (file : List ℕ) → IsFaultAfter v secret bodies place file → Begins v secret bodies file
  pub one : (v w : ℕ) (secret word : List ℕ) (bodies others : List (List ℕ)) (file : List ℕ) → Begins v secret bodies file → Begins w word others file
      → (v ≡ w) × (secret ≡ word) × (BeginWith bodies others ⊎ BeginWith others bodies)
  pub stands_last : (v w : ℕ) (secret word : List ℕ) (bodies others : List (List ℕ)) (file : List ℕ) → Stands v secret bodies file → Begins w word others file → BeginWith bodies others
  pub fault_last : (v w place : ℕ) (secret word : List ℕ) (bodies others : List (List ℕ)) (file : List ℕ) → IsFaultAfter v secret bodies place file → Begins w word others file → BeginWith bodies others
  pub header : (v place : ℕ) (secret : List ℕ) (bodies : List (List ℕ)) (file : List ℕ) → Begins v secret bodies file → IsHeaderFault place file → ⊥

-- equal bodies are those of equal events
same_events : (events others : List EventView) → All IsEvent events → All IsEvent others → map spelling events ≡ map spelling others → events ≡ others
same_events [] [] all also is = refl
same_events [] (f ∷ others) all also is = absurd (omega (arith, ap length is))
same_events (e ∷ events) [] all also is = absurd (omega (arith, ap length is))
same_events (e ∷ events) (f ∷ others) all also is =
    let first : spelling e ≡ spelling f = cc is in
    let behind : map spelling events ≡ map spelling others = cc is in
    let one : e ≡ f = one_spelling e f (All-head IsEvent e events all) (All-head IsEvent f others also) first in
    ap (λ (g : EventView). g ∷ events) one ∙ ap (λ (l : List EventView). f ∷ l) (same_events events others (All-tail IsEvent e events all) (All-tail IsEvent f others also) behind)

-- among events that may be applied in turn there is no body that may not
inside : (v : ℕ) (h : HostView) (events others : List EventView) (body : List ℕ) (more : List (List ℕ)) → All IsEvent events → All (IsOfVersion v) events → CanApplyAll h events → All IsEvent others
    → map spelling events ≡ (map spelling others ++ body ∷ []) ++ more → IsNoEvent v (apply_all h others) body → ⊥
inside v h [] others body more all of can also is none =
    absurd (omega (arith, ap length is, length-append (map spelling others ++ body ∷ []) more, length-append (map spelling others) (body ∷ [])))
inside v h (e ∷ events) [] body more all of can also is none =
    none e (All-head IsEvent e events all, sym (cc is)) (All-head (IsOfVersion v) e events of) can.0
inside v h (e ∷ events) (f ∷ others) body more all of can also is none =
    let first : spelling e ≡ spelling f = cc is in
    let behind : map spelling events ≡ (map spelling others ++ body ∷ []) ++ more = cc is in
    let one : f ≡ e = sym (one_spelling e f (All-head IsEvent e events all) (All-head IsEvent f others also) first) in
    inside v (apply h e) events others body more (All-tail IsEvent e events all) (All-tail (IsOfVersion v) e events of) can.1 (All-tail IsEvent f others also) behind
    (subst (λ (g : EventView). IsNoEvent v (apply_all (apply h g) others) body) one none)

-- the same with the version and the secret of each
kept_inside : (v w : ℕ) (secret word : List ℕ) (events others : List EventView) (body : List ℕ) → v ≡ w → secret ≡ word → AreKept v secret events → AreKept w word others
    → BeginWith (map spelling events) (map spelling others ++ body ∷ []) → IsNoEvent w (host_of word others) body → ⊥
kept_inside v w secret word events others body version same kept also (more, is) none =
    inside v (empty secret) events others body more kept.each kept.of_version kept.may_apply also.each is
    (subst (λ (s : List ℕ). IsNoEvent v (host_of s others) body) (sym same) (subst (λ (k : ℕ). IsNoEvent k (host_of word others) body) (sym version) none))

-- two lists with a body more, of which one begins with the other
last_or_inside : (A B : List (List ℕ)) (b c : List ℕ) (more : List (List ℕ)) → A ++ b ∷ [] ≡ (B ++ c ∷ []) ++ more → (A ≡ B) ⊎ BeginWith A (B ++ c ∷ [])
last_or_inside [] [] b c more is = inl refl
last_or_inside [] (y ∷ B) b c more is = absurd (omega (arith, ap length is, length-append (y ∷ B ++ c ∷ []) more, length-append B (c ∷ [])))
last_or_inside (x ∷ A) [] b c more is = inr (A, ap (λ (z : List ℕ). z ∷ A) (cc is))
last_or_inside (x ∷ A) (y ∷ B) b c more is =
    let one : x ≡ y = cc is in
    let behind : A ++ b ∷ [] ≡ (B ++ c ∷ []) ++ more = cc is in
    ⊎_elim (λ same. inl (ap (λ (z : List ℕ). z ∷ A) one ∙ ap (λ (l : List (List ℕ)). y ∷ l) same))
    (λ (rest, longer). inr (rest, ap (λ (z : List ℕ). z ∷ A) one ∙ ap (λ (l : List (List ℕ)). y ∷ l) longer)) (last_or_inside A B b c more behind)

module _ (law : Laws) where
  -- a file has one list of events
  pub one_list : (v w : ℕ) (secret word : List ℕ) (events others : List EventView) (file : List ℕ) → HasEvents v secret events file → HasEvents w word others file → (v ≡ w) × (secret ≡ word) × (events ≡ others)
  one_list v w secret word events others file a b =
      let (version, same, bodies) = law.one_meaning v w secret word (map spelling events) (map spelling others) file a.stands b.stands in
      (version, same, same_events events others a.kept.each b.kept.each bodies)

  -- a file of events has no fault
  pub none_first : (v place : ℕ) (secret : List ℕ) (events : List EventView) (file : List ℕ) → HasEvents v secret events file → IsFirstFault place file → ⊥
  none_first v place secret events file has (inl head) = law.no_fault v place secret (map spelling events) file has.stands (inl head)
  none_first v place secret events file has (inr f) = by_fault f.fault
    where
      by_fault : IsFaultAfter f.version f.secret (map spelling f.events) place file ⊎ IsEventFault f.version f.secret f.events place file → ⊥
      by_fault (inl form) = law.no_fault v place secret (map spelling events) file has.stands (inr (f.version, f.secret, map spelling f.events, form))
      by_fault (inr e) =
          let begins = law.stands v secret (map spelling events) file has.stands in
          let (version, same, either) = law.one v f.version secret f.secret (map spelling events) (map spelling f.events ++ e.body ∷ []) file begins e.begins in
          kept_inside v f.version secret f.secret events f.events e.body version same has.kept f.kept
          (law.stands_last v f.version secret f.secret (map spelling events) (map spelling f.events ++ e.body ∷ []) file has.stands e.begins) e.no_event

  -- a fault of form and one of an event, at different places
  form_or_event : (p q v w : ℕ) (secret word : List ℕ) (events others : List EventView) (file : List ℕ) → AreKept v secret events → AreKept w word others
      → IsFaultAfter v secret (map spelling events) p file → IsEventFault w word others q file → ⊥
  form_or_event p q v w secret word events others file kept also form e =
      let begins = law.fault v p secret (map spelling events) file form in
      let (version, same, either) = law.one v w secret word (map spelling events) (map spelling others ++ e.body ∷ []) file begins e.begins in
      kept_inside v w secret word events others e.body version same kept also (law.fault_last v w p secret word (map spelling events) (map spelling others ++ e.body ∷ []) file form e.begins) e.no_event

  -- the event's fault that comes first, where one file goes on where the other ends
  first_event : (p q v w : ℕ) (secret word : List ℕ) (events others : List EventView) (file : List ℕ) (a : IsEventFault v secret events p file) (b : IsEventFault w word others q file) → v ≡ w → secret ≡ word
      → AreKept v secret events → AreKept w word others → BeginWith (map spelling events ++ a.body ∷ []) (map spelling others ++ b.body ∷ []) → p ≡ q
  first_event p q v w secret word events others file a b version same kept also (more, longer) =
      ⊎_elim (λ equal. a.at ∙ ap place_after equal ∙ sym b.at)
      (λ within. absurd (kept_inside v w secret word events others b.body version same kept also within b.no_event))
      (last_or_inside (map spelling events) (map spelling others) a.body b.body more longer)

  -- a file has one fault of an event
  one_event : (p q v w : ℕ) (secret word : List ℕ) (events others : List EventView) (file : List ℕ) → AreKept v secret events → AreKept w word others → IsEventFault v secret events p file
      → IsEventFault w word others q file → p ≡ q
  one_event p q v w secret word events others file kept also a b =
      let (version, same, either) = law.one v w secret word (map spelling events ++ a.body ∷ []) (map spelling others ++ b.body ∷ []) file a.begins b.begins in
      ⊎_elim (λ longer. first_event p q v w secret word events others file a b version same kept also longer)
      (λ shorter. sym (first_event q p w v word secret others events file b a (sym version) (sym same) also kept shorter)) either

  -- a header at fault has no records
  header_or_event : (p q w : ℕ) (word : List ℕ) (others : List EventView) (file : List ℕ) → IsHeaderFault p file → IsEventFault w word others q file → ⊥
  header_or_event p q w word others file head e = law.header w p word (map spelling others ++ e.body ∷ []) file e.begins head

  -- a file has one first fault
  pub one_first : (p q : ℕ) (file : List ℕ) → IsFirstFault p file → IsFirstFault q file → p ≡ q
  one_first p q file (inl a) (inl b) = law.one_fault p q file (inl a) (inl b)
  one_first p q file (inl a) (inr g) =
      ⊎_elim (λ form. law.one_fault p q file (inl a) (inr (g.version, g.secret, map spelling g.events, form))) (λ e. absurd (header_or_event p q g.version g.secret g.events file a e)) g.fault
  one_first p q file (inr f) (inl b) =
      ⊎_elim (λ form. law.one_fault p q file (inr (f.version, f.secret, map spelling f.events, form)) (inl b)) (λ e. absurd (header_or_event q p f.version f.secret f.events file b e)) f.fault
  one_first p q file (inr f) (inr g) = by_faults f.fault g.fault
    where
      by_faults : IsFaultAfter f.version f.secret (map spelling f.events) p file ⊎ IsEventFault f.version f.secret f.events p file
          → IsFaultAfter g.version g.secret (map spelling g.events) q file ⊎ IsEventFault g.version g.secret g.events q file → p ≡ q
      by_faults (inl a) (inl b) = law.one_fault p q file (inr (f.version, f.secret, map spelling f.events, a)) (inr (g.version, g.secret, map spelling g.events, b))
      by_faults (inl a) (inr b) = absurd (form_or_event p q f.version g.version f.secret g.secret f.events g.events file f.kept g.kept a b)
      by_faults (inr a) (inl b) = absurd (form_or_event q p g.version f.version g.secret f.secret g.events f.events file g.kept f.kept b a)
      by_faults (inr a) (inr b) = one_event p q f.version g.version f.secret g.secret f.events g.events file f.kept g.kept a b
