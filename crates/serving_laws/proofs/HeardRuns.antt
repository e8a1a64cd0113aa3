-- What a caller gets in a run is what is told in it.
use Rattle.std.proofs.Common.{◌≡◌, ◌⊎◌, ℕ, ◌==◌, ◌&&◌, Bool, true, false, List, [], ◌∷◌, ◌++◌, is_some, Option, None, Some, Ok, refl, sym, ap, ◌∙◌, subst, inl, inr, ⊎_elim, append-nil, eqb-true, true≢false, if◌then◌else◌}
use Rattle.std.specs.Option.{option_map, option_to_list}
use Rattle.split_base.specs.declared.disk.Disk.{Ghosts}
use Rattle.split_base.specs.Faults.{HasRisen, counted}
use Rattle.host_journal.specs.States.{State, host_in, ready_with, waits_with}
use Rattle.serving.specs.Exchanges.{Answered, Exchange}
use Rattle.reply_texts.specs.Contents.{ContentView, memory_told}
use Rattle.reply_texts.specs.Sealing.{Told, told, told_all, told_of}
use Rattle.requests.specs.Cases.{Responds, Settles, Steps}
use Rattle.requests.specs.Commands.{command_of}
use Rattle.requests.specs.Replies.{Replies}
use Rattle.requests.specs.Sent.{status_and_text}
use Rattle.sealed_core.specs.declared.commands.Ask.{Ask}
use Rattle.sealed_core.specs.Host.{EventView, HostView, apply}
use Rattle.sealed_core.specs.Runs.{host_of}
use Rattle.sealed_core.specs.Sealed.{Asked, Caller, with_event, caller_number, host_after, is_closed, next, same_caller}
use Rattle.sealed_core.specs.Step.{CommandView, Create, To, step}
use Rattle.serving.specs.Serving.{host_service}
use Rattle.split_http.specs.declared.routes.Route.{Route}
use Rattle.split_http.specs.Places.{IsRouted}
use Rattle.serving_laws.specs.Heard.{Finds, HasKept, IsStepAt, IsStep, IsUnrouted, Taken, Takes, TakesSteps, WaitsByStep, asked_of, got_all, is_own, replied_of}
use Rattle.serving_laws.specs.Sealing.{TellsNoStep}
use Rattle.serving_laws.proofs.Answered.{PublishesShut, due_result, not_counted}
use Rattle.serving_laws.proofs.OwnSteps.{asked, kept_step, plain_step}

-- the host of events and one more is that after it
abbrev pub OneMore : Type 0
OneMore = (secret : List ℕ) (events : List EventView) (e : EventView) → host_of secret (events ++ e ∷ []) ≡ apply (host_of secret events) e

-- what is sent of a reply on an instance that isn't closed after the step is what is told
abbrev pub SendsTold : Type 0
SendsTold = (h : HostView) (t id : ℕ) (key : Option (List ℕ)) (ask : Ask) (content : ContentView) → is_closed (host_after h t (To id key ask)) id ≡ false → Replies h t (To id key ask) content
    → status_and_text content ≡ told h t (To id key ask)

where_both : {A : Type 0} (s t : Bool) (x y : A) → (s ≡ true → x ≡ y) → (if s && t then Some x else None) ≡ (if s && t then Some y else None)
where_both true true x y same = ap Some (same refl)
where_both true false x y same = refl
where_both false t x y same = refl

pub applied_is : OneMore → (secret : List ℕ) (kept : List EventView) (o : Option EventView) → host_of secret (kept ++ option_to_list o) ≡ with_event (host_of secret kept) o
applied_is one_more secret kept None = ap (λ (l : List EventView). host_of secret l) (append-nil kept)
applied_is one_more secret kept (Some e) = one_more secret kept e

-- ---- what was said in reply to the steps

-- what was said in reply to a step is its reply
abbrev ToldBy : HostView → Asked → Option ContentView → Type 0
ToldBy h a None = Unit {0}
ToldBy h a (Some said) = (content : ContentView) × Replies h a.moment a.command content × (said ≡ content)

abbrev AreTold : HostView → List Taken → Type 0
AreTold h [] = Unit {0}
AreTold h (s ∷ steps) = ToldBy h s.asked s.said × AreTold (next h s.asked) steps

pub host_is : (s : State) (secret : List ℕ) (kept : List EventView) → HasKept s secret kept → host_in s ≡ host_of secret kept
host_is s secret kept has = ap (λ (x : List ℕ). host_of x s.kept) has.0 ∙ ap (λ (l : List EventView). host_of secret l) has.1

module _ (one_more : OneMore) where
  found_told : (h : HostView) (s settled : State) (found tail : List Taken) → host_in s ≡ h → Finds s settled found → AreTold (host_in settled) tail → AreTold h (found ++ tail)
  found_told h s settled found tail same (Finds.nothing keeps none) rest =
      subst (λ (l : List Taken). AreTold h (l ++ tail)) (sym none) (subst (λ (g : HostView). AreTold g tail) (host_is settled s.secret s.kept keeps ∙ same) rest)
  found_told h s settled found tail same (Finds.found a e waits event keeps one) rest =
      let goes : host_in settled ≡ next h a =
      host_is settled s.secret (s.kept ++ e ∷ []) keeps ∙ one_more s.secret s.kept e ∙ ap (with_event (host_in s)) (sym event) ∙ ap (λ (g : HostView). next g a) same in
      subst (λ (l : List Taken). AreTold h (l ++ tail)) (sym one) (tt, subst (λ (g : HostView). AreTold g tail) goes rest)

  no_steps_told : (settled new : State) (own tail : List Taken) → HasKept new settled.secret settled.kept → own ≡ [] → AreTold (host_in new) tail → AreTold (host_in settled) (own ++ tail)
  no_steps_told settled new own tail keeps none rest =
      subst (λ (l : List Taken). AreTold (host_in settled) (l ++ tail)) (sym none) (subst (λ (g : HostView). AreTold g tail) (host_is new settled.secret settled.kept keeps) rest)

  own_steps_told : {D : Type 0} (x : Exchange (D × State)) (settled : State) (own tail : List Taken) → Takes x settled own → AreTold (host_in x.after.1) tail → AreTold (host_in settled) (own ++ tail)
  own_steps_told x settled own tail (Takes.nothing tells keeps none) rest = no_steps_told settled x.after.1 own tail keeps none rest
  own_steps_told x settled own tail (Takes.damaged place tells keeps none) rest = no_steps_told settled x.after.1 own tail keeps none rest
  own_steps_told x settled own tail (Takes.one a at is) rest =
      let goes : host_in x.after.1 ≡ next (host_in settled) a =
      host_is x.after.1 settled.secret (settled.kept ++ option_to_list (step (host_in settled) a.moment a.command).event) (at.secret, at.kept)
      ∙ applied_is one_more settled.secret settled.kept (step (host_in settled) a.moment a.command).event in
      subst (λ (l : List Taken). AreTold (host_in settled) (l ++ tail)) (sym is) ((at.told, at.replies, at.said), subst (λ (g : HostView). AreTold g tail) goes rest)

  are_told : {D : Type 0} (d : Ghosts D) (h : HostView) (w : D × State) (run : List (Exchange (D × State))) (states : List State) (steps : List Taken) (new : D × State)
      → Answered (host_service d) w run new → host_in w.1 ≡ h → TakesSteps run states steps → AreTold h steps
  are_told d h w [] [] steps new answered same none = subst (AreTold h) (sym none) tt
  are_told d h w [] (settled ∷ states) steps new answered same never = absurd never
  are_told d h w (x ∷ run) [] steps new answered same never = absurd never
  are_told {D} d h w (x ∷ run) (settled ∷ states) steps new answered same (found, own, later, is, finds, takes, rest) =
      let at : host_in x.before.1 ≡ h = ap (λ (y : D × State). host_in y.1) answered.0 ∙ same in
      let behind : AreTold (host_in x.after.1) later = are_told d (host_in x.after.1) x.after run states later new answered.2 refl rest in
      subst (AreTold h) (sym is) (found_told h x.before.1 settled found (own ++ later) at finds (own_steps_told x settled own later takes behind))

-- ---- what the caller gets of them

-- the entries at which a step has a reply, and nothing at the others
abbrev shown : List Bool → List (Option Told) → List (Option Told)
shown [] all = []
shown (b ∷ bs) [] = []
shown (b ∷ bs) (one ∷ all) = (if b then one else None) ∷ shown bs all

until_shown : (shut : Bool) (x y : Option Told) (xs ys : List (Option Told)) (b : Bool) (bs : List Bool) → (shut ≡ false → x ≡ (if b then y else None)) → xs ≡ shown bs ys
    → (if shut then [] else x ∷ xs) ≡ shown (b ∷ bs) (if shut then [] else y ∷ ys)
until_shown true x y xs ys b bs first rest = refl
until_shown false x y xs ys b bs first rest = λ i. first refl i ∷ rest i

nothing_got : (b : Bool) → (if b then option_map status_and_text None else None) ≡ None
nothing_got true = refl
nothing_got false = refl

module _ (sends : SendsTold) (id : ℕ) (caller : Caller) where
  own_told : (h : HostView) (said : ContentView) (t : ℕ) (command : CommandView) (content : ContentView) → Replies h t command content → said ≡ content
      → is_closed (host_after h t command) id ≡ false → (if is_own h id caller command then Some (status_and_text said) else None) ≡ told_of h id caller t command
  own_told h said t (Create body) content replies is still = refl
  own_told h said t (To other key ask) content replies is still =
      where_both (other == id) (same_caller (caller_number h other key) caller) (status_and_text said) (told h t (To other key ask)) (λ same.
      ap status_and_text is ∙ sends h t other key ask content (subst (λ (k : ℕ). is_closed (host_after h t (To other key ask)) k ≡ false) (sym (eqb-true other id same)) still) replies)

  own_got : (h : HostView) (a : Asked) (said : Option ContentView) → ToldBy h a said → is_closed (next h a) id ≡ false
      → (if is_own h id caller a.command then option_map status_and_text said else None) ≡ (if is_some said then told_of h id caller a.moment a.command else None)
  own_got h a None none still = nothing_got (is_own h id caller a.command)
  own_got h a (Some said) (content, replies, is) still = own_told h said a.moment a.command content replies is still

  got_shown : (h : HostView) (steps : List Taken) → AreTold h steps → got_all h id caller steps ≡ shown (replied_of steps) (told_all h id caller (asked_of steps))
  got_shown h [] none = refl
  got_shown h (s ∷ steps) (one, rest) =
      until_shown (is_closed (next h s.asked) id) (if is_own h id caller s.asked.command then option_map status_and_text s.said else None) (told_of h id caller s.asked.moment s.asked.command)
      (got_all (next h s.asked) id caller steps) (told_all (next h s.asked) id caller (asked_of steps)) (is_some s.said) (replied_of steps)
      (own_got h s.asked s.said one) (got_shown (next h s.asked) steps rest)

  -- what a caller gets in a run follows from its steps, and from which of them have replies
  pub got_told : {D : Type 0} (d : Ghosts D) (one_more : OneMore) (w : D × State) (run : List (Exchange (D × State))) (states : List State) (steps : List Taken) (new : D × State)
      → Answered (host_service d) w run new → TakesSteps run states steps → got_all (host_in w.1) id caller steps ≡ shown (replied_of steps) (told_all (host_in w.1) id caller (asked_of steps))
  got_told d one_more w run states steps new answered takes = got_shown (host_in w.1) steps (are_told one_more d (host_in w.1) w run states steps new answered refl takes)

pub same_shown : (bs cs : List Bool) (all others : List (Option Told)) → bs ≡ cs → all ≡ others → shown bs all ≡ shown cs others
same_shown bs cs all others same alike = λ i. shown (same i) (alike i)

-- ---- the steps of a run

pub never_waits : (o : Option EventView) (e : EventView) → o ≡ None → o ≡ Some e → ⊥
never_waits o e none some = absurd (cc)

not_memory : (said : ContentView) → said.memory ≡ false → said ≡ memory_told → ⊥
not_memory said plain is = true≢false (sym (ap (λ (s : ContentView). s.memory) is) ∙ plain)

settled_still : {D : Type 0} (d : Ghosts D) (disk between : D) (s settled : State) → s.waiting ≡ None → Settles d disk between s settled None → (settled ≡ s) × (between ≡ disk)
settled_still d disk between s settled ready (Settles.ready a same is c) = (is, same)
settled_still d disk between s settled ready (Settles.store_fault e a up torn is c) = absurd (cc)
settled_still d disk between s settled ready (Settles.damaged e place a same first never is c) = absurd (cc)
settled_still d disk between s settled ready (Settles.opened e secret kept a same told can is c) = absurd (never_waits s.waiting e ready a)

never_at_once : {D : Type 0} (d : Ghosts D) (disk after : D) (s new : State) (said : ContentView) → s.waiting ≡ None → Settles d disk after s new (Some said) → ⊥
never_at_once d disk after s new said ready (Settles.ready a same is c) = absurd (cc)
never_at_once d disk after s new said ready (Settles.store_fault e a up torn is c) = never_waits s.waiting e ready a
never_at_once d disk after s new said ready (Settles.damaged e place a same first never is c) = never_waits s.waiting e ready a
never_at_once d disk after s new said ready (Settles.opened e secret kept a same told can is c) = absurd (cc)

pub has_kept : (s t : State) → s ≡ t → HasKept s t.secret t.kept
has_kept s t is = (ap (λ (x : State). x.secret) is, ap (λ (x : State). x.kept) is)

-- a host that is ready has no event that waits
ready_waits : (s : State) → s.waiting ≡ None → WaitsByStep s
ready_waits s none e some = absurd (never_waits s.waiting e none some)

-- the steps before the request's own
finds_at : {D : Type 0} (d : Ghosts D) (disk between : D) (s settled : State) → d.is_honest disk → WaitsByStep s → Settles d disk between s settled None
    → (found : List Taken) × Finds s settled found × (settled.waiting ≡ None)
finds_at d disk between s settled honest waits (Settles.ready none same is c) = ([], Finds.nothing (has_kept settled s is) refl, ap (λ (x : State). x.waiting) is ∙ none)
finds_at d disk between s settled honest waits (Settles.store_fault e a up torn is c) = absurd (cc)
finds_at d disk between s settled honest waits (Settles.damaged e place a same first never is c) = absurd (cc)
finds_at d disk between s settled honest waits (Settles.opened e secret kept a same told can is c) =
    let file = told.settled honest in
    let secret_is : settled.secret ≡ s.secret = ap (λ (x : State). x.secret) is ∙ file.secret_stays in
    let kept_is : settled.kept ≡ kept = ap (λ (x : State). x.kept) is in
    let ready : settled.waiting ≡ None = ap (λ (x : State). x.waiting) is in
    let by = waits e a in
    ⊎_elim (λ (still : kept ≡ s.kept). ([], Finds.nothing (secret_is, kept_is ∙ still) refl, ready))
    (λ (grown : kept ≡ s.kept ++ e ∷ []). (record { asked = by.0; said = None } ∷ [], Finds.found by.0 e a by.1 (secret_is, kept_is ∙ grown) refl, ready)) file.either

module _ {D : Type 0} (d : Ghosts D) (x : Exchange (D × State)) where
  module _ (route : Route) (routed : IsRouted x.head.verb x.head.path (Ok route)) where
    takes_at : PublishesShut → (between : D) (settled : State) → settled.waiting ≡ None → Steps d between x.after.0 x.moment (command_of route.place route.id x.head.key x.body) settled x.after.1 x.due.said
        → (own : List Taken) × Takes x settled own × WaitsByStep x.after.1
    takes_at shut between settled ready (Steps.no_event content event a r is c) = (
      record { asked = asked x route; said = Some x.due.said } ∷ [],
      Takes.one (asked x route) (plain_step x route routed settled content event r is c) refl,
      subst WaitsByStep (sym is) (ready_waits settled ready),
    )
    takes_at shut between settled ready (Steps.kept content e event can count appended r is c) = (
      record { asked = asked x route; said = Some x.due.said } ∷ [],
      Takes.one (asked x route) (kept_step x route routed settled content e event r is c) refl,
      subst WaitsByStep (sym is) (ready_waits (ready_with settled.secret (settled.kept ++ e ∷ [])) refl),
    )
    takes_at shut between settled ready (Steps.failed e event up is c) =
        let waits : WaitsByStep (waits_with settled e) = λ other some. (asked x route, event ∙ some) in
        ([], Takes.nothing (TellsNoStep.store_fault c) (has_kept x.after.1 (waits_with settled e) is) refl, subst WaitsByStep (sym is) waits)
    takes_at shut between settled ready (Steps.memory id what p a is c) =
        ([], Takes.nothing (TellsNoStep.memory (inr (due_result shut x route routed settled id what p)) c) (has_kept x.after.1 settled is) refl, subst WaitsByStep (sym is) (ready_waits settled ready))

    steps_go : (between : D) (settled : State) → (HasRisen (d.faults x.before.0) (d.faults x.after.0) → ⊥) → x.due.said.memory ≡ false → between ≡ x.before.0
        → Steps d between x.after.0 x.moment (command_of route.place route.id x.head.key x.body) settled x.after.1 x.due.said → IsStepAt x settled (asked x route)
    steps_go between settled none plain still (Steps.no_event content event a r is c) = plain_step x route routed settled content event r is c
    steps_go between settled none plain still (Steps.kept content e event can count appended r is c) = kept_step x route routed settled content e event r is c
    steps_go between settled none plain still (Steps.failed e event up is c) =
        absurd (not_counted (d.faults x.before.0) (d.faults x.after.0) none (subst (λ (y : D). d.faults x.after.0 ≡ counted (d.faults y)) still up))
    steps_go between settled none plain still (Steps.memory id what p a is c) = absurd (not_memory x.due.said plain c)

  -- the steps of the request, from the state at which it is answered
  abbrev pub GoesAt : State → Type 0
  GoesAt settled = (found own : List Taken) × Finds x.before.1 settled found × Takes x settled own × WaitsByStep x.after.1

  pub goes_nowhere : WaitsByStep x.before.1 → x.after.1 ≡ x.before.1 → TellsNoStep x x.before.1 → GoesAt x.before.1
  goes_nowhere waits is tells =
      ([], [], Finds.nothing (refl, refl) refl, Takes.nothing tells (has_kept x.after.1 x.before.1 is) refl, subst WaitsByStep (sym is) waits)

  pub goes_on : PublishesShut → (route : Route) (between : D) (settled : State) → IsRouted x.head.verb x.head.path (Ok route) → d.is_honest x.before.0 → WaitsByStep x.before.1
      → Settles d x.before.0 between x.before.1 settled None
      → Steps d between x.after.0 x.moment (command_of route.place route.id x.head.key x.body) settled x.after.1 x.due.said → GoesAt settled
  goes_on shut route between settled routed honest waits settles steps =
      let (found, finds, ready) = finds_at d x.before.0 between x.before.1 settled honest waits settles in
      let (own, takes, after) = takes_at route routed shut between settled ready steps in
      (found, own, finds, takes, after)

  pub goes_by_step : (HasRisen (d.faults x.before.0) (d.faults x.after.0) → ⊥) → x.due.said.memory ≡ false → x.before.1.waiting ≡ None
      → Responds d x.before.0 x.after.0 x.head x.body x.moment x.before.1 x.after.1 x.due.said → IsUnrouted x ⊎ ((a : Asked) × IsStep x a)
  goes_by_step none plain ready (Responds.no_route a b is c) = inl (is, inl c)
  goes_by_step none plain ready (Responds.method allow a b is c) = inl (is, inr (allow, c))
  goes_by_step none plain ready (Responds.at_once route a settles) = absurd (never_at_once d x.before.0 x.after.0 x.before.1 x.after.1 x.due.said ready settles)
  goes_by_step none plain ready (Responds.stepped route between settled routed settles one steps two) =
      let (same, still) = settled_still d x.before.0 between x.before.1 settled ready settles in
      inr (asked x route, subst (λ (s : State). IsStepAt x s (asked x route)) same (steps_go route routed between settled none plain still steps))
  goes_by_step none plain ready (Responds.memory way led reads a is c) = absurd (not_memory x.due.said plain c)
