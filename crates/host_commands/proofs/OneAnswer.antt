-- A request at a host that is ready is answered in one way where no call of the disk fails and memory suffices.
use Rattle.std.proofs.Common.{◌≡◌, ℕ, ◌+◌, ◌-◌, ◌^◌, ◌<◌, ◌≤◌, true, false, List, [], ◌∷◌, ◌++◌, is_some, Option, None, Some, option_and_then, Ok, Err, sym, ap, ◌∙◌, subst, inl, inr, ⊎_elim, append-nil, arith, true≢false}
use Rattle.std.specs.Option.{option_to_list}
use Rattle.std.proofs.Math.Nat.{min-eq_left, min-eq_right}
use Rattle.std.proofs.lemmas.Bool.{cases_lt}
use Rattle.std.proofs.lemmas.Fmt.{decimal_injective}
use Rattle.split_base.specs.declared.disk.Disk.{Ghosts}
use Rattle.split_base.specs.Faults.{HasRisen, counted}
use Rattle.host_journal.specs.States.{State, host_in, ready_with}
use Rattle.reply_texts.specs.declared.contents.ContentType.TheVariants.{Json}
use Rattle.reply_texts.specs.Contents.{ContentView, memory_told, method_told, refusal_told, told_as}
use Rattle.publications.specs.Publications.{IsPublication, case_data}
use Rattle.reply_texts.specs.declared.refusals.ServiceRefusal.TheVariants as service
use Rattle.reply_texts.specs.Replies.{status_of, text_of}
use Rattle.requests.specs.Cases.{Responds, Settles, Steps}
use Rattle.requests.specs.Commands.{command_of}
use Rattle.requests.specs.Replies.{Replies, Shows}
use Rattle.sealed_core.specs.declared.commands.What.{What}
use Rattle.sealed_core.specs.declared.replies.Reply.{Reply}
use Rattle.sealed_core.specs.declared.replies.Reply.TheVariants as reply
use Rattle.sealed_core.specs.Host.{AreCheckedInstances, EventView, HostView, InstanceView, IsCheckedInstance, apply, instance_at}
use Rattle.sealed_core.specs.Runs.{host_of}
use Rattle.sealed_core.specs.Sealed.{with_event}
use Rattle.sealed_core.specs.Step.{CommandView, step}
use Rattle.serving_laws.specs.Writing.{AnswerAlike}
use Rattle.split_http.specs.declared.head.Head.{Head}
use Rattle.split_http.specs.declared.head.Verb.{Verb}
use Rattle.split_http.specs.declared.replies.Allow.{Allow}
use Rattle.split_http.specs.declared.routes.Route.{Route}
use Rattle.split_http.specs.declared.routes.RouteFault.TheVariants.{NoRoute, Method}
use Rattle.split_http.specs.Places.{Endpoint, IsId, IsRouted, endpoint_of, has_verb, id_text}
use Rattle.split_json.specs.Reading.{CaseData, IsReady}
use Rattle.host_commands.proofs.Sound.{IsSound, sound_found, sound_state, sound_step}

-- ---- a request leads to one place

same_place : (a b : Endpoint) → Some a ≡ Some b → (a.0 ≡ b.0) × (a.1 ≡ b.1)
same_place a b is = let one : a ≡ b = cc in (ap (λ (x : Endpoint). x.0) one, ap (λ (x : Endpoint). x.1) one)

none_some : (o : Option Endpoint) (e : Endpoint) → o ≡ None → o ≡ Some e → ⊥
none_some o e none some = absurd (cc)

verb_apart : (allow other : Allow) (verb : Verb) → allow ≡ other → has_verb allow verb ≡ true → has_verb other verb ≡ false → ⊥
verb_apart allow other verb same has none = true≢false (sym has ∙ ap (λ (a : Allow). has_verb a verb) same ∙ none)

one_id : (text : List ℕ) (a b : ℕ) → IsId text a → IsId text b → a ≡ b
one_id text a b (inl (some, small, is)) (inl (some', small', is')) = decimal_injective a b (omega (arith, small)) (omega (arith, small')) (sym is ∙ is')
one_id text a b (inl (some, small, is)) (inr (zero, none)) = absurd (none a some small is)
one_id text a b (inr (zero, none)) (inl (some, small, is)) = absurd (none b some small is)
one_id text a b (inr (zero, none)) (inr (zero', none')) = zero ∙ sym zero'

one_route : (verb : Verb) (path : Option (List ℕ)) (a b : Route) → IsRouted verb path (Ok a) → IsRouted verb path (Ok b) → (a.place ≡ b.place) × (a.id ≡ b.id)
one_route verb path a b (bytes, p, (allow, e, v), i) (other, q, (allows, f, w), j) =
    let path_is : Some bytes ≡ Some other = sym p ∙ q in
    let same : bytes ≡ other = cc in (
      (same_place (a.place, allow) (b.place, allows) (sym e ∙ ap endpoint_of same ∙ f)).0,
      one_id (id_text other) a.id b.id (subst (λ (l : List ℕ). IsId (id_text l) a.id) same i) j,
    )

-- where its path leads
leads : (verb : Verb) (path : Option (List ℕ)) (a : Route) → IsRouted verb path (Ok a) → (allow : Allow) × (option_and_then endpoint_of path ≡ Some (a.place, allow)) × (has_verb allow verb ≡ true)
leads verb path a (bytes, p, (allow, e, v), i) = (allow, ap (λ (o : Option (List ℕ)). option_and_then endpoint_of o) p ∙ e, v)

-- ---- a step has one reply

-- the state after the step
abbrev stepped_to : State → ℕ → CommandView → State
stepped_to s t command = ready_with s.secret (s.kept ++ option_to_list (step (host_in s) t command).event)

state_is : (s : State) → s.waiting ≡ None → s ≡ ready_with s.secret s.kept
state_is s ready = λ i. record { secret = s.secret; kept = s.kept; waiting = ready i }

data Answers (s new : State) (head : Head) (body : List ℕ) (moment : ℕ) (said : ContentView) : Type 0 where
  no_route : IsRouted head.verb head.path (Err NoRoute) → new ≡ s → said ≡ refusal_told service.NoRoute → Answers s new head body moment said
  method : (allow : Allow) → IsRouted head.verb head.path (Err (Method allow)) → new ≡ s → said ≡ method_told allow → Answers s new head body moment said
  stepped : (route : Route) (told : ContentView) → IsRouted head.verb head.path (Ok route) → new ≡ stepped_to s moment (command_of route.place route.id head.key body) → IsSound new
      → Shows (host_in new) (step (host_in s) moment (command_of route.place route.id head.key body)).reply told → said ≡ told → Answers s new head body moment said

-- what holds of publications and of the host after an event
pub record OneWay : Type 0 where
  pub ready : (i : InstanceView) → IsCheckedInstance i → IsReady (case_data i)
  pub one_told : (given : CaseData) (asked : What) (told other : ContentView) → IsReady given → IsPublication given asked told → IsPublication given asked other → told ≡ other
  pub one_more : (secret : List ℕ) (events : List EventView) (e : EventView) → host_of secret (events ++ e ∷ []) ≡ apply (host_of secret events) e

own_text : (h : HostView) (r : Reply) (a b : List ℕ) → text_of h r ≡ Some a → text_of h r ≡ Some b → a ≡ b
own_text h r a b one two = let same : Some a ≡ Some b = sym one ∙ two in cc

no_text : (h : HostView) (r : Reply) (id : ℕ) (asked : What) (bytes : List ℕ) → r ≡ reply.Publish id asked → text_of h r ≡ Some bytes → ⊥
no_text h r id asked bytes is text = let none : None ≡ Some bytes = sym (ap (text_of h) is) ∙ text in true≢false (sym (ap is_some none))

one_found : (o : Option InstanceView) (i j : InstanceView) → o ≡ Some i → o ≡ Some j → i ≡ j
one_found o i j one two = let same : Some i ≡ Some j = sym one ∙ two in cc

shows_once : OneWay → (h : HostView) (r : Reply) (told other : ContentView) → AreCheckedInstances h.instances → Shows h r told → Shows h r other → told ≡ other
shows_once laws h r told other sound (Shows.own bytes text is) (Shows.own bytes' text' is') =
    is ∙ ap (λ (b : List ℕ). told_as (status_of r) Json b) (own_text h r bytes bytes' text text') ∙ sym is'
shows_once laws h r told other sound (Shows.own bytes text is) (Shows.published id asked i was found so) = absurd (no_text h r id asked bytes was text)
shows_once laws h r told other sound (Shows.published id asked i was found so) (Shows.own bytes text is) = absurd (no_text h r id asked bytes was text)
shows_once laws h r told other sound (Shows.published id asked i was found so) (Shows.published id' asked' j was' found' so') =
    let one : reply.Publish id' asked' ≡ reply.Publish id asked = sym was' ∙ was in
    let id_is : id' ≡ id = cc in
    let asked_is : asked' ≡ asked = cc in
    let j_is : j ≡ i = one_found (instance_at h id) j i (subst (λ (n : ℕ). instance_at h n ≡ Some j) id_is found') found in
    laws.one_told (case_data i) asked told other (laws.ready i (sound_found h id i sound found)) so
    (subst (λ (a : What). IsPublication (case_data i) a other) asked_is (subst (λ (k : InstanceView). IsPublication (case_data k) asked' other) j_is so'))

-- ---- what is answered

counted_rises : (n : ℕ) → HasRisen n (counted n)
counted_rises n =
    ⊎_elim (λ (full : 2 ^ 64 - 1 < n + 1). inr (min-eq_right (omega (arith, full))))
    (λ (room : n + 1 ≤ 2 ^ 64 - 1). let is : counted n ≡ n + 1 = min-eq_left room in inl (subst (λ m. n < m) (sym is) (omega arith))) (cases_lt (2 ^ 64 - 1) (n + 1))

not_waiting : (s : State) (e : EventView) → s.waiting ≡ None → s.waiting ≡ Some e → ⊥
not_waiting s e none some = absurd (cc)

lacks_none : (said : ContentView) → said.memory ≡ false → said ≡ memory_told → ⊥
lacks_none said plain is = true≢false (sym (ap (λ (x : ContentView). x.memory) is) ∙ plain)

module _ {D : Type 0} (d : Ghosts D) (laws : OneWay) (head : Head) (body : List ℕ) (moment : ℕ) (w new : D × State) (said : ContentView) (ready : w.1.waiting ≡ None) (sound : IsSound w.1)
    (still : HasRisen (d.faults w.0) (d.faults new.0) → ⊥) (plain : said.memory ≡ false) where
  goes_no_further : Settles d w.0 new.0 w.1 new.1 (Some said) → ⊥
  goes_no_further (Settles.ready none same is so) = absurd (cc)
  goes_no_further (Settles.store_fault e waits up torn is so) = not_waiting w.1 e ready waits
  goes_no_further (Settles.damaged e place waits same first never is so) = not_waiting w.1 e ready waits
  goes_no_further (Settles.opened e secret kept waits same told can is so) = absurd (cc)

  at_once_ready : (between : D) (settled : State) → Settles d w.0 between w.1 settled None → (settled ≡ w.1) × (between ≡ w.0)
  at_once_ready between settled (Settles.ready none same is so) = (is, same)
  at_once_ready between settled (Settles.store_fault e waits up torn is so) = absurd (cc)
  at_once_ready between settled (Settles.damaged e place waits same first never is so) = absurd (cc)
  at_once_ready between settled (Settles.opened e secret kept waits same told can is so) = absurd (not_waiting w.1 e ready waits)

  module _ (route : Route) (routed : IsRouted head.verb head.path (Ok route)) where
    abbrev asks : CommandView
    asks = command_of route.place route.id head.key body

    by_step : (told : ContentView) (o : Option EventView) → (step (host_in w.1) moment asks).event ≡ o → new.1 ≡ ready_with w.1.secret (w.1.kept ++ option_to_list o) → with_event (host_in w.1) o ≡ host_in new.1
        → IsSound new.1 → Replies (host_in w.1) moment asks told → said ≡ told → Answers w.1 new.1 head body moment said
    by_step told o event is leaves good replies so = Answers.stepped route told routed
        (is ∙ ap (λ (p : Option EventView). ready_with w.1.secret (w.1.kept ++ option_to_list p)) (sym event)) good
        (subst (λ (h : HostView). Shows h (step (host_in w.1) moment asks).reply told) (ap (with_event (host_in w.1)) event ∙ leaves) replies) so

    from_step : (between : D) → between ≡ w.0 → Steps d between new.0 moment asks w.1 new.1 said → Answers w.1 new.1 head body moment said
    from_step between same (Steps.no_event told none rest replies is so) =
        by_step told None none (is ∙ state_is w.1 ready ∙ ap (λ (l : List EventView). ready_with w.1.secret l) (sym (append-nil w.1.kept))) (ap host_in (sym is)) (subst IsSound (sym is) sound) replies so
    from_step between same (Steps.kept told e event can faults appended replies is so) =
        by_step told (Some e) event is (sym (laws.one_more w.1.secret w.1.kept e) ∙ ap host_in (sym is))
        (sound_step d between new.0 moment asks w.1 new.1 said (Steps.kept told e event can faults appended replies is so) sound) replies so
    from_step between same (Steps.failed e event up is so) =
        absurd (still (subst (λ (n : ℕ). HasRisen (d.faults w.0) n) (sym (subst (λ (x : D). d.faults new.0 ≡ counted (d.faults x)) same up)) (counted_rises (d.faults w.0))))
    from_step between same (Steps.memory id what published rest is so) = absurd (lacks_none said plain so)

  answers_so : Responds d w.0 new.0 head body moment w.1 new.1 said → Answers w.1 new.1 head body moment said
  answers_so (Responds.no_route routed same is so) = Answers.no_route routed is so
  answers_so (Responds.method allow routed same is so) = Answers.method allow routed is so
  answers_so (Responds.at_once route routed settles) = absurd (goes_no_further settles)
  answers_so (Responds.stepped route between settled routed settles one steps two) =
      let (same, rest) = at_once_ready between settled settles in
      from_step route routed between rest (subst (λ (s : State). Steps d between new.0 moment (command_of route.place route.id head.key body) s new.1 said) same steps)
  answers_so (Responds.memory way led reads same is so) = absurd (lacks_none said plain so)

module _ (laws : OneWay) (s : State) (head : Head) (body : List ℕ) (moment : ℕ) (new other : State) (said told : ContentView) where
  same_answers : Answers s new head body moment said → Answers s other head body moment told → (new ≡ other) × (said ≡ told)
  same_answers (Answers.no_route routed is so) (Answers.no_route routed' is' so') = (is ∙ sym is', so ∙ sym so')
  same_answers (Answers.no_route routed is so) (Answers.method allow (p, e, v) is' so') = absurd (none_some (option_and_then endpoint_of head.path) (p, allow) routed e)
  same_answers (Answers.no_route routed is so) (Answers.stepped route content routed' is' good shows so') =
      let (allow, e, v) = leads head.verb head.path route routed' in absurd (none_some (option_and_then endpoint_of head.path) (route.place, allow) routed e)
  same_answers (Answers.method allow (p, e, v) is so) (Answers.no_route routed' is' so') = absurd (none_some (option_and_then endpoint_of head.path) (p, allow) routed' e)
  same_answers (Answers.method allow (p, e, v) is so) (Answers.method allow' (q, f, w) is' so') =
      (is ∙ sym is', so ∙ ap method_told (same_place (p, allow) (q, allow') (sym e ∙ f)).1 ∙ sym so')
  same_answers (Answers.method allow (p, e, v) is so) (Answers.stepped route content routed' is' good shows so') =
      let (allow', f, w) = leads head.verb head.path route routed' in
      absurd (verb_apart allow' allow head.verb (same_place (route.place, allow') (p, allow) (sym f ∙ e)).1 w v)
  same_answers (Answers.stepped route content routed is good shows so) (Answers.no_route routed' is' so') =
      let (allow, e, v) = leads head.verb head.path route routed in absurd (none_some (option_and_then endpoint_of head.path) (route.place, allow) routed' e)
  same_answers (Answers.stepped route content routed is good shows so) (Answers.method allow (p, e, v) is' so') =
      let (allow', f, w) = leads head.verb head.path route routed in
      absurd (verb_apart allow' allow head.verb (same_place (route.place, allow') (p, allow) (sym f ∙ e)).1 w v)
  same_answers (Answers.stepped route content routed is good shows so) (Answers.stepped route' content' routed' is' good' shows' so') =
      let (places, ids) = one_route head.verb head.path route route' routed routed' in
      let command_is : command_of route.place route.id head.key body ≡ command_of route'.place route'.id head.key body = λ i. command_of (places i) (ids i) head.key body in
      let state_is : new ≡ other = is ∙ ap (λ (c : CommandView). stepped_to s moment c) command_is ∙ sym is' in
      let shows_there : Shows (host_in new) (step (host_in s) moment (command_of route.place route.id head.key body)).reply content' =
      subst (λ (c : CommandView). Shows (host_in new) (step (host_in s) moment c).reply content') (sym command_is)
      (subst (λ (n : State). Shows (host_in n) (step (host_in s) moment (command_of route'.place route'.id head.key body)).reply content') (sym state_is) shows') in
      let content_is = shows_once laws (host_in new) (step (host_in s) moment (command_of route.place route.id head.key body)).reply content content' (sound_state new good) shows shows_there in
      (state_is, so ∙ content_is ∙ sym so')

-- what is left by an answer is ready and sound
left_ready : (s new : State) (head : Head) (body : List ℕ) (moment : ℕ) (said : ContentView) → s.waiting ≡ None → IsSound s → Answers s new head body moment said → (new.waiting ≡ None) × IsSound new
left_ready s new head body moment said ready sound (Answers.no_route routed is so) = (ap (λ (x : State). x.waiting) is ∙ ready, subst IsSound (sym is) sound)
left_ready s new head body moment said ready sound (Answers.method allow routed is so) = (ap (λ (x : State). x.waiting) is ∙ ready, subst IsSound (sym is) sound)
left_ready s new head body moment said ready sound (Answers.stepped route content routed is good shows so) = (ap (λ (x : State). x.waiting) is, good)

pub one_answer : {D : Type 0} (d : Ghosts D) → OneWay → AnswerAlike d
one_answer d laws head body moment w v new other said told (same, ready, sound) one two =
    let first = answers_so d laws head body moment w new said ready sound one.still one.plain one.responds in
    let second = answers_so d laws head body moment v other told (ap (λ (x : State). x.waiting) (sym same) ∙ ready) (subst IsSound same sound) two.still two.plain two.responds in
    let so = same_answers laws w.1 head body moment new.1 other.1 said told first (subst (λ (s : State). Answers s other.1 head body moment told) (sym same) second) in
    let left = left_ready w.1 new.1 head body moment said ready sound first in
    ((so.0, left.0, left.1), so.1)
