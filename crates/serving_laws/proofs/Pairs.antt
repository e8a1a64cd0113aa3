-- Two runs whose requests are pairs take steps that are alike.
use Rattle.std.proofs.Common.{◌≡◌, ◌⊎◌, ◌↔◌, ℕ, true, false, List, [], ◌∷◌, ◌++◌, length, is_some, None, Some, Ok, Err, refl, sym, ap, ◌∙◌, subst, inl, inr, arith, length-append, true≢false}
use Rattle.std.specs.Option.{option_to_list}
use Rattle.split_base.specs.declared.disk.Disk.{Ghosts}
use Rattle.host_journal.specs.States.{State, host_in, ready_with, waits_with}
use Rattle.serving.specs.Exchanges.{Answered, Exchange}
use Rattle.serving.specs.Serving.{host_service}
use Rattle.reply_texts.specs.declared.refusals.ServiceRefusal.TheVariants as service
use Rattle.requests.specs.Commands.{command_of}
use Rattle.reply_texts.specs.Contents.{ContentView, memory_told, method_told, refusal_told}
use Rattle.sealed_core.specs.Host.{EventView, HostView}
use Rattle.sealed_core.specs.Sealed.{AreAlike, Asked, Caller, KeepsBid, RunAlike, with_event, next}
use Rattle.sealed_core.specs.Step.{step}
use Rattle.split_http.specs.declared.head.Head.{Head}
use Rattle.split_http.specs.declared.routes.Route.{Route}
use Rattle.split_http.specs.declared.routes.RouteFault.{RouteFault}
use Rattle.split_http.specs.declared.routes.RouteFault.TheVariants.{NoRoute, Method}
use Rattle.split_http.specs.Places.{IsRouted}
use Rattle.serving_laws.specs.Accepting.{Makes}
use Rattle.serving_laws.specs.Answering.{HasAnswer}
use Rattle.serving_laws.specs.Handling.{AreHandled, IsHandled}
use Rattle.serving_laws.specs.Heard.{Finds, HasKept, IsStepAt, Taken, Takes, TakesSteps, asked_of, replied_of}
use Rattle.serving_laws.specs.Moving.{IsReadyFor}
use Rattle.serving_laws.specs.Pairs.{ArePairs, AskAlike, IsPair, MakesBid, RepliesAlike, ReplyAlike}
use Rattle.serving_laws.specs.Sealing.{MayLackMemory, TellsNoStep}
use Rattle.serving_laws.proofs.HeardRuns.{OneMore, applied_is, has_kept, host_is, never_waits}
use Rattle.serving_laws.proofs.MemoryReplies.{StepsTell}
use Rattle.serving_laws.proofs.OwnSteps.{asked}
use Rattle.serving_laws.proofs.Routed.{never_routed, one_fault, one_route}

-- what is said where a request leads nowhere
abbrev refusal_of : RouteFault → ContentView
refusal_of NoRoute = refusal_told service.NoRoute
refusal_of (Method allow) = method_told allow

refusal_plain : (fault : RouteFault) → (refusal_of fault).memory ≡ false
refusal_plain NoRoute = refl
refusal_plain (Method allow) = refl

never_longer : (events : List EventView) (e : EventView) → events ≡ events ++ e ∷ [] → ⊥
never_longer events e is = omega (arith, ap length is, length-append events (e ∷ []))

module _ (id : ℕ) (caller : Caller) where
  -- no event waits at both; or one waits at each, made by steps that are alike
  pub data WaitAlike (s t : State) : Type 0 where
    neither_waits : s.waiting ≡ None → t.waiting ≡ None → WaitAlike s t
    both_wait_so : (a b : Asked) (e f : EventView) → AreAlike (host_in s) (host_in t) id caller a b → s.waiting ≡ Some e → t.waiting ≡ Some f
        → (step (host_in s) a.moment a.command).event ≡ Some e → (step (host_in t) b.moment b.command).event ≡ Some f → WaitAlike s t

  -- these steps lead from the first two hosts to the others, alike pair by pair, and the same ones have a reply
  record Go (g h g_after h_after : HostView) (steps besides : List Taken) : Type 0 where
    alike : (later after : List Taken) → RunAlike g_after h_after id caller (asked_of later) (asked_of after)
        → RunAlike g h id caller (asked_of (steps ++ later)) (asked_of (besides ++ after))
    replied : (later after : List Taken) → replied_of later ≡ replied_of after → replied_of (steps ++ later) ≡ replied_of (besides ++ after)

  no_steps : (g h g_after h_after : HostView) → g_after ≡ g → h_after ≡ h → Go g h g_after h_after [] []
  no_steps g h g_after h_after same also = record {
    alike = λ later after run. subst (λ (k : HostView). RunAlike k h id caller (asked_of later) (asked_of after)) same
        (subst (λ (k : HostView). RunAlike g_after k id caller (asked_of later) (asked_of after)) also run);
    replied = λ later after replied. replied;
  }

  one_step : (g h g_after h_after : HostView) (a b : Taken) → AreAlike g h id caller a.asked b.asked → is_some a.said ≡ is_some b.said → g_after ≡ next g a.asked → h_after ≡ next h b.asked
      → Go g h g_after h_after (a ∷ []) (b ∷ [])
  one_step g h g_after h_after a b alike said same also = record {
    alike = λ later after run. (
      alike,
      subst (λ (k : HostView). RunAlike k (next h b.asked) id caller (asked_of later) (asked_of after)) same
          (subst (λ (k : HostView). RunAlike g_after k id caller (asked_of later) (asked_of after)) also run),
    );
    replied = λ later after replied. λ i. said i ∷ replied i;
  }

  waits_so : (s t now then : State) → now ≡ s → then ≡ t → WaitAlike s t → WaitAlike now then
  waits_so s t now then same also waits = subst (λ (x : State). WaitAlike x then) (sym same) (subst (λ (x : State). WaitAlike s x) (sym also) waits)

  first_waits : (s t : State) (e : EventView) → WaitAlike s t → s.waiting ≡ Some e → t.waiting ≡ None → ⊥
  first_waits s t e (WaitAlike.neither_waits ready also) waits still = never_waits s.waiting e ready waits
  first_waits s t e (WaitAlike.both_wait_so a b i j alike was other event besides) waits still = never_waits t.waiting j still other

  second_waits : (s t : State) (e : EventView) → WaitAlike s t → s.waiting ≡ None → t.waiting ≡ Some e → ⊥
  second_waits s t e (WaitAlike.neither_waits ready also) still waits = never_waits t.waiting e also waits
  second_waits s t e (WaitAlike.both_wait_so a b i j alike was other event besides) still waits = never_waits s.waiting i still was

  -- ---- the steps of events that waited

  -- the steps before the requests' own
  record Found (b c s t : State) : Type 0 where
    first : List Taken
    second : List Taken
    finds : Finds b s first
    also : Finds c t second
    go : Go (host_in b) (host_in c) (host_in s) (host_in t) first second
    waits : WaitAlike s t

  found_none : (b c s t : State) → HasKept s b.secret b.kept → HasKept t c.secret c.kept → WaitAlike s t → Found b c s t
  found_none b c s t same also waits = record {
    first = [];
    second = [];
    finds = Finds.nothing same refl;
    also = Finds.nothing also refl;
    go = no_steps (host_in b) (host_in c) (host_in s) (host_in t) (host_is s b.secret b.kept same) (host_is t c.secret c.kept also);
    waits = waits;
  }

  module _ (one_more : OneMore) (alone : StepsTell) where
    goes_to : (b s : State) (a : Asked) (e : EventView) → (step (host_in b) a.moment a.command).event ≡ Some e → s ≡ ready_with b.secret (b.kept ++ e ∷ []) → host_in s ≡ next (host_in b) a
    goes_to b s a e event is = ap host_in is ∙ one_more b.secret b.kept e ∙ ap (with_event (host_in b)) (sym event)

    found_one : (b c s t : State) (e f : EventView) → WaitAlike b c → b.waiting ≡ Some e → c.waiting ≡ Some f
        → s ≡ ready_with b.secret (b.kept ++ e ∷ []) → t ≡ ready_with c.secret (c.kept ++ f ∷ []) → Found b c s t
    found_one b c s t e f (WaitAlike.neither_waits ready set) waits other is so = absurd (never_waits b.waiting e ready waits)
    found_one b c s t e f (WaitAlike.both_wait_so p q i j alike was had event besides) waits other is so =
        let made : (step (host_in b) p.moment p.command).event ≡ Some e = event ∙ sym was ∙ waits in
        let makes : (step (host_in c) q.moment q.command).event ≡ Some f = besides ∙ sym had ∙ other in record {
          first = record { asked = p; said = None } ∷ [];
          second = record { asked = q; said = None } ∷ [];
          finds = Finds.found p e waits made (has_kept s (ready_with b.secret (b.kept ++ e ∷ [])) is) refl;
          also = Finds.found q f other makes (has_kept t (ready_with c.secret (c.kept ++ f ∷ [])) so) refl;
          go = one_step (host_in b) (host_in c) (host_in s) (host_in t) (record { asked = p; said = None }) (record { asked = q; said = None }) alike refl
              (goes_to b s p e made is) (goes_to c t q f makes so);
          waits = WaitAlike.neither_waits (ap (λ (x : State). x.waiting) is) (ap (λ (x : State). x.waiting) so);
        }

    ready_now : (c t : State) (f : EventView) → (t ≡ ready_with c.secret c.kept) ⊎ (t ≡ ready_with c.secret (c.kept ++ f ∷ [])) → t.waiting ≡ None
    ready_now c t f (inl still) = ap (λ (x : State). x.waiting) still
    ready_now c t f (inr grown) = ap (λ (x : State). x.waiting) grown

    found_alike : (b c s t : State) → WaitAlike b c → IsReadyFor b s → IsReadyFor c t → ((s.waiting ≡ None) ↔ (t.waiting ≡ None)) → ((s.kept ≡ b.kept) ↔ (t.kept ≡ c.kept)) → Found b c s t
    found_alike b c s t waits (inl same) (inl also) opened found = found_none b c s t (has_kept s b same) (has_kept t c also) (waits_so b c s t same also waits)
    found_alike b c s t waits (inl same) (inr (f, wait, so)) opened found =
        absurd (second_waits b c f waits (ap (λ (x : State). x.waiting) (sym same) ∙ opened.1 (ready_now c t f so)) wait)
    found_alike b c s t waits (inr (e, wait, is)) (inl also) opened found =
        absurd (first_waits b c e waits wait (ap (λ (x : State). x.waiting) (sym also) ∙ opened.0 (ready_now b s e is)))
    found_alike b c s t waits (inr (e, wait, inl still)) (inr (f, waited, inl also)) opened found =
        found_none b c s t (has_kept s (ready_with b.secret b.kept) still) (has_kept t (ready_with c.secret c.kept) also)
        (WaitAlike.neither_waits (ap (λ (x : State). x.waiting) still) (ap (λ (x : State). x.waiting) also))
    found_alike b c s t waits (inr (e, wait, inl still)) (inr (f, waited, inr grown)) opened found =
        absurd (never_longer c.kept f (sym (found.0 (ap (λ (x : State). x.kept) still)) ∙ ap (λ (x : State). x.kept) grown))
    found_alike b c s t waits (inr (e, wait, inr grown)) (inr (f, waited, inl still)) opened found =
        absurd (never_longer b.kept e (sym (found.1 (ap (λ (x : State). x.kept) still)) ∙ ap (λ (x : State). x.kept) grown))
    found_alike b c s t waits (inr (e, wait, inr grown)) (inr (f, waited, inr more)) opened found = found_one b c s t e f waits wait waited grown more

    -- ---- the requests' own steps

    module _ {D : Type 0} where
      -- a step that the request asks for
      record Asks (x : Exchange (D × State)) (a : Asked) : Type 0 where
        route : Route
        routed : IsRouted x.head.verb x.head.path (Ok route)
        moment : a.moment ≡ x.moment
        command : a.command ≡ command_of route.place route.id x.head.key x.body

      asks_it : (x : Exchange (D × State)) (route : Route) → IsRouted x.head.verb x.head.path (Ok route) → Asks x (asked x route)
      asks_it x route routed = record { route = route; routed = routed; moment = refl; command = refl }

      asks_step : (x : Exchange (D × State)) (s : State) (a : Asked) → IsStepAt x s a → Asks x a
      asks_step x s a at = record { route = at.route; routed = at.routed; moment = at.moment; command = at.command }

      keeps_bid : (x : Exchange (D × State)) (s : State) (k m : ℕ) (a : Asked) → Asks x a → MakesBid x s k m → KeepsBid (host_in s) k m a
      keeps_bid x s k m a asks (now, turn, given, (route, routed, event)) =
          let (places, ids) = one_route x.head.verb x.head.path asks.route route asks.routed routed in
          let command_is : a.command ≡ command_of route.place route.id x.head.key x.body = asks.command ∙ (λ i. command_of (places i) (ids i) x.head.key x.body) in
          (now, turn, given, (λ i. (step (host_in s) (asks.moment i) (command_is i)).event) ∙ event)

      asks_alike : (x y : Exchange (D × State)) (s t : State) (a b : Asked) → AskAlike id caller x y s t → Asks x a → Asks y b → AreAlike (host_in s) (host_in t) id caller a b
      asks_alike x y s t a b (inl same) one two =
          let routed : IsRouted x.head.verb x.head.path (Ok two.route) = subst (λ (h : Head). IsRouted h.verb h.path (Ok two.route)) (sym same.head) two.routed in
          let (places, ids) = one_route x.head.verb x.head.path one.route two.route one.routed routed in
          let command_is : a.command ≡ b.command = one.command ∙ (λ i. command_of (places i) (ids i) (same.head i).key (same.body i)) ∙ sym two.command in
          let moment_is : a.moment ≡ b.moment = one.moment ∙ same.moment ∙ sym two.moment in
          inl (λ i. record { moment = moment_is i; command = command_is i })
      asks_alike x y s t a b (inr (came, (k, m, other, made, makes))) one two =
          inr (one.moment ∙ came ∙ sym two.moment, (k, m, other, keeps_bid x s k m a one made, keeps_bid y t k m b two makes))

      first_refused : (x y : Exchange (D × State)) (s t : State) (fault : RouteFault) (route : Route) → AskAlike id caller x y s t
          → IsRouted x.head.verb x.head.path (Err fault) → IsRouted y.head.verb y.head.path (Ok route) → ⊥
      first_refused x y s t fault route (inl same) none routed =
          never_routed x.head.verb x.head.path fault route none (subst (λ (h : Head). IsRouted h.verb h.path (Ok route)) (sym same.head) routed)
      first_refused x y s t fault route (inr (came, (k, m, other, (now, turn, given, (way, led, event)), makes))) none routed = never_routed x.head.verb x.head.path fault way none led

      second_refused : (x y : Exchange (D × State)) (s t : State) (fault : RouteFault) (route : Route) → AskAlike id caller x y s t
          → IsRouted y.head.verb y.head.path (Err fault) → IsRouted x.head.verb x.head.path (Ok route) → ⊥
      second_refused x y s t fault route (inl same) none routed =
          never_routed y.head.verb y.head.path fault route none (subst (λ (h : Head). IsRouted h.verb h.path (Ok route)) same.head routed)
      second_refused x y s t fault route (inr (came, (k, m, other, made, (now, turn, given, (way, led, event))))) none routed = never_routed y.head.verb y.head.path fault way none led

      -- why a request has no step, and leaves the state as it is
      data HasNoStep (x : Exchange (D × State)) (s : State) : Type 0 where
        by_refusal : (fault : RouteFault) → IsRouted x.head.verb x.head.path (Err fault) → x.due.said ≡ refusal_of fault → HasNoStep x s
        by_lack : MayLackMemory x s → x.due.said ≡ memory_told → HasNoStep x s
        by_waiting : (e : EventView) (route : Route) → IsRouted x.head.verb x.head.path (Ok route) → s.waiting ≡ Some e → x.due.said ≡ refusal_told service.StoreFault → HasNoStep x s

      -- a request leaves the state as it is; or with an event that waits; or it goes by a step
      data Leaves (x : Exchange (D × State)) (s : State) : Type 0 where
        stays_so : HasNoStep x s → TellsNoStep x s → x.after.1 ≡ s → Leaves x s
        leaves_waiting : (e : EventView) → s.waiting ≡ None → Makes x s.secret s.kept e → x.after.1 ≡ waits_with s e → x.due.said ≡ refusal_told service.StoreFault → Leaves x s
        goes_by : (a : Asked) → s.waiting ≡ None → IsStepAt x s a → x.after.1.waiting ≡ None → Leaves x s

      leaves : (d : Ghosts D) (x : Exchange (D × State)) (s : State) → d.is_honest x.before.0 → HasAnswer d x s → Leaves x s
      leaves d x s honest (HasAnswer.no_route routed is so) = Leaves.stays_so (HasNoStep.by_refusal NoRoute routed so) (TellsNoStep.no_route routed so) is
      leaves d x s honest (HasAnswer.method allow routed is so) = Leaves.stays_so (HasNoStep.by_refusal (Method allow) routed so) (TellsNoStep.method allow routed so) is
      leaves d x s honest (HasAnswer.answered a ready at after) = Leaves.goes_by a ready at after
      leaves d x s honest (HasAnswer.memory may is so) = Leaves.stays_so (HasNoStep.by_lack may so) (TellsNoStep.memory may so) is
      leaves d x s honest (HasAnswer.not_opened route e routed waits risen is so) = Leaves.stays_so (HasNoStep.by_waiting e route routed waits so) (TellsNoStep.store_fault so) is
      leaves d x s honest (HasAnswer.not_kept e ready makes risen is so) = Leaves.leaves_waiting e ready makes is so
      leaves d x s honest (HasAnswer.damaged e place waits first never is so) = absurd (never honest)

      -- a request without a step, and one with a step
      never_apart : (x y : Exchange (D × State)) (s t : State) (a : Asked) → ((fault : RouteFault) (route : Route) → IsRouted x.head.verb x.head.path (Err fault) → IsRouted y.head.verb y.head.path (Ok route) → ⊥)
          → (t.waiting ≡ None → s.waiting ≡ None) → (MayLackMemory x s → x.due.said.memory ≡ y.due.said.memory) → HasNoStep x s → t.waiting ≡ None → IsStepAt y t a → ⊥
      never_apart x y s t a apart opened lack (HasNoStep.by_refusal fault none so) ready at = apart fault at.route none at.routed
      never_apart x y s t a apart opened lack (HasNoStep.by_lack may so) ready at =
          true≢false (sym (ap (λ (p : ContentView). p.memory) so) ∙ lack may ∙ ap (λ (p : ContentView). p.memory) (at.said ∙ alone (host_in t) a.moment a.command at.told at.replies))
      never_apart x y s t a apart opened lack (HasNoStep.by_waiting e route routed waits so) ready at = never_waits s.waiting e (opened ready) waits

      -- the steps of the requests themselves
      record Own (x y : Exchange (D × State)) (s t : State) : Type 0 where
        first : List Taken
        second : List Taken
        takes : Takes x s first
        also : Takes y t second
        reply : ReplyAlike id caller x y s t
        go : Go (host_in s) (host_in t) (host_in x.after.1) (host_in y.after.1) first second
        waits : WaitAlike x.after.1 y.after.1

      own_none : (x y : Exchange (D × State)) (s t : State) → x.due.said ≡ y.due.said → TellsNoStep x s → TellsNoStep y t → HasKept x.after.1 s.secret s.kept → HasKept y.after.1 t.secret t.kept
          → WaitAlike x.after.1 y.after.1 → Own x y s t
      own_none x y s t one tells told same also waits = record {
        first = [];
        second = [];
        takes = Takes.nothing tells same refl;
        also = Takes.nothing told also refl;
        reply = inl one;
        go = no_steps (host_in s) (host_in t) (host_in x.after.1) (host_in y.after.1) (host_is x.after.1 s.secret s.kept same) (host_is y.after.1 t.secret t.kept also);
        waits = waits;
      }

      steps_to : (x : Exchange (D × State)) (s : State) (a : Asked) → IsStepAt x s a → host_in x.after.1 ≡ next (host_in s) a
      steps_to x s a at =
          host_is x.after.1 s.secret (s.kept ++ option_to_list (step (host_in s) a.moment a.command).event) (at.secret, at.kept)
          ∙ applied_is one_more s.secret s.kept (step (host_in s) a.moment a.command).event

      module _ (x y : Exchange (D × State)) (s t : State) (pair : IsPair id caller x y s t) (waits : WaitAlike s t) where
        both_wait : (e f : EventView) → Makes x s.secret s.kept e → Makes y t.secret t.kept f → WaitAlike (waits_with s e) (waits_with t f)
        both_wait e f (route, routed, event) (way, led, other) =
            WaitAlike.both_wait_so (asked x route) (asked y way) e f (asks_alike x y s t (asked x route) (asked y way) pair.ask (asks_it x route routed) (asks_it y way led)) refl refl event other

        one_refusal : (fault other : RouteFault) → AskAlike id caller x y s t → IsRouted x.head.verb x.head.path (Err fault) → IsRouted y.head.verb y.head.path (Err other) → fault ≡ other
        one_refusal fault other (inl same) p q =
            one_fault x.head.verb x.head.path fault other p (subst (λ (h : Head). IsRouted h.verb h.path (Err other)) (sym same.head) q)
        one_refusal fault other (inr (came, (k, m, apart, (now, turn, given, (way, led, event)), makes))) p q = absurd (never_routed x.head.verb x.head.path fault way p led)

        -- memory ran out in one alone
        first_lacks : (q : ContentView) → x.due.said ≡ memory_told → y.due.said ≡ q → q.memory ≡ false → MayLackMemory x s → ⊥
        first_lacks q so is plain may =
            true≢false (sym (ap (λ (r : ContentView). r.memory) so) ∙ pair.lack (inl may) ∙ ap (λ (r : ContentView). r.memory) is ∙ plain)

        second_lacks : (p : ContentView) → x.due.said ≡ p → y.due.said ≡ memory_told → p.memory ≡ false → MayLackMemory y t → ⊥
        second_lacks p is so plain may =
            true≢false (sym (ap (λ (r : ContentView). r.memory) so) ∙ sym (pair.lack (inr may)) ∙ ap (λ (r : ContentView). r.memory) is ∙ plain)

        -- two requests without a step have one reply
        one_reply : HasNoStep x s → HasNoStep y t → x.due.said ≡ y.due.said
        one_reply (HasNoStep.by_refusal fault led so) (HasNoStep.by_refusal other way is) = so ∙ ap refusal_of (one_refusal fault other pair.ask led way) ∙ sym is
        one_reply (HasNoStep.by_refusal fault led so) (HasNoStep.by_lack may is) = absurd (second_lacks (refusal_of fault) so is (refusal_plain fault) may)
        one_reply (HasNoStep.by_refusal fault led so) (HasNoStep.by_waiting e route routed wait is) = absurd (first_refused x y s t fault route pair.ask led routed)
        one_reply (HasNoStep.by_lack may so) (HasNoStep.by_refusal fault led is) = absurd (first_lacks (refusal_of fault) so is (refusal_plain fault) may)
        one_reply (HasNoStep.by_lack may so) (HasNoStep.by_lack can is) = so ∙ sym is
        one_reply (HasNoStep.by_lack may so) (HasNoStep.by_waiting e route routed wait is) = absurd (first_lacks (refusal_told service.StoreFault) so is refl may)
        one_reply (HasNoStep.by_waiting e route routed wait so) (HasNoStep.by_refusal fault led is) = absurd (second_refused x y s t fault route pair.ask led routed)
        one_reply (HasNoStep.by_waiting e route routed wait so) (HasNoStep.by_lack may is) = absurd (second_lacks (refusal_told service.StoreFault) so is refl may)
        one_reply (HasNoStep.by_waiting e route routed wait so) (HasNoStep.by_waiting f way led waited is) = so ∙ sym is

        own_alike : Leaves x s → Leaves y t → Own x y s t
        own_alike (Leaves.stays_so why tells is) (Leaves.stays_so because told so) =
            own_none x y s t (one_reply why because) tells told (has_kept x.after.1 s is) (has_kept y.after.1 t so) (waits_so s t x.after.1 y.after.1 is so waits)
        own_alike (Leaves.stays_so why tells is) (Leaves.leaves_waiting f ready makes so told) =
            absurd (never_waits y.after.1.waiting f (pair.store.kept.0 (ap (λ (z : State). z.waiting) is ∙ pair.store.opened.1 ready)) (ap (λ (z : State). z.waiting) so))
        own_alike (Leaves.stays_so why tells is) (Leaves.goes_by b ready at after) =
            absurd (never_apart x y s t b (λ fault route. first_refused x y s t fault route pair.ask) pair.store.opened.1 (λ may. pair.lack (inl may)) why ready at)
        own_alike (Leaves.leaves_waiting e ready makes is tells) (Leaves.stays_so because told so) =
            absurd (never_waits x.after.1.waiting e (pair.store.kept.1 (ap (λ (z : State). z.waiting) so ∙ pair.store.opened.0 ready)) (ap (λ (z : State). z.waiting) is))
        own_alike (Leaves.leaves_waiting e ready makes is tells) (Leaves.leaves_waiting f set made so told) =
            own_none x y s t (tells ∙ sym told) (TellsNoStep.store_fault tells) (TellsNoStep.store_fault told) (has_kept x.after.1 (waits_with s e) is) (has_kept y.after.1 (waits_with t f) so)
            (waits_so (waits_with s e) (waits_with t f) x.after.1 y.after.1 is so (both_wait e f makes made))
        own_alike (Leaves.leaves_waiting e ready makes is tells) (Leaves.goes_by b set at after) =
            absurd (never_waits x.after.1.waiting e (pair.store.kept.1 after) (ap (λ (z : State). z.waiting) is))
        own_alike (Leaves.goes_by a ready at after) (Leaves.stays_so because told so) =
            absurd (never_apart y x t s a (λ fault route. second_refused x y s t fault route pair.ask) pair.store.opened.0 (λ may. sym (pair.lack (inr may))) because ready at)
        own_alike (Leaves.goes_by a ready at after) (Leaves.leaves_waiting f set made so told) =
            absurd (never_waits y.after.1.waiting f (pair.store.kept.0 after) (ap (λ (z : State). z.waiting) so))
        own_alike (Leaves.goes_by a ready at after) (Leaves.goes_by b set goes later) = record {
          first = record { asked = a; said = Some x.due.said } ∷ [];
          second = record { asked = b; said = Some y.due.said } ∷ [];
          takes = Takes.one a at refl;
          also = Takes.one b goes refl;
          reply = inr (a, b, at, goes, asks_alike x y s t a b pair.ask (asks_step x s a at) (asks_step y t b goes));
          go = one_step (host_in s) (host_in t) (host_in x.after.1) (host_in y.after.1) (record { asked = a; said = Some x.due.said }) (record { asked = b; said = Some y.due.said })
              (asks_alike x y s t a b pair.ask (asks_step x s a at) (asks_step y t b goes)) refl (steps_to x s a at) (steps_to y t b goes);
          waits = WaitAlike.neither_waits after later;
        }

      -- ---- whole runs

      pub record StepsAlike (g h : HostView) (run others : List (Exchange (D × State))) (states twins : List State) : Type 0 where
        pub steps : List Taken
        pub besides : List Taken
        pub taken : TakesSteps run states steps
        pub also : TakesSteps others twins besides
        pub alike : RunAlike g h id caller (asked_of steps) (asked_of besides)
        pub replied : replied_of steps ≡ replied_of besides
        pub rest : RepliesAlike id caller run others states twins

      one_pair : (d : Ghosts D) (x y : Exchange (D × State)) (run others : List (Exchange (D × State))) (s t : State) (states twins : List State)
          → d.is_honest x.before.0 → d.is_honest y.before.0 → IsHandled d x s → IsHandled d y t → IsPair id caller x y s t → WaitAlike x.before.1 y.before.1
          → (WaitAlike x.after.1 y.after.1 → StepsAlike (host_in x.after.1) (host_in y.after.1) run others states twins)
          → StepsAlike (host_in x.before.1) (host_in y.before.1) (x ∷ run) (y ∷ others) (s ∷ states) (t ∷ twins)
      one_pair d x y run others s t states twins honest true_too handled second pair waits more =
          let found = found_alike x.before.1 y.before.1 s t waits (handled.at.1 honest) (second.at.1 true_too) pair.store.opened pair.store.found in
          let own = own_alike x y s t pair found.waits (leaves d x s honest handled.replied) (leaves d y t true_too second.replied) in
          let rest = more own.waits in record {
            steps = found.first ++ (own.first ++ rest.steps);
            besides = found.second ++ (own.second ++ rest.besides);
            taken = (found.first, own.first, rest.steps, refl, found.finds, own.takes, rest.taken);
            also = (found.second, own.second, rest.besides, refl, found.also, own.also, rest.also);
            alike = found.go.alike (own.first ++ rest.steps) (own.second ++ rest.besides) (own.go.alike rest.steps rest.besides rest.alike);
            replied = found.go.replied (own.first ++ rest.steps) (own.second ++ rest.besides) (own.go.replied rest.steps rest.besides rest.replied);
            rest = (own.reply, rest.rest);
          }

      pub steps_alike : (d : Ghosts D) (w v : D × State) (run others : List (Exchange (D × State))) (states twins : List State) (new after : D × State)
          → Answered (host_service d) w run new → Answered (host_service d) v others after → d.is_honest w.0 → d.is_honest v.0 → WaitAlike w.1 v.1
          → AreHandled d run states → AreHandled d others twins → ArePairs id caller run others states twins → StepsAlike (host_in w.1) (host_in v.1) run others states twins
      steps_alike d w v [] [] [] [] new after one two honest true_too waits handled second pairs = record { steps = []; besides = []; taken = refl; also = refl; alike = tt; replied = refl; rest = tt }
      steps_alike d w v [] [] [] (t ∷ twins) new after one two honest true_too waits handled second pairs = absurd second
      steps_alike d w v [] [] (s ∷ states) twins new after one two honest true_too waits handled second pairs = absurd handled
      steps_alike d w v [] (y ∷ others) states twins new after one two honest true_too waits handled second pairs = absurd pairs
      steps_alike d w v (x ∷ run) [] states twins new after one two honest true_too waits handled second pairs = absurd pairs
      steps_alike d w v (x ∷ run) (y ∷ others) [] twins new after one two honest true_too waits handled second pairs = absurd pairs
      steps_alike d w v (x ∷ run) (y ∷ others) (s ∷ states) [] new after one two honest true_too waits handled second pairs = absurd pairs
      steps_alike d w v (x ∷ run) (y ∷ others) (s ∷ states) (t ∷ twins) new after (at, is, rest) (so, goes, last) honest true_too waits (handled, all) (second, most) (pair, pairs) =
          let honest_now : d.is_honest x.before.0 = subst (λ (z : D × State). d.is_honest z.0) (sym at) honest in
          let true_now : d.is_honest y.before.0 = subst (λ (z : D × State). d.is_honest z.0) (sym so) true_too in
          let waits_now : WaitAlike x.before.1 y.before.1 = waits_so w.1 v.1 x.before.1 y.before.1 (ap (λ (z : D × State). z.1) at) (ap (λ (z : D × State). z.1) so) waits in
          let here = one_pair d x y run others s t states twins honest_now true_now handled second pair waits_now
          (λ later. steps_alike d x.after y.after run others states twins new after rest last (is.responds.1.honest.0 honest_now) (goes.responds.1.honest.0 true_now) later all most pairs) in
          subst (λ (g : HostView). StepsAlike g (host_in v.1) (x ∷ run) (y ∷ others) (s ∷ states) (t ∷ twins)) (ap (λ (z : D × State). host_in z.1) at)
          (subst (λ (h : HostView). StepsAlike (host_in x.before.1) h (x ∷ run) (y ∷ others) (s ∷ states) (t ∷ twins)) (ap (λ (z : D × State). host_in z.1) so) here)

      -- so it is from hosts that are ready
      pub ready_alike : (d : Ghosts D) (w v : D × State) (run others : List (Exchange (D × State))) (states twins : List State) (new after : D × State)
          → Answered (host_service d) w run new → Answered (host_service d) v others after → d.is_honest w.0 → d.is_honest v.0 → w.1.waiting ≡ None → v.1.waiting ≡ None
          → AreHandled d run states → AreHandled d others twins → ArePairs id caller run others states twins → StepsAlike (host_in w.1) (host_in v.1) run others states twins
      ready_alike d w v run others states twins new after one two honest true_too ready set handled second pairs =
          steps_alike d w v run others states twins new after one two honest true_too (WaitAlike.neither_waits ready set) handled second pairs
