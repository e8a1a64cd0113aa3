-- A request has its answer, whatever the disk.
use Rattle.std.proofs.Common.{◌≡◌, ℕ, ◌<◌, ◌≤◌, ◌+◌, ◌-◌, ◌^◌, max, not, nat_le, List, Option, IsSomeAnd, Some, None, true, true≢false, sym, ap, ◌∙◌, subst, ⊎_elim, inl, inr, arith, Ok}
use Rattle.std.proofs.Math.Nat.{min-eq_left, min-eq_right}
use Rattle.std.proofs.lemmas.Bool.{and_parts, cases_lt, leb-true}
use Rattle.split_base.specs.Faults.{HasRisen, counted}
use Rattle.split_base.specs.declared.disk.Disk.{Ghosts}
use Rattle.host_journal.specs.States.{State, host_in}
use Rattle.serving.specs.Exchanges.{Exchange}
use Rattle.requests.specs.Cases.{Settles, Steps}
use Rattle.requests.specs.Commands.{command_of}
use Rattle.sealed_core.specs.declared.commands.Ask.{Ask}
use Rattle.sealed_core.specs.declared.commands.Ask.TheVariants as asks
use Rattle.sealed_core.specs.declared.commands.What.{What}
use Rattle.sealed_core.specs.declared.replies.Reply.TheVariants as reply
use Rattle.sealed_core.specs.Host.{EventView, HostView, InstanceView, instance_at}
use Rattle.sealed_core.specs.Sealed.{IsLateClose, host_after, is_closed, is_shut, with_event}
use Rattle.sealed_core.specs.Step.{CommandView, To, is_over, step}
use Rattle.split_http.specs.declared.routes.Route.{Route}
use Rattle.split_http.specs.Places.{IsRouted}
use Rattle.serving_laws.specs.Answering.{HasAnswer}
use Rattle.serving_laws.specs.Sealing.{IsDueResult, IsShutBy}
use Rattle.serving_laws.proofs.OwnSteps.{asked, kept_step, plain_step}

pub counted_rises : (n : ℕ) → HasRisen n (counted n)
counted_rises n =
    ⊎_elim (λ (full : 2 ^ 64 - 1 < n + 1). inr (min-eq_right (omega (arith, full))))
    (λ (room : n + 1 ≤ 2 ^ 64 - 1). let is : counted n ≡ n + 1 = min-eq_left room in inl (subst (λ m. n < m) (sym is) (omega arith))) (cases_lt (2 ^ 64 - 1) (n + 1))

pub not_counted : (n now : ℕ) → (HasRisen n now → ⊥) → now ≡ counted n → ⊥
not_counted n now none is = none (subst (λ m. HasRisen n m) (sym is) (counted_rises n))

-- a count that has risen since a later one has risen since the earlier one
later_rises : (n m now : ℕ) → n ≤ m → now ≡ counted m → HasRisen n now
later_rises n m now least is =
    subst (λ k. HasRisen n k) (sym is) (⊎_elim (λ (risen : m < counted m). inl (omega (arith, least, risen))) (λ full. inr full) (counted_rises m))

-- what is published is that of an instance which is closed or past its deadline
abbrev pub PublishesShut : Type 0
PublishesShut = (h : HostView) (t id : ℕ) (command : CommandView) (what : What) → (step h t command).reply ≡ reply.Publish id what → IsSomeAnd (instance_at h id) (IsShutBy (max t h.moment))

shut_closed : (found : Option InstanceView) (now : ℕ) → is_shut found ≡ true → IsSomeAnd found (IsShutBy now)
shut_closed None now is = absurd (true≢false (sym is))
shut_closed (Some i) now is = inl is

shut_late : (found : Option InstanceView) (now : ℕ) → IsSomeAnd found (λ i. is_over now i ≡ true) → IsSomeAnd found (IsShutBy now)
shut_late None now is = is
shut_late (Some i) now is = inr (leb-true i.creation.deadline now (and_parts (not i.closed) (nat_le i.creation.deadline now) is).1)

-- with what is published comes no event, or the close that was due
shut_by : (h : HostView) (t id : ℕ) (key : Option (List ℕ)) (ask : Ask) (event : Option EventView) → IsLateClose h t (To id key ask) event → is_closed (with_event h event) id ≡ true
    → IsSomeAnd (instance_at h id) (IsShutBy (max t h.moment))
shut_by h t id key ask event (inl none) closed = shut_closed (instance_at h id) (max t h.moment) (subst (λ (e : Option EventView). is_closed (with_event h e) id ≡ true) none closed)
shut_by h t id key ask event (inr (is, late)) closed = shut_late (instance_at h id) (max t h.moment) late

-- the laws of what is published
pub record PublicationLaws : Type 0 where
  pub under_key : (h : HostView) (t id : ℕ) (command : CommandView) (what : What) → (step h t command).reply ≡ reply.Publish id what → (key : List ℕ) × (command ≡ To id (Some key) (asks.Publish what))
  pub event : (h : HostView) (t id : ℕ) (command : CommandView) (what : What) → (step h t command).reply ≡ reply.Publish id what → IsLateClose h t command (step h t command).event
  pub closed : (h : HostView) (t id : ℕ) (command : CommandView) (what : What) → (step h t command).reply ≡ reply.Publish id what → is_closed (host_after h t command) id ≡ true

pub publishes_shut : PublicationLaws → PublishesShut
publishes_shut laws h t id command what is =
    let (key, asks_it) = laws.under_key h t id command what is in
    shut_by h t id (Some key) (asks.Publish what) (step h t command).event
    (subst (λ (c : CommandView). IsLateClose h t c (step h t command).event) asks_it (laws.event h t id command what is)) (laws.closed h t id command what is)

pub due_result : PublishesShut → {W : Type 0} (x : Exchange W) (route : Route) → IsRouted x.head.verb x.head.path (Ok route) → (s : State) (id : ℕ) (what : What)
    → (step (host_in s) x.moment (command_of route.place route.id x.head.key x.body)).reply ≡ reply.Publish id what → IsDueResult x s
due_result shut x route routed s id what is = record {
  route = route;
  id = id;
  asked = what;
  routed = routed;
  published = is;
  shut = shut (host_in s) x.moment id (command_of route.place route.id x.head.key x.body) what is;
}

-- a host that goes on to the step has no event that waits
pub settled_ready : {D : Type 0} (d : Ghosts D) (disk between : D) (s settled : State) → Settles d disk between s settled None → settled.waiting ≡ None
settled_ready d disk between s settled (Settles.ready none same is c) = ap (λ (y : State). y.waiting) is ∙ none
settled_ready d disk between s settled (Settles.store_fault e a up torn is c) = absurd (cc)
settled_ready d disk between s settled (Settles.damaged e place a same first never is c) = absurd (cc)
settled_ready d disk between s settled (Settles.opened e secret kept a same told can is c) = ap (λ (y : State). y.waiting) is

module _ {D : Type 0} (d : Ghosts D) (x : Exchange (D × State)) where
  -- the reply where the request goes no further
  pub settled_has : (route : Route) → IsRouted x.head.verb x.head.path (Ok route) → Settles d x.before.0 x.after.0 x.before.1 x.after.1 (Some x.due.said) → HasAnswer d x x.before.1
  settled_has route routed (Settles.ready a same is c) = absurd (cc)
  settled_has route routed (Settles.store_fault e a up torn is c) =
      HasAnswer.not_opened route e routed a (subst (λ m. HasRisen (d.faults x.before.0) m) (sym up) (counted_rises (d.faults x.before.0))) is (cc c)
  settled_has route routed (Settles.damaged e place a same first never is c) = HasAnswer.damaged e place a first never is (cc c)
  settled_has route routed (Settles.opened e secret kept a same told can is c) = absurd (cc)

  pub stepped_has : PublishesShut → (route : Route) (between : D) (settled : State) → IsRouted x.head.verb x.head.path (Ok route) → settled.waiting ≡ None
      → d.faults x.before.0 ≤ d.faults between
      → Steps d between x.after.0 x.moment (command_of route.place route.id x.head.key x.body) settled x.after.1 x.due.said → HasAnswer d x settled
  stepped_has shut route between settled routed ready least (Steps.no_event told a b r is c) =
      HasAnswer.answered (asked x route) ready (plain_step x route routed settled told a r is c) (ap (λ (y : State). y.waiting) is ∙ ready)
  stepped_has shut route between settled routed ready least (Steps.kept told e a can same appended r is c) =
      HasAnswer.answered (asked x route) ready (kept_step x route routed settled told e a r is c) (ap (λ (y : State). y.waiting) is)
  stepped_has shut route between settled routed ready least (Steps.failed e a up is c) =
      HasAnswer.not_kept e ready (route, routed, a) (later_rises (d.faults x.before.0) (d.faults between) (d.faults x.after.0) least up) is c
  stepped_has shut route between settled routed ready least (Steps.memory id what p a is c) = HasAnswer.memory (inr (due_result shut x route routed settled id what p)) is c
