-- Each bid and each withdrawal was sent under its member's key.
use Rattle.std.proofs.Common.{◌≡◌, ◌⊎◌, ◌↔◌, ℕ, ◌+◌, List, [], ◌∷◌, ◌++◌, length, max, Option, None, Some, IfSome, Ok, Contains, refl, sym, ap, ◌∙◌, subst, inl, inr, ⊎_elim, append_assoc, append-nil}
use Rattle.std.proofs.lemmas.List.Elements.{Contains-push_cases}
use Rattle.body_fields.specs.declared.bodies.BidBody.{BidBody}
use Rattle.host_journal.specs.States.{State}
use Rattle.serving.specs.Exchanges.{Exchange}
use Rattle.requests.specs.Commands.{command_of}
use Rattle.sealed_core.specs.declared.commands.Ask.{Ask}
use Rattle.sealed_core.specs.declared.commands.Ask.TheVariants as asks
use Rattle.sealed_core.specs.Host.{BidKept, Closed, Created, EventView, HostView, InstanceView, Withdrawn, apply, moment_of}
use Rattle.sealed_core.specs.Keys.{first_holder, key_text}
use Rattle.sealed_core.specs.Origins.{ComesOf, IsAskedBy}
use Rattle.sealed_core.specs.Runs.{HoldsLeast, apply_all, host_of}
use Rattle.sealed_core.specs.Sealed.{empty}
use Rattle.sealed_core.specs.Step.{CommandView, To, holder, step}
use Rattle.split_http.specs.declared.routes.Route.{Route}
use Rattle.split_http.specs.Places.{IsRouted}
use Rattle.serving_laws.specs.Accepting.{Accepts, AreMade, IsMade, Makes}
use Rattle.serving_laws.specs.Integrity.{AsksUnderKey, ComesOfRun, IsSentBy, KeepsIntegrity}

-- whose command the event of a step comes from
abbrev pub HasOrigin : Type 0
HasOrigin = (h : HostView) (t : ℕ) (command : CommandView) → IfSome (step h t command).event (λ e. (moment_of e ≡ max t h.moment) × ComesOf h command e)

-- the holder of a key is the least member whose key it is
abbrev pub HoldsKeys : Type 0
HoldsKeys = (secret : List ℕ) (id count : ℕ) (key : List ℕ) (m : ℕ) → (first_holder secret id key (count + 1) 0 ≡ Some m) ↔ HoldsLeast secret id count key m

-- events leave the secret
same_secret : (h : HostView) (events : List EventView) → (apply_all h events).secret ≡ h.secret
same_secret h [] = refl
same_secret h (e ∷ events) = same_secret (apply h e) events

module _ (origin : HasOrigin) (keys : HoldsKeys) where
  module _ {W : Type 0} (x : Exchange W) (secret : List ℕ) (kept : List EventView) (route : Route) (routed : IsRouted x.head.verb x.head.path (Ok route)) where
    -- what is asked under a key of which the member is the holder
    under_key : (id m : ℕ) (i : InstanceView) (ask : Ask) → IsAskedBy (host_of secret kept) (command_of route.place route.id x.head.key x.body) id m i ask → AsksUnderKey x secret id m ask
    under_key id m i ask by =
        let held : holder secret id i by.key ≡ Some m = subst (λ (word : List ℕ). holder word id i by.key ≡ Some m) (same_secret (empty secret) kept) by.held in
        let own : key_text secret id m ≡ by.key = ((keys secret id (length i.creation.members) by.key m).0 held).own in
        (route, routed, by.asked ∙ ap (λ (key : List ℕ). To id (Some key) ask) (sym own))

    sent : (event : EventView) → ComesOf (host_of secret kept) (command_of route.place route.id x.head.key x.body) event → IsSentBy x secret kept event
    sent (Created now c) comes = tt
    sent (BidKept now id m turn given) (i, body, by, is_turn, is) = (i, body, by.there, under_key id m i (asks.Bid (Ok body)) by, is_turn, is)
    sent (Closed now id) comes = tt
    sent (Withdrawn now id m turn) (i, body, by, is_turn) = (body, under_key id m i (asks.Withdraw (Ok body)) by, is_turn)

  -- an event that a request makes is sent by it
  pub sent_by : {W : Type 0} (x : Exchange W) (secret : List ℕ) (kept : List EventView) (event : EventView) → Makes x secret kept event → IsSentBy x secret kept event
  sent_by x secret kept event (route, routed, is) =
      let command = command_of route.place route.id x.head.key x.body in
      let h = host_of secret kept in
      let comes : (moment_of event ≡ max x.moment h.moment) × ComesOf h command event =
      subst (λ (o : Option EventView). IfSome o (λ e. (moment_of e ≡ max x.moment h.moment) × ComesOf h command e)) is (origin h x.moment command) in
      sent x secret kept route routed event comes.1

  module _ {W : Type 0} (run : List (Exchange W)) (first new : State) (ready : first.waiting ≡ None) where
    never_waits : (o : Option EventView) (e : EventView) → o ≡ None → o ≡ Some e → ⊥
    never_waits o e none some = absurd (cc)

    -- the event at this place comes of the run
    of_run : (kept : List EventView) (event : EventView) (behind : List EventView) → new.kept ≡ kept ++ event ∷ behind → IsMade run first new.secret kept event → ComesOfRun run new event
    of_run kept event behind at (inl (x, among, makes)) =
        record { request = x; before = kept; behind = behind; among = among; at = at; sent = sent_by x new.secret kept event makes }
    of_run kept event behind at (inr waits) = absurd (never_waits first.waiting event ready waits)

    -- the events of the run, after those before them
    all_come : (kept more : List EventView) → new.kept ≡ kept ++ more → AreMade run first new.secret kept more → (event : EventView) → Contains (kept ++ more) event
        → Contains kept event ⊎ ComesOfRun run new event
    all_come kept [] at made event among = inl (subst (λ (l : List EventView). Contains l event) (append-nil kept) among)
    all_come kept (e ∷ more) at made event among =
        let again : (kept ++ e ∷ []) ++ more ≡ kept ++ e ∷ more = append_assoc kept (e ∷ []) more in
        ⊎_elim
        (λ (pushed : Contains (kept ++ e ∷ []) event).
        ⊎_elim (λ (old : Contains kept event). inl old) (λ (is : e ≡ event). inr (subst (λ (one : EventView). ComesOfRun run new one) is (of_run kept e more at made.0)))
        (Contains-push_cases kept e event pushed))
        (λ later. inr later)
        (all_come (kept ++ e ∷ []) more (at ∙ sym again) made.1 event (subst (λ (l : List EventView). Contains l event) (sym again) among))

    pub integral : Accepts run first new → KeepsIntegrity run first new
    integral accepts event among =
        all_come first.kept accepts.more accepts.kept (subst (λ (word : List ℕ). AreMade run first word first.kept accepts.more) (sym accepts.secret) accepts.made) event
        (subst (λ (l : List EventView). Contains l event) accepts.kept among)
