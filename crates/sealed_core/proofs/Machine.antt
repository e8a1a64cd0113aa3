-- A run keeps events that may be applied, and its host is the one that they make. A closed instance stays closed.
use Rattle.std.proofs.Common.{◌≡◌, ℕ, zero, suc, ◌-◌, Bool, true, false, ◌==◌, List, [], ◌∷◌, ◌++◌, if◌then◌else◌, Option, None, Some, IfSome, IsSomeAnd, IsSome, All, ◌⊎◌, ◌≤◌, option_to_list, slice_get, unwrap_or, refl, ap, sym, ◌∙◌, subst, arith, true≢false, max, not, option_map, is_some, ◌+◌, ◌&&◌, Ok, nat_le}
use Rattle.bid_rules.specs.Facts.{IsCheckedBid}
use Rattle.sealed_core.specs.declared.limits.TheConstants.{MOST_TURNS}
use Rattle.sealed_core.specs.Host.{InstanceView, HostView, EventView, Created, BidKept, Closed, Withdrawn, AreCheckedInstances, IsCheckedInstance, IsNextTurn, CanApply, IsAllowed, instance_at, kept_bid, new_instance, with_turn, as_closed, change_at, change, instances_after, apply, kept_turn}
use Rattle.sealed_core.specs.Sealed.{Asked, with_event, empty, is_closed, is_shut, next}
use Rattle.sealed_core.specs.declared.commands.Ask.{Ask}
use Rattle.sealed_core.specs.declared.replies.Refusal.TheVariants as refusal
use Rattle.sealed_core.proofs.Sealing.{get_changed}
use Rattle.sealed_core.specs.declared.commands.Ask.TheVariants as asks
use Rattle.body_fields.specs.declared.bodies.BidBody.{BidBody}
use Rattle.sealed_core.specs.declared.replies.Reply.TheVariants as reply
use Rattle.sealed_core.specs.Sameness.{is_kept}
use Rattle.std.proofs.lemmas.Bool.{and_left, and_right, eq-eqb, lt-leb, ne_eqb}
use Rattle.bid_rules.specs.declared.bids.Facts.{Facts}
use Rattle.sealed_core.proofs.BidRules.{allowed_is}
use Rattle.bid_rules.specs.declared.bids.Bid.{Bid}
use Rattle.sealed_core.specs.Step.{Answer, To, answer_to, caller_by, caller_in, caller_of, holder, is_over, may_ask, refused, answer_ask, answer_caller, standing_of, step, bid_body, bid_form, bid_by_rule, form_of, says}
use Rattle.sealed_core.specs.Runs.{apply_all, CanApplyAll, kept, last, AreChecked}
use Rattle.sealed_core.proofs.Applying.{event_applies, sound_found}
use Rattle.sealed_core.proofs.Fits.{step_fits}
use Rattle.sealed_core.proofs.Soundness.{found, is_at, sound_changed, sound_closed, sound_fresh, sound_push, sound_turn}

-- a change of an instance that is there, and that the change keeps sound
sound_change : (h : HostView) (id : ℕ) (f : InstanceView → InstanceView) (P : InstanceView → Type 0) → AreCheckedInstances h.instances → IsSomeAnd (instance_at h id) P → ((i : InstanceView) → IsCheckedInstance i → P i → IsCheckedInstance (f i))
    → AreCheckedInstances (change f h.instances id)
sound_change h id f P sound asked keeps =
    let it = found (instance_at h id) P asked in
    let place = is_at h id it.0 it.1 in
    sound_changed f h.instances (id - 1) sound
    (λ i here. let one : it.0 ≡ i = ap (λ (o : Option InstanceView). unwrap_or o i) (sym place.at ∙ here) in
    subst (λ (i : InstanceView). IsCheckedInstance (f i)) one (keeps it.0 (sound_found h id it.0 sound it.1) it.2))

-- an event that is due leaves the instances sound
sound_apply : (h : HostView) (e : EventView) → AreCheckedInstances h.instances → IsAllowed h e → AreCheckedInstances (instances_after h.instances e)
sound_apply h (Created now c) sound due = sound_push h.instances (new_instance c) sound (sound_fresh c due.1) due.0
sound_apply h (BidKept now id m turn given) sound due =
    sound_change h id (with_turn m turn (Some given)) (λ i. IsNextTurn now i m turn × IsCheckedBid i.creation.facts given) sound due (λ i own right. sound_turn now m turn (Some given) i own right.0 right.1)
sound_apply h (Closed now id) sound due =
    sound_change h id as_closed (λ i. (i.closed ≡ false) × ((i.creation.deadline ≤ now) ⊎ All (λ bid. IsSome bid) i.bids)) sound due (λ i own _. sound_closed i own)
sound_apply h (Withdrawn now id m turn) sound due =
    sound_change h id (with_turn m turn None) (λ i. IsNextTurn now i m turn × IsSome (kept_bid i m)) sound due (λ i own right. sound_turn now m turn None i own right.0 tt)

-- so does the event of a step, if there is one
sound_applied : (h : HostView) (o : Option EventView) → AreCheckedInstances h.instances → IfSome o (CanApply h) → AreCheckedInstances (with_event h o).instances
sound_applied h None sound can = sound
sound_applied h (Some e) sound can = sound_apply h e sound can.1

-- an event that may come, before others that may
can_more : (h : HostView) (o : Option EventView) (events : List EventView) → IfSome o (CanApply h) → CanApplyAll (with_event h o) events → CanApplyAll h (option_to_list o ++ events)
can_more h None events can rest = rest
can_more h (Some e) events can rest = (can, rest)

-- the host after one event and then others
last_more : (h : HostView) (o : Option EventView) (events : List EventView) → apply_all (with_event h o) events ≡ apply_all h (option_to_list o ++ events)
last_more h None events = refl
last_more h (Some e) events = refl

-- each event that a run keeps may be applied at its turn
pub can_run : (h : HostView) (run : List Asked) → AreCheckedInstances h.instances → AreChecked run → CanApplyAll h (kept h run)
can_run h [] sound right = tt
can_run h (a ∷ run) sound right =
    let event = (step h a.moment a.command).event in
    let can = event_applies h a.moment a.command sound right.0 event (step_fits h a.moment a.command) in
    can_more h event (kept (next h a) run) can (can_run (next h a) run (sound_applied h event sound can) right.1)

-- a run's last host is the one that its kept events make
pub last_run : (h : HostView) (run : List Asked) → last h run ≡ apply_all h (kept h run)
last_run h [] = refl
last_run h (a ∷ run) = last_run (next h a) run ∙ last_more h (step h a.moment a.command).event (kept (next h a) run)

-- the host of events and one more
pub one_more : (h : HostView) (events : List EventView) (e : EventView) → apply_all h (events ++ e ∷ []) ≡ apply (apply_all h events) e
one_more h [] e = refl
one_more h (first ∷ events) e = one_more (apply h first) events e

-- the empty host is sound
pub nobody : (secret : List ℕ) → AreCheckedInstances (empty secret).instances
nobody secret = record { each = λ k d there. absurd (omega (arith, there)); few = omega arith }

-- ---- closed for good

-- a change that keeps the closed closed leaves a closed instance closed
shut_changed : (f : InstanceView → InstanceView) → ((i : InstanceView) → i.closed ≡ true → (f i).closed ≡ true) → (instances : List InstanceView) (p q : ℕ)
    → is_shut (slice_get instances q) ≡ true → is_shut (slice_get (change_at f instances p) q) ≡ true
shut_changed f keeps [] p q shut = shut
shut_changed f keeps (i ∷ instances) zero zero shut = keeps i shut
shut_changed f keeps (i ∷ instances) zero (suc q) shut = shut
shut_changed f keeps (i ∷ instances) (suc p) zero shut = shut
shut_changed f keeps (i ∷ instances) (suc p) (suc q) shut = shut_changed f keeps instances p q shut

-- so does a new instance after it
shut_pushed : (instances : List InstanceView) (new : InstanceView) (q : ℕ) → is_shut (slice_get instances q) ≡ true → is_shut (slice_get (instances ++ new ∷ []) q) ≡ true
shut_pushed [] new q shut = absurd (true≢false (sym shut))
shut_pushed (i ∷ instances) new zero shut = shut
shut_pushed (i ∷ instances) new (suc q) shut = shut_pushed instances new q shut

-- so does every event
shut_after : (instances : List InstanceView) (e : EventView) (q : ℕ) → is_shut (slice_get instances q) ≡ true → is_shut (slice_get (instances_after instances e) q) ≡ true
shut_after instances (Created now c) q shut = shut_pushed instances (new_instance c) q shut
shut_after instances (BidKept now id m turn given) q shut = shut_changed (with_turn m turn (Some given)) (λ i closed. closed) instances (id - 1) q shut
shut_after instances (Closed now id) q shut = shut_changed as_closed (λ i closed. refl) instances (id - 1) q shut
shut_after instances (Withdrawn now id m turn) q shut = shut_changed (with_turn m turn None) (λ i closed. closed) instances (id - 1) q shut

-- the same under an id
shut_if : (none : Bool) (a b : Option InstanceView) → (is_shut a ≡ true → is_shut b ≡ true) → is_shut (if none then None else a) ≡ true → is_shut (if none then None else b) ≡ true
shut_if true a b keeps shut = shut
shut_if false a b keeps shut = keeps shut

-- a closed instance stays closed
pub closed_for_good : (h : HostView) (id : ℕ) (e : EventView) → is_closed h id ≡ true → is_closed (apply h e) id ≡ true
closed_for_good h id e shut = shut_if (id == 0) (slice_get h.instances (id - 1)) (slice_get (instances_after h.instances e) (id - 1)) (shut_after h.instances e (id - 1)) shut

-- ---- past the deadline

-- an instance that a Close names is closed after it
closed_there : (none : Bool) (instances : List InstanceView) (p : ℕ) (i : InstanceView) → (if none then None else slice_get instances p) ≡ Some i
    → (if none then None else slice_get (change_at as_closed instances p) p) ≡ Some (as_closed i)
closed_there true instances p i is = absurd (true≢false (sym (ap is_some is)))
closed_there false instances p i is = get_changed as_closed instances p ∙ ap (option_map as_closed) is

-- the instance after its Close is the same one, closed
pub closing : (h : HostView) (now id : ℕ) (i : InstanceView) → instance_at h id ≡ Some i → instance_at (apply h (Closed now id)) id ≡ Some (as_closed i)
closing h now id i there = closed_there (id == 0) h.instances (id - 1) i there

-- who is answered where the instance and the key's holder are known
found_caller : (h : HostView) (now id m : ℕ) (i : InstanceView) (key : List ℕ) (ask : Ask) → instance_at h id ≡ Some i → holder h.secret id i key ≡ Some m
    → answer_to now id ask (caller_of h id (Some key)) ≡ answer_caller now id ask i m
found_caller h now id m i key ask there is =
    ap (λ (o : Option InstanceView). answer_to now id ask (caller_in h.secret id o (Some key))) there ∙ ap (λ (o : Option ℕ). answer_to now id ask (caller_by i o)) is

-- past the test of the role
by_tests : (role over : Bool) (r a b : Answer) → role ≡ true → (if not role then r else if over then a else b) ≡ (if over then a else b)
by_tests false over r a b is = absurd (true≢false (sym is))
by_tests true over r a b is = refl

-- past the deadline the close comes first
over_first : (over : Bool) (a b : Answer) → over ≡ true → (if over then a else b) ≡ a
over_first false a b is = absurd (true≢false (sym is))
over_first true a b is = refl

-- what is asked past the deadline has the Close, and the reply of the closed instance
pub late : (h : HostView) (t id m : ℕ) (i : InstanceView) (key : List ℕ) (ask : Ask) → instance_at h id ≡ Some i → holder h.secret id i key ≡ Some m → may_ask m ask ≡ true → is_over (max t h.moment) i ≡ true
    → step h t (To id (Some key) ask) ≡ record { event = Some (Closed (max t h.moment) id); reply = (step (apply h (Closed (max t h.moment) id)) t (To id (Some key) ask)).reply }
late h t id m i key ask there is may over =
    let now = max t h.moment in
    let after = apply h (Closed now id) in
    let first : answer_caller now id ask i m ≡ record { event = Some (Closed now id); reply = (answer_ask now id m (standing_of i m true) ask).reply } =
    by_tests (may_ask m ask) (is_over now i) (refused refusal.Role) (record { event = Some (Closed now id); reply = (answer_ask now id m (standing_of i m true) ask).reply }) (answer_ask now id m (standing_of i m i.closed) ask) may
    ∙ over_first (is_over now i) (record { event = Some (Closed now id); reply = (answer_ask now id m (standing_of i m true) ask).reply }) (answer_ask now id m (standing_of i m i.closed) ask) over in
    let same : max t now ≡ now = omega arith in
    let second : answer_caller now id ask (as_closed i) m ≡ answer_ask now id m (standing_of i m true) ask =
    by_tests (may_ask m ask) false (refused refusal.Role) (record { event = Some (Closed now id); reply = (answer_ask now id m (standing_of (as_closed i) m true) ask).reply }) (answer_ask now id m (standing_of (as_closed i) m true) ask) may in
    let third : answer_to (max t now) id ask (caller_of after id (Some key)) ≡ answer_ask now id m (standing_of i m true) ask =
    ap (λ (moment : ℕ). answer_to moment id ask (caller_of after id (Some key))) same
    ∙ found_caller after now id m (as_closed i) key ask (closed_there (id == 0) h.instances (id - 1) i there) is ∙ second in
    found_caller h now id m i key ask there is ∙ first ∙ (λ j. record { event = Some (Closed now id); reply = (sym third j).reply })

-- ---- a right bid is kept

-- past a test that does not hold
otherwise : (test : Bool) (a b : Answer) → test ≡ false → (if test then a else b) ≡ b
otherwise true a b is = absurd (true≢false is)
otherwise false a b is = refl

-- a bid of a caller who may bid, with the next turn and a turn left, is kept
pub right_bid : (h : HostView) (t id m turn : ℕ) (i : InstanceView) (key : List ℕ) (body : BidBody) (given : Bid)
    → instance_at h id ≡ Some i → holder h.secret id i key ≡ Some m → (m == 0) ≡ false → i.closed ≡ false → is_over (max t h.moment) i ≡ false
    → body.turn ≡ Some turn → bid_by_rule i.creation.facts (form_of i.creation.facts body) ≡ Some given
    → (turn == kept_turn i m) ≡ false → (turn == (kept_turn i m + 1)) ≡ true → (kept_turn i m == MOST_TURNS) ≡ false
    → step h t (To id (Some key) (asks.Bid (Ok body))) ≡ record { event = Some (BidKept (max t h.moment) id m turn given); reply = reply.Kept turn }
right_bid h t id m turn i key body given there held member opened early says_turn right new next left =
    let now = max t h.moment in
    let standing = standing_of i m i.closed in
    let kept : Answer = record { event = Some (BidKept now id m turn given); reply = reply.Kept turn } in
    let fourth : Answer = if kept_turn i m == MOST_TURNS then refused refusal.TurnsUsed else kept in
    let third : Answer = if not (turn == (kept_turn i m + 1)) then refused (refusal.Turn (kept_turn i m)) else fourth in
    let again : Bool = (turn == kept_turn i m) && is_kept (kept_bid i m) given in
    let second : Answer = if again then says (reply.Kept (kept_turn i m)) else third in
    found_caller h now id m i key (asks.Bid (Ok body)) there held
    ∙ by_tests (not (m == 0)) (is_over now i) (refused refusal.Role) (record { event = Some (Closed now id); reply = (answer_ask now id m (standing_of i m true) (asks.Bid (Ok body))).reply }) (answer_ask now id m standing (asks.Bid (Ok body))) (ap not member)
    ∙ otherwise (is_over now i) (record { event = Some (Closed now id); reply = (answer_ask now id m (standing_of i m true) (asks.Bid (Ok body))).reply }) (answer_ask now id m standing (asks.Bid (Ok body))) early
    ∙ ap (λ (o : Option ℕ). bid_body now id m standing body o) says_turn
    ∙ ap (λ (o : Option Bid). bid_form now id m standing turn o) right
    ∙ otherwise i.closed (refused refusal.Closed) second opened
    ∙ otherwise again (says (reply.Kept (kept_turn i m))) third (and_left (turn == kept_turn i m) (is_kept (kept_bid i m) given) new)
    ∙ otherwise (not (turn == (kept_turn i m + 1))) (refused (refusal.Turn (kept_turn i m))) fourth (ap not next)
    ∙ otherwise (kept_turn i m == MOST_TURNS) (refused refusal.TurnsUsed) kept left

-- before its deadline an instance is not over
not_over : (closed late : Bool) → late ≡ false → (not closed && late) ≡ false
not_over closed late is = and_right (not closed) late is

-- a checked bid passes
checked_some : (facts : Facts) (given : Bid) (o : Option Bid) → o ≡ Some given → IsCheckedBid facts given → bid_by_rule facts o ≡ Some given
checked_some facts given o is right = ap (bid_by_rule facts) is ∙ (allowed_is facts given).1 right

-- a bid whose event may be applied is kept
pub kept_bid_of : (h : HostView) (t id m turn : ℕ) (i : InstanceView) (key : List ℕ) (body : BidBody) (given : Bid)
    → instance_at h id ≡ Some i → holder h.secret id i key ≡ Some m → body.turn ≡ Some turn → form_of i.creation.facts body ≡ Some given
    → CanApply h (BidKept (max t h.moment) id m turn given)
    → step h t (To id (Some key) (asks.Bid (Ok body))) ≡ record { event = Some (BidKept (max t h.moment) id m turn given); reply = reply.Kept turn }
kept_bid_of h t id m turn i key body given there held says_turn form can =
    let now = max t h.moment in
    let right : IsNextTurn now i m turn × IsCheckedBid i.creation.facts given =
    subst (λ (o : Option InstanceView). IsSomeAnd o (λ i. IsNextTurn now i m turn × IsCheckedBid i.creation.facts given)) there can.1 in
    let next = right.0.next in
    let least = right.0.least in
    let used = right.0.used in
    let early = right.0.early in
    right_bid h t id m turn i key body given there held
    (ne_eqb m 0 (λ is. omega (arith, is, least)))
    right.0.open_
    (not_over i.closed (nat_le i.creation.deadline now) (lt-leb i.creation.deadline now early))
    says_turn
    (checked_some i.creation.facts given (form_of i.creation.facts body) form right.1)
    (ne_eqb turn (kept_turn i m) (λ is. omega (arith, is, next)))
    (eq-eqb turn (kept_turn i m + 1) next)
    (ne_eqb (kept_turn i m) MOST_TURNS (λ is. omega (arith, is, next, used)))
