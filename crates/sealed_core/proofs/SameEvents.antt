-- Which event a step has does not depend on what the members bid, but on whether they have.
use Rattle.std.proofs.Common.{◌≡◌, ℕ, suc, ◌+◌, max, Bool, true, false, not, ◌&&◌, ◌==◌, List, [], ◌∷◌, map, length, if◌then◌else◌, is_some, is_none, Option, None, Some, option_map, Result, Ok, Err, refl, ap, ◌∙◌, arith}
use Rattle.std.proofs.lemmas.Bool.{eqb-true, ne_eqb, not_from_false}
use Rattle.bid_rules.specs.declared.bids.Bid.{Bid}
use Rattle.bid_rules.specs.declared.bids.Facts.{Facts}
use Rattle.sealed_core.specs.declared.limits.TheConstants.{MOST_TURNS}
use Rattle.sealed_core.specs.declared.commands.Ask.{Ask}
use Rattle.sealed_core.specs.declared.commands.Ask.TheVariants as asks
use Rattle.body_fields.specs.declared.bodies.BidBody.{BidBody}
use Rattle.body_fields.specs.declared.fields.BodyFault.{BodyFault}
use Rattle.body_fields.specs.declared.fields.BodyFault.TheVariants.{Json, Field}
use Rattle.sealed_core.specs.declared.replies.Refusal.{Refusal}
use Rattle.sealed_core.specs.declared.replies.Refusal.TheVariants as refusal
use Rattle.sealed_core.specs.declared.replies.Reply.{Reply}
use Rattle.sealed_core.specs.declared.replies.Reply.TheVariants as reply
use Rattle.sealed_core.specs.Host.{CreationView, InstanceView, HostView, EventView, BidKept, Closed, instance_at, kept_turn, kept_bid}
use Rattle.sealed_core.specs.Sameness.{is_kept, same_text}
use Rattle.sealed_core.specs.Sealed.{Caller, caller_with, caller_number}
use Rattle.sealed_core.specs.Step.{Answer, CommandView, Create, To, Standing, standing_of, says, refused, bid_turn, bid_form, bid_body, bid_by_rule, form_of, withdrawal_turn, withdrawal_body, answer_ask, is_over, may_ask, answer_to, caller_by, caller_in, holder, tagged_from, new_creation, answer_creation, step}
use Rattle.sealed_core.specs.Veil.{shown_in, veil, as_seen_by, veiled_from}
use Rattle.sealed_core.proofs.Veil.{have_bid_veiled, has_bid_veiled, instance_veiled}

-- the standing of a caller, field by field
abbrev pub standing : Facts → Bool → List Bool → ℕ → Option Bid → Standing
standing facts closed have turn bid = record { facts = facts; closed = closed; have_bid = have; turn = turn; bid = bid }

-- the kept turn is not the next one
far_turn : (turn kept : ℕ) → (turn == kept) ≡ true → not (turn == (kept + 1)) ≡ true
far_turn turn kept is = not_from_false (turn == (kept + 1)) (ne_eqb turn (kept + 1) (λ next. omega (arith, eqb-true turn kept is)))

-- an equal bid with the kept turn has no event, nor has another bid with that turn
turn_event : (same far : Bool) (k l : Bool) (kept : Reply) (other : Refusal) (rest : Answer) → (same ≡ true → far ≡ true)
    → (if same && k then says kept else if far then refused other else rest).event ≡ (if same && l then says kept else if far then refused other else rest).event
turn_event false far k l kept other rest is = refl
turn_event true far true true kept other rest is = refl
turn_event true far true false kept other rest is = rw (is refl) refl
turn_event true far false true kept other rest is = rw (is refl) refl
turn_event true far false false kept other rest is = refl

-- the event of a bid does not depend on the kept bid
bid_turn_event : (now id m : ℕ) (facts : Facts) (closed : Bool) (have : List Bool) (kept : ℕ) (a b : Option Bid) (turn : ℕ) (given : Bid)
    → (bid_turn now id m (standing facts closed have kept a) turn given).event ≡ (bid_turn now id m (standing facts closed have kept b) turn given).event
bid_turn_event now id m facts true have kept a b turn given = refl
bid_turn_event now id m facts false have kept a b turn given =
    turn_event (turn == kept) (not (turn == (kept + 1))) (is_kept a given) (is_kept b given) (reply.Kept kept) (refusal.Turn kept) (if kept == MOST_TURNS then refused refusal.TurnsUsed else record { event = Some (BidKept now id m turn given); reply = reply.Kept turn }) (far_turn turn kept)

-- nor where the form is at fault
bid_form_event : (now id m : ℕ) (facts : Facts) (closed : Bool) (have : List Bool) (kept : ℕ) (a b : Option Bid) (turn : ℕ) (given : Option Bid)
    → (bid_form now id m (standing facts closed have kept a) turn given).event ≡ (bid_form now id m (standing facts closed have kept b) turn given).event
bid_form_event now id m facts closed have kept a b turn None = refl
bid_form_event now id m facts closed have kept a b turn (Some given) = bid_turn_event now id m facts closed have kept a b turn given

-- nor does that of a bid's body
bid_body_event : (now id m : ℕ) (facts : Facts) (closed : Bool) (have : List Bool) (kept : ℕ) (a b : Option Bid) (body : BidBody) (turn : Option ℕ)
    → (bid_body now id m (standing facts closed have kept a) body turn).event ≡ (bid_body now id m (standing facts closed have kept b) body turn).event
bid_body_event now id m facts closed have kept a b body None = refl
bid_body_event now id m facts closed have kept a b body (Some turn) = bid_form_event now id m facts closed have kept a b turn (bid_by_rule facts (form_of facts body))

-- the event of a withdrawal asks only whether there is a bid
withdrawal_turn_event : (now id m : ℕ) (facts : Facts) (closed : Bool) (have : List Bool) (kept : ℕ) (a b : Option Bid) (turn : ℕ) → is_none a ≡ is_none b
    → (withdrawal_turn now id m (standing facts closed have kept a) turn).event ≡ (withdrawal_turn now id m (standing facts closed have kept b) turn).event
withdrawal_turn_event now id m facts closed have kept a b turn is = rw is refl

-- so does that of its body
withdrawal_body_event : (now id m : ℕ) (facts : Facts) (closed : Bool) (have : List Bool) (kept : ℕ) (a b : Option Bid) (turn : Option ℕ) → is_none a ≡ is_none b
    → (withdrawal_body now id m (standing facts closed have kept a) turn).event ≡ (withdrawal_body now id m (standing facts closed have kept b) turn).event
withdrawal_body_event now id m facts closed have kept a b None is = refl
withdrawal_body_event now id m facts closed have kept a b (Some turn) is = withdrawal_turn_event now id m facts closed have kept a b turn is

-- so does whatever is asked
ask_event : (now id m : ℕ) (facts : Facts) (closed : Bool) (have : List Bool) (kept : ℕ) (a b : Option Bid) → is_none a ≡ is_none b → (ask : Ask)
    → (answer_ask now id m (standing facts closed have kept a) ask).event ≡ (answer_ask now id m (standing facts closed have kept b) ask).event
ask_event now id m facts closed have kept a b is asks.Status = refl
ask_event now id m facts closed have kept a b is (asks.Bid (Err Json)) = refl
ask_event now id m facts closed have kept a b is (asks.Bid (Err (Field name))) = refl
ask_event now id m facts closed have kept a b is (asks.Bid (Ok body)) = bid_body_event now id m facts closed have kept a b body body.turn
ask_event now id m facts closed have kept a b is asks.Own = refl
ask_event now id m facts closed have kept a b is asks.Close = refl
ask_event now id m facts closed have kept a b is (asks.Publish what) = refl
ask_event now id m facts closed have kept a b is (asks.Withdraw (Err Json)) = refl
ask_event now id m facts closed have kept a b is (asks.Withdraw (Err (Field name))) = refl
ask_event now id m facts closed have kept a b is (asks.Withdraw (Ok body)) = withdrawal_body_event now id m facts closed have kept a b body.turn is

-- under the veil a caller has the standing that they have without it, except for the bid
veiled_standing : (c : Caller) (i : InstanceView) (m : ℕ) → standing_of (as_seen_by c i) m i.closed ≡ standing i.creation.facts i.closed (map is_some i.bids) (kept_turn i m) (kept_bid (as_seen_by c i) m)
veiled_standing c i m = λ j. record { facts = i.creation.facts; closed = i.closed; have_bid = have_bid_veiled c i.bids j; turn = kept_turn i m; bid = kept_bid (as_seen_by c i) m }

-- so what they ask has one event
standing_event : (c : Caller) (now id m : ℕ) (i : InstanceView) (ask : Ask) → (answer_ask now id m (standing_of (as_seen_by c i) m i.closed) ask).event ≡ (answer_ask now id m (standing_of i m i.closed) ask).event
standing_event c now id m i ask =
    ap (λ (s : Standing). (answer_ask now id m s ask).event) (veiled_standing c i m)
    ∙ ask_event now id m i.creation.facts i.closed (map is_some i.bids) (kept_turn i m) (kept_bid (as_seen_by c i) m) (kept_bid i m) (has_bid_veiled c i m) ask

-- past the deadline it is the close in both
over_event : (role over : Bool) (e : Option EventView) (r s : Reply) (a b : Answer) → a.event ≡ b.event
    → (if not role then refused refusal.Role else if over then record { event = e; reply = r } else a).event ≡ (if not role then refused refusal.Role else if over then record { event = e; reply = s } else b).event
over_event false over e r s a b is = refl
over_event true true e r s a b is = refl
over_event true false e r s a b is = is

-- the same of whatever a caller asks
by_caller : (c : Caller) (now id : ℕ) (ask : Ask) (i : InstanceView) (who : Option ℕ)
    → (answer_to now id ask (caller_by (as_seen_by c i) who)).event ≡ (answer_to now id ask (caller_by i who)).event
by_caller c now id ask i None = refl
by_caller c now id ask i (Some m) = over_event (may_ask m ask) (is_over now i) (Some (Closed now id)) _ _ (answer_ask now id m (standing_of (as_seen_by c i) m i.closed) ask) (answer_ask now id m (standing_of i m i.closed) ask) (standing_event c now id m i ask)

-- the same of a command on an instance
by_instance : (c : Caller) (secret : List ℕ) (now id : ℕ) (ask : Ask) (key : Option (List ℕ)) (found : Option InstanceView)
    → (answer_to now id ask (caller_in secret id (option_map (as_seen_by c) found) key)).event ≡ (answer_to now id ask (caller_in secret id found key)).event
by_instance c secret now id ask key None = refl
by_instance c secret now id ask None (Some i) = refl
by_instance c secret now id ask (Some key) (Some i) = by_caller c now id ask i (holder secret id i key)

-- one step of the search for a tag
tagged_if : (is : Bool) (id : ℕ) (creation : CreationView) (a b : Option (ℕ × CreationView)) → a ≡ b
    → (if is then Some (id, creation) else a) ≡ (if is then Some (id, creation) else b)
tagged_if true id creation a b is = refl
tagged_if false id creation a b is = is

-- a tag is found under the veil as without it
tagged_veiled : (id : ℕ) (c : Caller) (first : ℕ) (instances : List InstanceView) (tag : List ℕ) → tagged_from first (veiled_from first id c instances) tag ≡ tagged_from first instances tag
tagged_veiled id c first [] tag = refl
tagged_veiled id c first (i ∷ instances) tag = tagged_if (same_text i.creation.tag tag) first i.creation _ _ (tagged_veiled id c (first + 1) instances tag)

-- as many instances are under it
count_veiled : (first id : ℕ) (c : Caller) (instances : List InstanceView) → length (veiled_from first id c instances) ≡ length instances
count_veiled first id c [] = refl
count_veiled first id c (i ∷ instances) = ap suc (count_veiled (first + 1) id c instances)

-- a creation is answered under the veil as without it
creation_veiled : (id : ℕ) (c : Caller) (now : ℕ) (instances : List InstanceView) (body : Result CreationView BodyFault)
    → answer_creation now (veiled_from 1 id c instances) body ≡ answer_creation now instances body
creation_veiled id c now instances (Err fault) = refl
creation_veiled id c now instances (Ok creation) = λ j. new_creation now (count_veiled 1 id c instances j) creation (tagged_veiled id c 1 instances creation.tag j)

-- the event of a step is the same under the veil
pub step_veiled : (id : ℕ) (c : Caller) (h : HostView) (t : ℕ) (command : CommandView) → (step (veil id c h) t command).event ≡ (step h t command).event
step_veiled id c h t (Create body) = ap (λ (a : Answer). a.event) (creation_veiled id c (max t h.moment) h.instances body)
step_veiled id c h t (To k key ask) =
    ap (λ (found : Option InstanceView). (answer_to (max t h.moment) k ask (caller_in h.secret k found key)).event) (instance_veiled id c h k)
    ∙ by_instance (shown_in id c k) h.secret (max t h.moment) k ask key (instance_at h k)

-- a key has one holder under the veil
number_in : (c : Caller) (secret : List ℕ) (id : ℕ) (key : Option (List ℕ)) (found : Option InstanceView) → caller_with secret id (option_map (as_seen_by c) found) key ≡ caller_with secret id found key
number_in c secret id key None = refl
number_in c secret id None (Some i) = refl
number_in c secret id (Some key) (Some i) = refl

-- so is who calls
pub caller_veiled : (id : ℕ) (c : Caller) (h : HostView) (k : ℕ) (key : Option (List ℕ)) → caller_number (veil id c h) k key ≡ caller_number h k key
caller_veiled id c h k key = ap (λ (found : Option InstanceView). caller_with h.secret k found key) (instance_veiled id c h k) ∙ number_in (shown_in id c k) h.secret k key (instance_at h k)
