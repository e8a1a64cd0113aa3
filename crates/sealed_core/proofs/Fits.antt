-- What is known of the event of a step.
use Rattle.std.proofs.Common.{◌≡◌, ℕ, zero, suc, ◌+◌, ◌<◌, ◌≤◌, ◌⊎◌, inl, inr, max, Bool, true, false, not, ◌&&◌, ◌==◌, nat_le, nat_lt, List, map, length, if◌then◌else◌, is_some, is_none, Option, None, Some, Ok, Err, refl, ap, sym, ◌∙◌, arith, nat_eq, true≢false, unwrap_or}
use Rattle.std.specs.List.{list_all}
use Rattle.std.specs.Cmp.Lexicographic.{pointwise}
use Rattle.std.proofs.lemmas.Bool.{eqb-true, eqb-false, not-true, not-false, leb-true, ltb-true, and_parts, cond_both}
use Rattle.bid_rules.specs.declared.bids.Bid.{Bid}
use Rattle.bid_rules.specs.Facts.{IsCheckedBid}
use Rattle.sealed_core.specs.declared.limits.TheConstants.{MOST_INSTANCES, MOST_TURNS}
use Rattle.sealed_core.specs.declared.commands.Ask.{Ask}
use Rattle.sealed_core.specs.declared.commands.Ask.TheVariants as asks
use Rattle.body_fields.specs.declared.bodies.BidBody.{BidBody}
use Rattle.body_fields.specs.declared.fields.BodyFault.TheVariants.{Json, Field}
use Rattle.sealed_core.specs.declared.replies.Refusal.TheVariants as refusal
use Rattle.sealed_core.specs.declared.replies.Reply.TheVariants as reply
use Rattle.sealed_core.specs.Host.{CreationView, InstanceView, HostView, EventView, Created, BidKept, Closed, Withdrawn, instance_at, kept_turn, kept_bid}
use Rattle.sealed_core.specs.Keys.{first_holder, key_text}
use Rattle.sealed_core.specs.Sameness.{is_kept, same_creation}
use Rattle.sealed_core.specs.Sealed.{caller_with, caller_number}
use Rattle.sealed_core.specs.Step.{Answer, CommandView, Create, To, standing_of, says, refused, bid_turn, bid_form, bid_body, bid_by_rule, form_of, withdrawal_turn, withdrawal_body, answer_close, answer_ask, answer_caller, is_over, may_ask, answer_to, caller_by, caller_in, holder, tagged_from, new_creation, step}
use Rattle.sealed_core.proofs.BidRules.{by_rules}

-- the command asks this instance, and this is its caller
abbrev pub IsBy : HostView → ℕ → ℕ → CommandView → Type 0
IsBy h id m (Create body) = ⊥
IsBy h id m (To other key ask) = (other ≡ id) × (caller_number h other key ≡ Some m)

-- the instance is open, and this is the next turn of the member, as the step tests it
pub record HasTurn (now : ℕ) (i : InstanceView) (m turn : ℕ) : Type 0 where
  pub open_ : i.closed ≡ false
  pub early : nat_le i.creation.deadline now ≡ false
  pub least : 1 ≤ m
  pub most : m ≤ length i.creation.members
  pub next : turn ≡ kept_turn i m + 1
  pub used : (kept_turn i m == MOST_TURNS) ≡ false

-- what an event has to do with the command and the host of its step, by the kind of event
abbrev pub Fits : HostView → ℕ → CommandView → Option EventView → Type 0
Fits h t command None = Unit {0}
Fits h t command (Some (Created now c)) = (now ≡ max t h.moment) × (command ≡ Create (Ok c)) × (length h.instances < MOST_INSTANCES) × (tagged_from 1 h.instances c.tag ≡ None)
Fits h t command (Some (BidKept now id m turn given)) = (now ≡ max t h.moment) × IsBy h id m command × ((i : InstanceView) × (instance_at h id ≡ Some i) × HasTurn now i m turn × IsCheckedBid i.creation.facts given)
Fits h t command (Some (Closed now id)) = (now ≡ max t h.moment) × ((i : InstanceView) × (instance_at h id ≡ Some i) × (i.closed ≡ false) × ((i.creation.deadline ≤ now) ⊎ (list_all (λ has. has) (map is_some i.bids) ≡ true)))
Fits h t command (Some (Withdrawn now id m turn)) = (now ≡ max t h.moment) × IsBy h id m command × ((i : InstanceView) × (instance_at h id ≡ Some i) × HasTurn now i m turn × (is_none (kept_bid i m) ≡ false))

-- an open instance that is not over is before its deadline
still_early : (closed late : Bool) → (not closed && late) ≡ false → closed ≡ false → late ≡ false
still_early true late is not_closed = absurd (cc)
still_early false late is not_closed = is

module _ (h : HostView) (t : ℕ) (command : CommandView) (id : ℕ) (i : InstanceView) (m : ℕ) (by : IsBy h id m command) (there : instance_at h id ≡ Some i) (most : m ≤ length i.creation.members) where
  -- the moment of the step
  abbrev now : ℕ
  now = max t h.moment

  -- the event of this answer fits
  abbrev Fit : Answer → Type 0
  Fit a = Fits h t command a.event

  -- of a checked bid
  fits_bid_turn : is_over now i ≡ false → 1 ≤ m → (turn : ℕ) (given : Bid) → IsCheckedBid i.creation.facts given → Fit (bid_turn now id m (standing_of i m i.closed) turn given)
  fits_bid_turn early least turn given right =
      let kept : Answer = record { event = Some (BidKept now id m turn given); reply = reply.Kept turn } in
      let fourth : Answer = if kept_turn i m == MOST_TURNS then refused refusal.TurnsUsed else kept in
      let third : Answer = if not (turn == (kept_turn i m + 1)) then refused (refusal.Turn (kept_turn i m)) else fourth in
      let second : Answer = if (turn == kept_turn i m) && is_kept (kept_bid i m) given then says (reply.Kept (kept_turn i m)) else third in
      cond_both i.closed (refused refusal.Closed) second Fit (λ _. tt) (λ opened.
      cond_both ((turn == kept_turn i m) && is_kept (kept_bid i m) given) (says (reply.Kept (kept_turn i m))) third Fit (λ _. tt) (λ _.
      cond_both (not (turn == (kept_turn i m + 1))) (refused (refusal.Turn (kept_turn i m))) fourth Fit (λ _. tt) (λ near.
      cond_both (kept_turn i m == MOST_TURNS) (refused refusal.TurnsUsed) kept Fit (λ _. tt) (λ left. (
        refl,
        by,
        (
          i,
          there,
          record {
            open_ = opened;
            early = still_early i.closed (nat_le i.creation.deadline now) early opened;
            least = least;
            most = most;
            next = eqb-true turn (kept_turn i m + 1) (not-false (turn == (kept_turn i m + 1)) near);
            used = left;
          },
          right,
        ),
      )))))

  -- of a bid that is checked or not
  fits_bid_form : is_over now i ≡ false → 1 ≤ m → (turn : ℕ) (given : Option Bid) → Fit (bid_form now id m (standing_of i m i.closed) turn (bid_by_rule i.creation.facts given))
  fits_bid_form early least turn None = tt
  fits_bid_form early least turn (Some given) =
      by_rules i.creation.facts given (λ (chosen : Option Bid). Fit (bid_form now id m (standing_of i m i.closed) turn chosen)) (λ right. fits_bid_turn early least turn given right) (λ _. tt)

  -- of a bid's body
  fits_bid_body : is_over now i ≡ false → 1 ≤ m → (body : BidBody) (turn : Option ℕ) → Fit (bid_body now id m (standing_of i m i.closed) body turn)
  fits_bid_body early least body None = tt
  fits_bid_body early least body (Some turn) = fits_bid_form early least turn (form_of i.creation.facts body)

  -- of a withdrawal with a turn
  fits_withdrawal_turn : is_over now i ≡ false → 1 ≤ m → (turn : ℕ) → Fit (withdrawal_turn now id m (standing_of i m i.closed) turn)
  fits_withdrawal_turn early least turn =
      let gone : Answer = record { event = Some (Withdrawn now id m turn); reply = reply.Kept turn } in
      let fifth : Answer = if is_none (kept_bid i m) then refused refusal.NoBid else gone in
      let fourth : Answer = if kept_turn i m == MOST_TURNS then refused refusal.TurnsUsed else fifth in
      let third : Answer = if not (turn == (kept_turn i m + 1)) then refused (refusal.Turn (kept_turn i m)) else fourth in
      let again : Bool = (turn == kept_turn i m) && nat_le 1 (kept_turn i m) && is_none (kept_bid i m) in
      let second : Answer = if again then says (reply.Kept (kept_turn i m)) else third in
      cond_both i.closed (refused refusal.Closed) second Fit (λ _. tt) (λ opened.
      cond_both again (says (reply.Kept (kept_turn i m))) third Fit (λ _. tt) (λ _.
      cond_both (not (turn == (kept_turn i m + 1))) (refused (refusal.Turn (kept_turn i m))) fourth Fit (λ _. tt) (λ near.
      cond_both (kept_turn i m == MOST_TURNS) (refused refusal.TurnsUsed) fifth Fit (λ _. tt) (λ left.
      cond_both (is_none (kept_bid i m)) (refused refusal.NoBid) gone Fit (λ _. tt) (λ has. (
        refl,
        by,
        (
          i,
          there,
          record {
            open_ = opened;
            early = still_early i.closed (nat_le i.creation.deadline now) early opened;
            least = least;
            most = most;
            next = eqb-true turn (kept_turn i m + 1) (not-false (turn == (kept_turn i m + 1)) near);
            used = left;
          },
          has,
        ),
      ))))))

  -- of a withdrawal's body
  fits_withdrawal_body : is_over now i ≡ false → 1 ≤ m → (turn : Option ℕ) → Fit (withdrawal_body now id m (standing_of i m i.closed) turn)
  fits_withdrawal_body early least None = tt
  fits_withdrawal_body early least (Some turn) = fits_withdrawal_turn early least turn

  -- of an asked close
  fits_close : Fit (answer_close now id (standing_of i m i.closed))
  fits_close =
      let all : Bool = list_all (λ has. has) (map is_some i.bids) in
      let shut : Answer = record { event = Some (Closed now id); reply = reply.Closed } in
      let second : Answer = if all then shut else refused refusal.NotAll in
      cond_both i.closed (refused refusal.Closed) second Fit (λ _. tt) (λ opened.
      cond_both all shut (refused refusal.NotAll) Fit (λ whole. (refl, (i, there, opened, inr whole))) (λ _. tt))

  -- who is not the organiser is a member
  member : not (m == 0) ≡ true → 1 ≤ m
  member is = let other = eqb-false m 0 (not-true (m == 0) is) in omega (arith, other)

  -- of whatever a caller may ask before the deadline
  fits_ask : (ask : Ask) → is_over now i ≡ false → may_ask m ask ≡ true → Fit (answer_ask now id m (standing_of i m i.closed) ask)
  fits_ask asks.Status early may = tt
  fits_ask (asks.Bid (Err Json)) early may = tt
  fits_ask (asks.Bid (Err (Field name))) early may = tt
  fits_ask (asks.Bid (Ok body)) early may = fits_bid_body early (member may) body body.turn
  fits_ask asks.Own early may = tt
  fits_ask asks.Close early may = fits_close
  fits_ask (asks.Publish what) early may = cond_both i.closed (says (reply.Publish id what)) (refused refusal.NotClosed) Fit (λ _. tt) (λ _. tt)
  fits_ask (asks.Withdraw (Err Json)) early may = tt
  fits_ask (asks.Withdraw (Err (Field name))) early may = tt
  fits_ask (asks.Withdraw (Ok body)) early may = fits_withdrawal_body early (member may) body.turn

  -- of whatever a caller asks
  pub fits_caller : (ask : Ask) → Fit (answer_caller now id ask i m)
  fits_caller ask =
      let after : Answer = record { event = Some (Closed now id); reply = (answer_ask now id m (standing_of i m true) ask).reply } in
      let before : Answer = answer_ask now id m (standing_of i m i.closed) ask in
      let second : Answer = if is_over now i then after else before in
      cond_both (not (may_ask m ask)) (refused refusal.Role) second Fit (λ _. tt) (λ may.
      cond_both (is_over now i) after before Fit
      (λ over. let parts = and_parts (not i.closed) (nat_le i.creation.deadline now) over in
      (refl, (i, there, not-true i.closed parts.0, inl (leb-true i.creation.deadline now parts.1))))
      (λ early. fits_ask ask early (not-false (may_ask m ask) may)))

-- a holder is among those who were asked
pub held : (secret key : List ℕ) (id n from m : ℕ) → first_holder secret id key n from ≡ Some m → m < from + n
held secret key id zero from m is = absurd (true≢false (sym (ap is_some is)))
held secret key id (suc n) from m is =
    cond_both (pointwise nat_eq (key_text secret id from) key) (Some from) (first_holder secret id key n (from + 1)) (λ (found : Option ℕ). found ≡ Some m → m < from + suc n)
    (λ _ this. let same : from ≡ m = ap (λ (o : Option ℕ). unwrap_or o 0) this in omega (arith, same))
    (λ _ later. let below = held secret key id n (from + 1) m later in omega (arith, below)) is

-- of a command under a key, by its holder
by_holder : (h : HostView) (t id : ℕ) (key : List ℕ) (ask : Ask) (i : InstanceView) → instance_at h id ≡ Some i → caller_number h id (Some key) ≡ holder h.secret id i key
    → (who : Option ℕ) → holder h.secret id i key ≡ who → Fits h t (To id (Some key) ask) (answer_to (max t h.moment) id ask (caller_by i who)).event
by_holder h t id key ask i there number None is = tt
by_holder h t id key ask i there number (Some m) is =
    let below = held h.secret key id (length i.creation.members + 1) 0 m is in
    fits_caller h t (To id (Some key) ask) id i m (refl, number ∙ is) there (omega (arith, below)) ask

-- of a command on an instance, by the instance
by_instance : (h : HostView) (t id : ℕ) (key : Option (List ℕ)) (ask : Ask) (found : Option InstanceView) → instance_at h id ≡ found
    → Fits h t (To id key ask) (answer_to (max t h.moment) id ask (caller_in h.secret id found key)).event
by_instance h t id key ask None is = tt
by_instance h t id None ask (Some i) is = tt
by_instance h t id (Some key) ask (Some i) is = by_holder h t id key ask i is (ap (λ (o : Option InstanceView). caller_with h.secret id o (Some key)) is) (holder h.secret id i key) refl

-- of a creation, by the one that is kept under its tag
fits_creation : (h : HostView) (t : ℕ) (c : CreationView) (found : Option (ℕ × CreationView)) → tagged_from 1 h.instances c.tag ≡ found
    → Fits h t (Create (Ok c)) (new_creation (max t h.moment) (length h.instances) c found).event
fits_creation h t c None is =
    let made : Answer = record { event = Some (Created (max t h.moment) c); reply = reply.Created (length h.instances + 1) } in
    cond_both (nat_lt (length h.instances) MOST_INSTANCES) made (refused refusal.HostFull) (λ (a : Answer). Fits h t (Create (Ok c)) a.event)
    (λ few. (refl, refl, ltb-true (length h.instances) MOST_INSTANCES few, is)) (λ _. tt)
fits_creation h t c (Some found) is =
    cond_both (same_creation found.1 c) (says (reply.Created found.0)) (refused refusal.TagTaken) (λ (a : Answer). Fits h t (Create (Ok c)) a.event) (λ _. tt) (λ _. tt)

-- the event of every step fits
pub step_fits : (h : HostView) (t : ℕ) (command : CommandView) → Fits h t command (step h t command).event
step_fits h t (Create (Err Json)) = tt
step_fits h t (Create (Err (Field name))) = tt
step_fits h t (Create (Ok c)) = fits_creation h t c (tagged_from 1 h.instances c.tag) refl
step_fits h t (To id key ask) = by_instance h t id key ask (instance_at h id) refl
