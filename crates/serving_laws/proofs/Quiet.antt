-- No refusal of a step has an event but the close of an instance that is asked past its deadline.
use Rattle.std.proofs.Common.{◌≡◌, ℕ, ◌+◌, ◌==◌, ◌&&◌, max, not, Bool, true, false, nat_le, nat_lt, is_none, if◌then◌else◌, List, length, IsSomeAnd, Option, None, Some, Ok, Err, refl, sym, subst, inl, inr, true≢false}
use Rattle.std.specs.List.{list_all}
use Rattle.std.proofs.lemmas.Bool.{cond_both}
use Rattle.bid_rules.specs.declared.bids.Bid.{Bid}
use Rattle.body_fields.specs.declared.bodies.BidBody.{BidBody}
use Rattle.body_fields.specs.declared.fields.BodyFault.{BodyFault}
use Rattle.body_fields.specs.declared.fields.BodyFault.TheVariants.{Json, Field}
use Rattle.sealed_core.specs.declared.commands.Ask.{Ask}
use Rattle.sealed_core.specs.declared.commands.Ask.TheVariants as asks
use Rattle.sealed_core.specs.declared.limits.TheConstants.{MOST_INSTANCES, MOST_TURNS}
use Rattle.sealed_core.specs.declared.replies.Refusal.TheVariants as refusal
use Rattle.sealed_core.specs.declared.replies.Reply.TheVariants as reply
use Rattle.sealed_core.specs.Host.{CreationView, InstanceView, HostView, Created, BidKept, Closed, Withdrawn, instance_at}
use Rattle.sealed_core.specs.Sameness.{is_kept, same_creation}
use Rattle.sealed_core.specs.Sealed.{IsQuiet, is_refused}
use Rattle.sealed_core.specs.Step.{Answer, CommandView, Create, To, Standing, answer_ask, answer_caller, answer_close, answer_to, bid_body, bid_form, bid_turn, answer_to_fault, caller_by, caller_in, bid_by_rule, form_of, holder, is_over, may_ask, new_creation, refused, says, standing_of, step, tagged_from, withdrawal_body, withdrawal_turn}

-- a refusal has no event
abbrev Silent : Answer → Type 0
Silent a = is_refused a.reply ≡ true → a.event ≡ None

-- what is no refusal may have one
accepted : {A : Type 0} → false ≡ true → A
accepted is = absurd (true≢false (sym is))

module _ (now id m : ℕ) (s : Standing) where
  silent_bid : (turn : ℕ) (given : Bid) → Silent (bid_turn now id m s turn given)
  silent_bid turn given =
      let last : Answer = record { event = Some (BidKept now id m turn given); reply = reply.Kept turn } in
      let fourth : Answer = if s.turn == MOST_TURNS then refused refusal.TurnsUsed else last in
      let third : Answer = if not (turn == (s.turn + 1)) then refused (refusal.Turn s.turn) else fourth in
      let second : Answer = if (turn == s.turn) && is_kept s.bid given then says (reply.Kept s.turn) else third in
      cond_both s.closed (refused refusal.Closed) second Silent (λ _ _. refl) (λ _.
      cond_both ((turn == s.turn) && is_kept s.bid given) (says (reply.Kept s.turn)) third Silent (λ _ _. refl) (λ _.
      cond_both (not (turn == (s.turn + 1))) (refused (refusal.Turn s.turn)) fourth Silent (λ _ _. refl) (λ _.
      cond_both (s.turn == MOST_TURNS) (refused refusal.TurnsUsed) last Silent (λ _ _. refl) (λ _. accepted))))

  silent_form : (turn : ℕ) (form : Option Bid) → Silent (bid_form now id m s turn form)
  silent_form turn None is = refl
  silent_form turn (Some given) is = silent_bid turn given is

  silent_body : (body : BidBody) (turn : Option ℕ) → Silent (bid_body now id m s body turn)
  silent_body body None is = refl
  silent_body body (Some turn) is = silent_form turn (bid_by_rule s.facts (form_of s.facts body)) is

  silent_withdrawal : (turn : ℕ) → Silent (withdrawal_turn now id m s turn)
  silent_withdrawal turn =
      let last : Answer = record { event = Some (Withdrawn now id m turn); reply = reply.Kept turn } in
      let fifth : Answer = if is_none s.bid then refused refusal.NoBid else last in
      let fourth : Answer = if s.turn == MOST_TURNS then refused refusal.TurnsUsed else fifth in
      let third : Answer = if not (turn == (s.turn + 1)) then refused (refusal.Turn s.turn) else fourth in
      let again : Bool = (turn == s.turn) && nat_le 1 s.turn && is_none s.bid in
      let second : Answer = if again then says (reply.Kept s.turn) else third in
      cond_both s.closed (refused refusal.Closed) second Silent (λ _ _. refl) (λ _.
      cond_both again (says (reply.Kept s.turn)) third Silent (λ _ _. refl) (λ _.
      cond_both (not (turn == (s.turn + 1))) (refused (refusal.Turn s.turn)) fourth Silent (λ _ _. refl) (λ _.
      cond_both (s.turn == MOST_TURNS) (refused refusal.TurnsUsed) fifth Silent (λ _ _. refl) (λ _.
      cond_both (is_none s.bid) (refused refusal.NoBid) last Silent (λ _ _. refl) (λ _. accepted)))))

  silent_withdrawn : (turn : Option ℕ) → Silent (withdrawal_body now id m s turn)
  silent_withdrawn None is = refl
  silent_withdrawn (Some turn) is = silent_withdrawal turn is

  silent_close : Silent (answer_close now id s)
  silent_close =
      let all : Bool = list_all (λ has. has) s.have_bid in
      let shut : Answer = record { event = Some (Closed now id); reply = reply.Closed } in
      let second : Answer = if all then shut else refused refusal.NotAll in
      cond_both s.closed (refused refusal.Closed) second Silent (λ _ _. refl) (λ _. cond_both all shut (refused refusal.NotAll) Silent (λ _. accepted) (λ _ _. refl))

  silent_fault : (fault : BodyFault) → Silent (answer_to_fault fault)
  silent_fault Json is = refl
  silent_fault (Field name) is = refl

-- of whatever is asked by a caller who may ask it
silent_ask : (now id m : ℕ) (s : Standing) (ask : Ask) → Silent (answer_ask now id m s ask)
silent_ask now id m s asks.Status is = refl
silent_ask now id m s (asks.Bid (Err fault)) is = silent_fault now id m s fault is
silent_ask now id m s (asks.Bid (Ok body)) is = silent_body now id m s body body.turn is
silent_ask now id m s asks.Own is = refl
silent_ask now id m s asks.Close is = silent_close now id m s is
silent_ask now id m s (asks.Publish what) is = cond_both s.closed (says (reply.Publish id what)) (refused refusal.NotClosed) Silent (λ _ _. refl) (λ _ _. refl) is
silent_ask now id m s (asks.Withdraw (Err fault)) is = silent_fault now id m s fault is
silent_ask now id m s (asks.Withdraw (Ok body)) is = silent_withdrawn now id m s body.turn is

module _ (h : HostView) (t : ℕ) where
  quiet_caller : (id m : ℕ) (i : InstanceView) (key : Option (List ℕ)) (ask : Ask) → instance_at h id ≡ Some i → IsQuiet h t (To id key ask) (answer_caller (max t h.moment) id ask i m)
  quiet_caller id m i key ask there =
      let now = max t h.moment in
      let Quiet : Answer → Type 0 = IsQuiet h t (To id key ask) in
      let after : Answer = record { event = Some (Closed now id); reply = (answer_ask now id m (standing_of i m true) ask).reply } in
      let before : Answer = answer_ask now id m (standing_of i m i.closed) ask in
      let second : Answer = if is_over now i then after else before in
      cond_both (not (may_ask m ask)) (refused refusal.Role) second Quiet (λ _ _. inl refl) (λ _.
      cond_both (is_over now i) after before Quiet (λ over _. inr (refl, subst (λ (o : Option InstanceView). IsSomeAnd o (λ j. is_over now j ≡ true)) (sym there) over))
      (λ _ is. inl (silent_ask now id m (standing_of i m i.closed) ask is)))

  quiet_holder : (id : ℕ) (i : InstanceView) (key : Option (List ℕ)) (ask : Ask) → instance_at h id ≡ Some i → (who : Option ℕ) → IsQuiet h t (To id key ask) (answer_to (max t h.moment) id ask (caller_by i who))
  quiet_holder id i key ask there None is = inl refl
  quiet_holder id i key ask there (Some m) is = quiet_caller id m i key ask there is

  quiet_instance : (id : ℕ) (key : Option (List ℕ)) (ask : Ask) (found : Option InstanceView) → instance_at h id ≡ found
      → IsQuiet h t (To id key ask) (answer_to (max t h.moment) id ask (caller_in h.secret id found key))
  quiet_instance id key ask None there is = inl refl
  quiet_instance id None ask (Some i) there is = inl refl
  quiet_instance id (Some key) ask (Some i) there is = quiet_holder id i (Some key) ask there (holder h.secret id i key) is

  quiet_creation : (c : CreationView) (found : Option (ℕ × CreationView)) → IsQuiet h t (Create (Ok c)) (new_creation (max t h.moment) (length h.instances) c found)
  quiet_creation c None =
      let made : Answer = record { event = Some (Created (max t h.moment) c); reply = reply.Created (length h.instances + 1) } in
      cond_both (nat_lt (length h.instances) MOST_INSTANCES) made (refused refusal.HostFull) (IsQuiet h t (Create (Ok c))) (λ _. accepted) (λ _ _. refl)
  quiet_creation c (Some found) =
      cond_both (same_creation found.1 c) (says (reply.Created found.0)) (refused refusal.TagTaken) (IsQuiet h t (Create (Ok c))) (λ _ _. refl) (λ _ _. refl)

-- no refusal of a step has an event but such a close
pub quiet_step : (h : HostView) (t : ℕ) (command : CommandView) → IsQuiet h t command (step h t command)
quiet_step h t (Create (Err Json)) is = refl
quiet_step h t (Create (Err (Field name))) is = refl
quiet_step h t (Create (Ok c)) is = quiet_creation h t c (tagged_from 1 h.instances c.tag) is
quiet_step h t (To id key ask) is = quiet_instance h t id key ask (instance_at h id) refl is
