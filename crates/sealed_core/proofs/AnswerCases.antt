-- What a step may answer, case by case: what holds of each case holds of every answer.
use Rattle.std.proofs.Common.{◌≡◌, ℕ, ◌+◌, max, Bool, true, false, not, ◌&&◌, ◌==◌, nat_le, List, length, if◌then◌else◌, is_none, Option, None, Some, Ok, Err, refl}
use Rattle.std.specs.List.{list_all}
use Rattle.std.proofs.lemmas.Bool.{cond_both, not-false}
use Rattle.bid_rules.specs.declared.bids.Bid.{Bid}
use Rattle.sealed_core.specs.declared.limits.TheConstants.{MOST_TURNS}
use Rattle.sealed_core.specs.declared.commands.Ask.{Ask}
use Rattle.sealed_core.specs.declared.commands.Ask.TheVariants as asks
use Rattle.body_fields.specs.declared.bodies.BidBody.{BidBody}
use Rattle.sealed_core.specs.declared.commands.What.{What}
use Rattle.body_fields.specs.declared.fields.BodyFault.{BodyFault}
use Rattle.body_fields.specs.declared.fields.BodyFault.TheVariants.{Json, Field}
use Rattle.body_fields.specs.declared.fields.FieldName.TheVariants as field
use Rattle.sealed_core.specs.declared.replies.Refusal.{Refusal}
use Rattle.sealed_core.specs.declared.replies.Refusal.TheVariants as refusal
use Rattle.sealed_core.specs.declared.replies.Reply.TheVariants as reply
use Rattle.sealed_core.specs.Host.{CreationView, InstanceView, HostView, BidKept, Closed, Withdrawn, instance_at}
use Rattle.sealed_core.specs.Sameness.{is_kept}
use Rattle.sealed_core.specs.Step.{Answer, CommandView, Create, To, Standing, standing_of, says, refused, answer_to_fault, bid_turn, bid_form, bid_body, bid_by_rule, form_field, form_of, withdrawal_turn, withdrawal_body, answer_close, answer_ask, answer_caller, is_over, may_ask, answer_to, caller_by, caller_in, holder, tagged_from, new_creation, step}

-- a bid that is kept
abbrev pub kept_answer : ℕ → ℕ → ℕ → ℕ → Bid → Answer
kept_answer now id m turn given = record { event = Some (BidKept now id m turn given); reply = reply.Kept turn }

-- a withdrawal
abbrev pub withdrawn_answer : ℕ → ℕ → ℕ → ℕ → Answer
withdrawn_answer now id m turn = record { event = Some (Withdrawn now id m turn); reply = reply.Kept turn }

-- an asked close
abbrev pub closed_answer : ℕ → ℕ → Answer
closed_answer now id = record { event = Some (Closed now id); reply = reply.Closed }

-- what is answered past the deadline, with the close as its event
abbrev pub late_answer : ℕ → ℕ → Answer → Answer
late_answer now id a = record { event = Some (Closed now id); reply = a.reply }

-- what holds of each answer that a caller may get for what they ask
pub record Cases (G : Answer → Type 0) (now id m : ℕ) (s : Standing) (ask : Ask) : Type 0 where
  pub refusals : (r : Refusal) → G (refused r)
  pub status : ask ≡ asks.Status → G (says (reply.Status id m))
  pub own : ask ≡ asks.Own → G (says (reply.Own id m))
  pub turns : s.closed ≡ false → (turn : ℕ) → G (says (reply.Kept turn))
  pub bids : s.closed ≡ false → (body : BidBody) (turn : ℕ) (given : Bid) → ask ≡ asks.Bid (Ok body) → body.turn ≡ Some turn → bid_by_rule s.facts (form_of s.facts body) ≡ Some given → G (kept_answer now id m turn given)
  pub withdrawals : s.closed ≡ false → (body : BidBody) (turn : ℕ) → ask ≡ asks.Withdraw (Ok body) → body.turn ≡ Some turn → G (withdrawn_answer now id m turn)
  pub closes : s.closed ≡ false → ask ≡ asks.Close → G (closed_answer now id)
  pub publications : s.closed ≡ true → (what : What) → ask ≡ asks.Publish what → G (says (reply.Publish id what))

module _ (G : Answer → Type 0) (now id m : ℕ) (s : Standing) (refusals : (r : Refusal) → G (refused r)) where
  -- of a bid with a turn
  of_bid_turn : (s.closed ≡ false → (turn : ℕ) → G (says (reply.Kept turn))) → (turn : ℕ) (given : Bid) → (s.closed ≡ false → G (kept_answer now id m turn given)) → G (bid_turn now id m s turn given)
  of_bid_turn turns turn given kept =
      let last : Answer = kept_answer now id m turn given in
      let fourth : Answer = if s.turn == MOST_TURNS then refused refusal.TurnsUsed else last in
      let third : Answer = if not (turn == (s.turn + 1)) then refused (refusal.Turn s.turn) else fourth in
      let second : Answer = if (turn == s.turn) && is_kept s.bid given then says (reply.Kept s.turn) else third in
      cond_both s.closed (refused refusal.Closed) second G (λ _. refusals refusal.Closed) (λ opened.
      cond_both ((turn == s.turn) && is_kept s.bid given) (says (reply.Kept s.turn)) third G (λ _. turns opened s.turn) (λ _.
      cond_both (not (turn == (s.turn + 1))) (refused (refusal.Turn s.turn)) fourth G (λ _. refusals (refusal.Turn s.turn)) (λ _.
      cond_both (s.turn == MOST_TURNS) (refused refusal.TurnsUsed) last G (λ _. refusals refusal.TurnsUsed) (λ _. kept opened))))

  -- of whatever form
  of_bid_form : (s.closed ≡ false → (turn : ℕ) → G (says (reply.Kept turn))) → (turn : ℕ) (form : Option Bid) → (s.closed ≡ false → (given : Bid) → form ≡ Some given → G (kept_answer now id m turn given))
      → G (bid_form now id m s turn form)
  of_bid_form turns turn None kept = refusals (refusal.BadField (form_field s.facts))
  of_bid_form turns turn (Some given) kept = of_bid_turn turns turn given (λ opened. kept opened given refl)

  -- and body
  of_bid_body : (s.closed ≡ false → (turn : ℕ) → G (says (reply.Kept turn))) → (body : BidBody) (written : Option ℕ)
      → (s.closed ≡ false → (turn : ℕ) (given : Bid) → written ≡ Some turn → bid_by_rule s.facts (form_of s.facts body) ≡ Some given → G (kept_answer now id m turn given))
      → G (bid_body now id m s body written)
  of_bid_body turns body None kept = refusals (refusal.BadField field.Turn)
  of_bid_body turns body (Some turn) kept = of_bid_form turns turn (bid_by_rule s.facts (form_of s.facts body)) (λ opened given is. kept opened turn given refl is)

  -- of a withdrawal with a turn
  of_withdrawal_turn : (s.closed ≡ false → (turn : ℕ) → G (says (reply.Kept turn))) → (turn : ℕ) → (s.closed ≡ false → G (withdrawn_answer now id m turn)) → G (withdrawal_turn now id m s turn)
  of_withdrawal_turn turns turn gone =
      let last : Answer = withdrawn_answer now id m turn in
      let fifth : Answer = if is_none s.bid then refused refusal.NoBid else last in
      let fourth : Answer = if s.turn == MOST_TURNS then refused refusal.TurnsUsed else fifth in
      let third : Answer = if not (turn == (s.turn + 1)) then refused (refusal.Turn s.turn) else fourth in
      let again : Bool = (turn == s.turn) && nat_le 1 s.turn && is_none s.bid in
      let second : Answer = if again then says (reply.Kept s.turn) else third in
      cond_both s.closed (refused refusal.Closed) second G (λ _. refusals refusal.Closed) (λ opened.
      cond_both again (says (reply.Kept s.turn)) third G (λ _. turns opened s.turn) (λ _.
      cond_both (not (turn == (s.turn + 1))) (refused (refusal.Turn s.turn)) fourth G (λ _. refusals (refusal.Turn s.turn)) (λ _.
      cond_both (s.turn == MOST_TURNS) (refused refusal.TurnsUsed) fifth G (λ _. refusals refusal.TurnsUsed) (λ _.
      cond_both (is_none s.bid) (refused refusal.NoBid) last G (λ _. refusals refusal.NoBid) (λ _. gone opened)))))

  -- of whatever body
  of_withdrawal_body : (s.closed ≡ false → (turn : ℕ) → G (says (reply.Kept turn))) → (written : Option ℕ) → (s.closed ≡ false → (turn : ℕ) → written ≡ Some turn → G (withdrawn_answer now id m turn))
      → G (withdrawal_body now id m s written)
  of_withdrawal_body turns None gone = refusals (refusal.BadField field.Turn)
  of_withdrawal_body turns (Some turn) gone = of_withdrawal_turn turns turn (λ opened. gone opened turn refl)

  -- of an asked close
  of_close : (s.closed ≡ false → G (closed_answer now id)) → G (answer_close now id s)
  of_close shut =
      let all : Bool = list_all (λ has. has) s.have_bid in
      let second : Answer = if all then closed_answer now id else refused refusal.NotAll in
      cond_both s.closed (refused refusal.Closed) second G (λ _. refusals refusal.Closed) (λ opened. cond_both all (closed_answer now id) (refused refusal.NotAll) G (λ _. shut opened) (λ _. refusals refusal.NotAll))

  -- of a body at fault
  of_fault : (fault : BodyFault) → G (answer_to_fault fault)
  of_fault Json = refusals refusal.BadJson
  of_fault (Field name) = refusals (refusal.BadField name)

-- of whatever a caller may ask
pub of_ask : (G : Answer → Type 0) (now id m : ℕ) (s : Standing) (ask : Ask) → Cases G now id m s ask → G (answer_ask now id m s ask)
of_ask G now id m s asks.Status each = each.status refl
of_ask G now id m s (asks.Bid (Err fault)) each = of_fault G now id m s each.refusals fault
of_ask G now id m s (asks.Bid (Ok body)) each = of_bid_body G now id m s each.refusals each.turns body body.turn (λ opened turn given says_turn form. each.bids opened body turn given refl says_turn form)
of_ask G now id m s asks.Own each = each.own refl
of_ask G now id m s asks.Close each = of_close G now id m s each.refusals (λ opened. each.closes opened refl)
of_ask G now id m s (asks.Publish what) each = cond_both s.closed (says (reply.Publish id what)) (refused refusal.NotClosed) G (λ closed. each.publications closed what refl) (λ _. each.refusals refusal.NotClosed)
of_ask G now id m s (asks.Withdraw (Err fault)) each = of_fault G now id m s each.refusals fault
of_ask G now id m s (asks.Withdraw (Ok body)) each = of_withdrawal_body G now id m s each.refusals each.turns body.turn (λ opened turn says_turn. each.withdrawals opened body turn refl says_turn)

-- what holds of each answer to the holder of a key who may ask it, at or past the deadline
abbrev pub Late : HostView → ℕ → (CommandView → Answer → Type 0) → Type 0
Late h t G =
    (id m : ℕ) (i : InstanceView) (key : List ℕ) (ask : Ask) → instance_at h id ≡ Some i → holder h.secret id i key ≡ Some m → may_ask m ask ≡ true → is_over (max t h.moment) i ≡ true
    → G (To id (Some key) ask) (late_answer (max t h.moment) id (answer_ask (max t h.moment) id m (standing_of i m true) ask))

-- the same of what is asked before it
abbrev pub Early : HostView → ℕ → (CommandView → Answer → Type 0) → Type 0
Early h t G =
    (id m : ℕ) (i : InstanceView) (key : List ℕ) (ask : Ask) → instance_at h id ≡ Some i → holder h.secret id i key ≡ Some m → may_ask m ask ≡ true → is_over (max t h.moment) i ≡ false
    → G (To id (Some key) ask) (answer_ask (max t h.moment) id m (standing_of i m i.closed) ask)

module _ (h : HostView) (t : ℕ) (G : CommandView → Answer → Type 0) (refusals : (command : CommandView) (r : Refusal) → G command (refused r)) (late : Late h t G) (early : Early h t G) where
  -- of whatever a caller asks
  of_caller : (id m : ℕ) (i : InstanceView) (key : List ℕ) (ask : Ask) → instance_at h id ≡ Some i → holder h.secret id i key ≡ Some m → G (To id (Some key) ask) (answer_caller (max t h.moment) id ask i m)
  of_caller id m i key ask there held =
      let now = max t h.moment in
      let after : Answer = late_answer now id (answer_ask now id m (standing_of i m true) ask) in
      let before : Answer = answer_ask now id m (standing_of i m i.closed) ask in
      let second : Answer = if is_over now i then after else before in
      let Good : Answer → Type 0 = G (To id (Some key) ask) in
      cond_both (not (may_ask m ask)) (refused refusal.Role) second Good (λ _. refusals (To id (Some key) ask) refusal.Role) (λ may.
      let right = not-false (may_ask m ask) may in
      cond_both (is_over now i) after before Good (λ over. late id m i key ask there held right over) (λ before. early id m i key ask there held right before))

  -- of a command under a key
  of_holder : (id : ℕ) (i : InstanceView) (key : List ℕ) (ask : Ask) → instance_at h id ≡ Some i → (who : Option ℕ) → holder h.secret id i key ≡ who → G (To id (Some key) ask) (answer_to (max t h.moment) id ask (caller_by i who))
  of_holder id i key ask there None held = refusals (To id (Some key) ask) refusal.WrongKey
  of_holder id i key ask there (Some m) held = of_caller id m i key ask there held

  -- of a command on an instance
  of_instance : (id : ℕ) (key : Option (List ℕ)) (ask : Ask) (found : Option InstanceView) → instance_at h id ≡ found → G (To id key ask) (answer_to (max t h.moment) id ask (caller_in h.secret id found key))
  of_instance id key ask None there = refusals (To id key ask) refusal.NoInstance
  of_instance id None ask (Some i) there = refusals (To id None ask) refusal.NoKey
  of_instance id (Some key) ask (Some i) there = of_holder id i key ask there (holder h.secret id i key) refl

  -- of every command, where it holds of each creation
  pub of_step : ((c : CreationView) → G (Create (Ok c)) (new_creation (max t h.moment) (length h.instances) c (tagged_from 1 h.instances c.tag))) → (command : CommandView) → G command (step h t command)
  of_step creations (Create (Err Json)) = refusals (Create (Err Json)) refusal.BadJson
  of_step creations (Create (Err (Field name))) = refusals (Create (Err (Field name))) (refusal.BadField name)
  of_step creations (Create (Ok c)) = creations c
  of_step creations (To id key ask) = of_instance id key ask (instance_at h id) refl
