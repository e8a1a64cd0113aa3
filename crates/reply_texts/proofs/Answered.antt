-- What the reply of a step names is there, and the event is the reply's own: by all that a step may answer.
use Rattle.std.proofs.Common.{◌≡◌, ℕ, zero, suc, ◌+◌, ◌-◌, ◌<◌, ◌≤◌, ◌⊎◌, inl, inr, max, Bool, true, false, not, ◌&&◌, ◌==◌, nat_le, nat_lt, nat_eq, List, [], ◌∷◌, length, if◌then◌else◌, is_some, is_none, unwrap_or, slice_get, Option, None, Some, Ok, Err, refl, ap, sym, subst, ◌∙◌, arith, true≢false}
use Rattle.std.specs.Prelude.{IsSome, IsSomeAnd}
use Rattle.std.specs.List.{list_all}
use Rattle.std.specs.Cmp.Lexicographic.{pointwise}
use Rattle.std.proofs.lemmas.Bool.{cond_both, eqb-false, ne_eqb, not-false, not-true}
use Rattle.bid_rules.specs.declared.bids.Bid.{Bid}
use Rattle.sealed_core.specs.declared.limits.TheConstants.{MOST_INSTANCES, MOST_TURNS}
use Rattle.sealed_core.specs.declared.commands.Ask.{Ask}
use Rattle.sealed_core.specs.declared.commands.Ask.TheVariants as asks
use Rattle.body_fields.specs.declared.bodies.BidBody.{BidBody}
use Rattle.sealed_core.specs.declared.commands.What.{What}
use Rattle.body_fields.specs.declared.fields.BodyFault.{BodyFault}
use Rattle.body_fields.specs.declared.fields.BodyFault.TheVariants.{Json, Field}
use Rattle.body_fields.specs.declared.fields.FieldName.TheVariants as field
use Rattle.sealed_core.specs.declared.replies.Refusal.{Refusal}
use Rattle.sealed_core.specs.declared.replies.Refusal.TheVariants as refusal
use Rattle.sealed_core.specs.declared.replies.Reply.{Reply}
use Rattle.sealed_core.specs.declared.replies.Reply.TheVariants as reply
use Rattle.sealed_core.specs.Host.{CreationView, InstanceView, HostView, EventView, BidKept, Closed, Created, Withdrawn, instance_at}
use Rattle.sealed_core.specs.Keys.{first_holder, key_text}
use Rattle.sealed_core.specs.Sameness.{is_kept, same_creation, same_text}
use Rattle.sealed_core.specs.Step.{Answer, CommandView, Create, To, Standing, standing_of, says, refused, answer_to_fault, bid_turn, bid_form, bid_body, bid_by_rule, form_field, form_of, withdrawal_turn, withdrawal_body, answer_close, answer_ask, answer_caller, is_over, may_ask, answer_to, caller_by, caller_in, holder, tagged_from, new_creation, step}
use Rattle.reply_texts.specs.Telling.{IsAnswered, IsCloseOf, Tells, is_publication}

-- what holds of each refusal, kept turn, close and publication, and of a status and an own bid where they are asked for, holds of every
-- reply to a caller who may ask
module _ (G : Reply → Type 0) (refusals : (r : Refusal) → G (reply.Refused r)) (turns : (turn : ℕ) → G (reply.Kept turn)) (closes : G reply.Closed) (publications : (id : ℕ) (what : What) → G (reply.Publish id what)) (now id m : ℕ) where
  -- of an answer
  abbrev Good : Answer → Type 0
  Good a = G a.reply

  -- of a bid with a turn
  good_bid_turn : (s : Standing) (turn : ℕ) (given : Bid) → Good (bid_turn now id m s turn given)
  good_bid_turn s turn given =
      let kept : Answer = record { event = Some (BidKept now id m turn given); reply = reply.Kept turn } in
      let fourth : Answer = if s.turn == MOST_TURNS then refused refusal.TurnsUsed else kept in
      let third : Answer = if not (turn == (s.turn + 1)) then refused (refusal.Turn s.turn) else fourth in
      let second : Answer = if (turn == s.turn) && is_kept s.bid given then says (reply.Kept s.turn) else third in
      cond_both s.closed (refused refusal.Closed) second Good (λ _. refusals refusal.Closed) (λ _.
      cond_both ((turn == s.turn) && is_kept s.bid given) (says (reply.Kept s.turn)) third Good (λ _. turns s.turn) (λ _.
      cond_both (not (turn == (s.turn + 1))) (refused (refusal.Turn s.turn)) fourth Good (λ _. refusals (refusal.Turn s.turn)) (λ _.
      cond_both (s.turn == MOST_TURNS) (refused refusal.TurnsUsed) kept Good (λ _. refusals refusal.TurnsUsed) (λ _. turns turn))))

  -- of whatever form
  good_bid_form : (s : Standing) (turn : ℕ) (given : Option Bid) → Good (bid_form now id m s turn given)
  good_bid_form s turn None = refusals (refusal.BadField (form_field s.facts))
  good_bid_form s turn (Some given) = good_bid_turn s turn given

  -- and body
  good_bid_body : (s : Standing) (body : BidBody) (turn : Option ℕ) → Good (bid_body now id m s body turn)
  good_bid_body s body None = refusals (refusal.BadField field.Turn)
  good_bid_body s body (Some turn) = good_bid_form s turn (bid_by_rule s.facts (form_of s.facts body))

  -- of a withdrawal with a turn
  good_withdrawal_turn : (s : Standing) (turn : ℕ) → Good (withdrawal_turn now id m s turn)
  good_withdrawal_turn s turn =
      let gone : Answer = record { event = Some (Withdrawn now id m turn); reply = reply.Kept turn } in
      let fifth : Answer = if is_none s.bid then refused refusal.NoBid else gone in
      let fourth : Answer = if s.turn == MOST_TURNS then refused refusal.TurnsUsed else fifth in
      let third : Answer = if not (turn == (s.turn + 1)) then refused (refusal.Turn s.turn) else fourth in
      let again : Bool = (turn == s.turn) && nat_le 1 s.turn && is_none s.bid in
      let second : Answer = if again then says (reply.Kept s.turn) else third in
      cond_both s.closed (refused refusal.Closed) second Good (λ _. refusals refusal.Closed) (λ _.
      cond_both again (says (reply.Kept s.turn)) third Good (λ _. turns s.turn) (λ _.
      cond_both (not (turn == (s.turn + 1))) (refused (refusal.Turn s.turn)) fourth Good (λ _. refusals (refusal.Turn s.turn)) (λ _.
      cond_both (s.turn == MOST_TURNS) (refused refusal.TurnsUsed) fifth Good (λ _. refusals refusal.TurnsUsed) (λ _.
      cond_both (is_none s.bid) (refused refusal.NoBid) gone Good (λ _. refusals refusal.NoBid) (λ _. turns turn)))))

  -- of whatever body
  good_withdrawal_body : (s : Standing) (turn : Option ℕ) → Good (withdrawal_body now id m s turn)
  good_withdrawal_body s None = refusals (refusal.BadField field.Turn)
  good_withdrawal_body s (Some turn) = good_withdrawal_turn s turn

  -- of a close
  good_close : (s : Standing) → Good (answer_close now id s)
  good_close s =
      let all : Bool = list_all (λ has. has) s.have_bid in
      let shut : Answer = record { event = Some (Closed now id); reply = reply.Closed } in
      let second : Answer = if all then shut else refused refusal.NotAll in
      cond_both s.closed (refused refusal.Closed) second Good (λ _. refusals refusal.Closed) (λ _. cond_both all shut (refused refusal.NotAll) Good (λ _. closes) (λ _. refusals refusal.NotAll))

  -- of a body at fault
  good_fault : (fault : BodyFault) → Good (answer_to_fault fault)
  good_fault Json = refusals refusal.BadJson
  good_fault (Field name) = refusals (refusal.BadField name)

  -- who is not the organiser is a member
  member : not (m == 0) ≡ true → 1 ≤ m
  member is = let other = eqb-false m 0 (not-true (m == 0) is) in omega (arith, other)

  -- of whatever a caller may ask
  pub good_ask : (s : Standing) (ask : Ask) → may_ask m ask ≡ true → (ask ≡ asks.Status → G (reply.Status id m)) → (ask ≡ asks.Own → 1 ≤ m → G (reply.Own id m)) → Good (answer_ask now id m s ask)
  good_ask s asks.Status may status own = status refl
  good_ask s (asks.Bid (Err fault)) may status own = good_fault fault
  good_ask s (asks.Bid (Ok body)) may status own = good_bid_body s body body.turn
  good_ask s asks.Own may status own = own refl (member may)
  good_ask s asks.Close may status own = good_close s
  good_ask s (asks.Publish what) may status own =
      cond_both s.closed (says (reply.Publish id what)) (refused refusal.NotClosed) Good (λ _. publications id what) (λ _. refusals refusal.NotClosed)
  good_ask s (asks.Withdraw (Err fault)) may status own = good_fault fault
  good_ask s (asks.Withdraw (Ok body)) may status own = good_withdrawal_body s body.turn

-- what the reply names is there, unless it's a publication
abbrev Named : HostView → Option EventView → Reply → Type 0
Named h e r = is_publication r ≡ false → Tells h e r

-- so it is of whatever a caller may ask, where the event is the answer's or a close
named_ask : (h : HostView) (now id m : ℕ) (i : InstanceView) → instance_at h id ≡ Some i → m ≤ length i.creation.members → (s : Standing) (ask : Ask) → may_ask m ask ≡ true
    → (e : Option EventView) → (e ≡ (answer_ask now id m s ask).event) ⊎ IsCloseOf e id → Named h e (answer_ask now id m s ask).reply
named_ask h now id m i there most s ask may e event =
    good_ask (Named h e) (λ r _. tt) (λ turn _. tt) (λ _. tt) (λ id what is. absurd (true≢false is)) now id m s ask may
    (λ status _. (ap is_some there, shut status refl event))
    (λ own some _. (some, subst (λ (o : Option InstanceView). IsSomeAnd o (λ i. m ≤ length i.creation.members)) (sym there) most, shut own refl event))
  where
    shut : {other : Ask} → ask ≡ other → (answer_ask now id m s other).event ≡ None → (e ≡ (answer_ask now id m s ask).event) ⊎ IsCloseOf e id → IsCloseOf e id
    shut is none (inl same) = inl (same ∙ ap (λ (a : Ask). (answer_ask now id m s a).event) is ∙ none)
    shut is none (inr close) = close

-- the answer tells what is there
abbrev AnswerTells : HostView → Answer → Type 0
AnswerTells h a = is_publication a.reply ≡ false → Tells h a.event a.reply

-- of whatever a caller asks
good_caller : (h : HostView) (now id m : ℕ) (ask : Ask) (i : InstanceView) → instance_at h id ≡ Some i → m ≤ length i.creation.members → AnswerTells h (answer_caller now id ask i m)
good_caller h now id m ask i there most =
    let after : Answer = record { event = Some (Closed now id); reply = (answer_ask now id m (standing_of i m true) ask).reply } in
    let before : Answer = answer_ask now id m (standing_of i m i.closed) ask in
    let second : Answer = if is_over now i then after else before in
    cond_both (not (may_ask m ask)) (refused refusal.Role) second (AnswerTells h) (λ _ _. tt) (λ may.
    let right = not-false (may_ask m ask) may in
    cond_both (is_over now i) after before (AnswerTells h)
    (λ _. named_ask h now id m i there most (standing_of i m true) ask right (Some (Closed now id)) (inr (inr (now, refl))))
    (λ _. named_ask h now id m i there most (standing_of i m i.closed) ask right before.event (inl refl)))

-- a holder is among those who were asked
pub held : (secret key : List ℕ) (id n from m : ℕ) → first_holder secret id key n from ≡ Some m → m < from + n
held secret key id zero from m is = absurd (true≢false (sym (ap is_some is)))
held secret key id (suc n) from m is =
    cond_both (pointwise nat_eq (key_text secret id from) key) (Some from) (first_holder secret id key n (from + 1)) (λ (found : Option ℕ). found ≡ Some m → m < from + suc n)
    (λ _ this. let same : from ≡ m = ap (λ (o : Option ℕ). unwrap_or o 0) this in omega (arith, same))
    (λ _ later. let below = held secret key id n (from + 1) m later in omega (arith, below)) is

-- of a command under a key
good_holder : (h : HostView) (now id : ℕ) (key : List ℕ) (ask : Ask) (i : InstanceView) → instance_at h id ≡ Some i → (who : Option ℕ) → holder h.secret id i key ≡ who
    → AnswerTells h (answer_to now id ask (caller_by i who))
good_holder h now id key ask i there None is = λ _. tt
good_holder h now id key ask i there (Some m) is =
    let below = held h.secret key id (length i.creation.members + 1) 0 m is in
    good_caller h now id m ask i there (omega (arith, below))

-- of a command on an instance
good_instance : (h : HostView) (now id : ℕ) (key : Option (List ℕ)) (ask : Ask) (found : Option InstanceView) → instance_at h id ≡ found
    → AnswerTells h (answer_to now id ask (caller_in h.secret id found key))
good_instance h now id key ask None is = λ _. tt
good_instance h now id None ask (Some i) is = λ _. tt
good_instance h now id (Some key) ask (Some i) is = good_holder h now id key ask i is (holder h.secret id i key) refl

-- the instance with a tag has its id
tagged_there : (from : ℕ) (instances : List InstanceView) (tag : List ℕ) (found : ℕ × CreationView) → tagged_from from instances tag ≡ Some found
    → (from ≤ found.0) × IsSome (slice_get instances (found.0 - from))
tagged_there from [] tag found is = absurd (true≢false (sym (ap is_some is)))
tagged_there from (i ∷ instances) tag found is =
    cond_both (same_text i.creation.tag tag) (Some (from, i.creation)) (tagged_from (from + 1) instances tag)
    (λ (o : Option (ℕ × CreationView)). o ≡ Some found → (from ≤ found.0) × IsSome (slice_get (i ∷ instances) (found.0 - from)))
    (λ _ this. let same : from ≡ found.0 = ap (λ (o : Option (ℕ × CreationView)). (unwrap_or o found).0) this in
    let none : found.0 - from ≡ 0 = omega (arith, same) in
    (omega (arith, same), rw none refl))
    (λ _ later. let rest = tagged_there (from + 1) instances tag found later in
    let next : found.0 - from ≡ suc (found.0 - (from + 1)) = omega (arith, rest.0) in
    (omega (arith, rest.0), rw next rest.1)) is

-- under its id
there_if : (none : Bool) (o : Option InstanceView) → none ≡ false → IsSome o → IsSome (if none then None else o)
there_if true o is some = absurd (true≢false is)
there_if false o is some = some

-- of a creation
good_creation : (h : HostView) (now : ℕ) (c : CreationView) (found : Option (ℕ × CreationView)) → tagged_from 1 h.instances c.tag ≡ found
    → AnswerTells h (new_creation now (length h.instances) c found)
good_creation h now c None is =
    let made : Answer = record { event = Some (Created now c); reply = reply.Created (length h.instances + 1) } in
    cond_both (nat_lt (length h.instances) MOST_INSTANCES) made (refused refusal.HostFull) (AnswerTells h) (λ _ _. inr (now, c, refl, refl)) (λ _ _. tt)
good_creation h now c (Some found) is =
    let there = tagged_there 1 h.instances c.tag found is in
    cond_both (same_creation found.1 c) (says (reply.Created found.0)) (refused refusal.TagTaken) (AnswerTells h)
    (λ _ _. inl (there_if (found.0 == 0) (slice_get h.instances (found.0 - 1)) (ne_eqb found.0 0 (λ none. omega (arith, none, there.0))) there.1, refl)) (λ _ _. tt)

-- the reply of a step that is no publication tells what is there
pub step_tells : (h : HostView) (t : ℕ) (command : CommandView) → AnswerTells h (step h t command)
step_tells h t (Create (Err Json)) = λ _. tt
step_tells h t (Create (Err (Field name))) = λ _. tt
step_tells h t (Create (Ok c)) = good_creation h (max t h.moment) c (tagged_from 1 h.instances c.tag) refl
step_tells h t (To id key ask) = good_instance h (max t h.moment) id key ask (instance_at h id) refl

-- so does an answer
pub answered_tells : (h : HostView) (a : Answer) → IsAnswered h a → is_publication a.reply ≡ false → Tells h a.event a.reply
answered_tells h a (t, command, right, is) = subst (λ (a : Answer). AnswerTells h a) (sym is) (step_tells h t command)
