-- How long the text of what a host answers is: what the reply names is there, and its numbers are low.
use Rattle.std.proofs.Common.{◌≡◌, ℕ, ◌+◌, ◌-◌, ◌<◌, ◌≤◌, inl, inr, max, Bool, true, false, not, ◌&&◌, ◌==◌, nat_le, nat_lt, List, length, All, IfSome, IsSome, IsSomeAnd, if◌then◌else◌, is_none, is_some, slice_get, Option, None, Some, Ok, Err, option_map, refl, ap, sym, subst, arith, true≢false}
use Rattle.std.specs.List.{list_all}
use Rattle.std.proofs.lemmas.Bool.{cond_both, eqb-true, not-false}
use Rattle.std.proofs.lemmas.Option.{get_or_from_slice_get, slice_get_within}
use Rattle.serde_json.specs.Data.{Data}
use Rattle.serde_json.specs.Written.{compact_text}
use Rattle.bid_rules.specs.declared.bids.Bid.{Bid}
use Rattle.bid_rules.specs.declared.bids.Facts.{Facts}
use Rattle.bid_rules.specs.declared.bids.Facts.TheVariants as facts
use Rattle.bid_rules.specs.declared.limits.TheConstants.{MOST_MEMBERS}
use Rattle.bid_rules.specs.Facts.{IsCheckedFacts, member_count}
use Rattle.body_fields.specs.declared.bodies.BidBody.{BidBody}
use Rattle.body_fields.specs.declared.fields.BodyFault.TheVariants.{Json, Field}
use Rattle.sealed_core.specs.declared.limits.TheConstants.{MOST_INSTANCES, MOST_TURNS}
use Rattle.sealed_core.specs.declared.commands.Ask.{Ask}
use Rattle.sealed_core.specs.declared.commands.Ask.TheVariants as asks
use Rattle.sealed_core.specs.declared.replies.Refusal.TheVariants as refusal
use Rattle.sealed_core.specs.declared.replies.Reply.{Reply}
use Rattle.sealed_core.specs.declared.replies.Reply.TheVariants as reply
use Rattle.sealed_core.specs.Host.{AreCheckedInstances, CreationView, EventView, HostView, InstanceView, IsCheckedCreation, IsCheckedInstance, BidKept, Closed, Created, Withdrawn, as_closed, new_instance, instance_at, kept_bid, kept_turn, moment_of}
use Rattle.sealed_core.specs.Keys.{IsKeyDigit, key_text}
use Rattle.sealed_core.specs.Origins.{ComesOf}
use Rattle.sealed_core.specs.Sameness.{is_kept, same_creation}
use Rattle.sealed_core.specs.Sealed.{with_event, public_of}
use Rattle.sealed_core.specs.Step.{Answer, CommandView, Create, IsCheckedCommand, Standing, To, answer_ask, answer_caller, answer_close, answer_to, bid_body, bid_form, bid_turn, caller_by, caller_in, bid_by_rule, form_of, holder, is_over, may_ask, new_creation, refused, says, standing_of, step, tagged_from, withdrawal_body, withdrawal_turn}
use Rattle.reply_texts.specs.declared.sizes.TheConstants.{REPLY_MOST}
use Rattle.reply_texts.specs.Refusals.{of_refusal}
use Rattle.reply_texts.specs.Replies.{of_closed, of_created, of_own, of_status, of_turn, text_of}
use Rattle.reply_texts.specs.Telling.{IsAnswered, IsCloseOf, Tells, is_publication}
use Rattle.reply_texts.proofs.After.{closed_at, new_at}
use Rattle.reply_texts.proofs.Answered.{held, step_tells}
use Rattle.reply_texts.proofs.SizesOfReplies.{NamesLow, closed_size, created_size, kept_turn_most, keys_size, own_size, refusal_size, status_size, turn_size}

-- ---- numbers

-- the numbers of members and turns that the reply names are low
abbrev pub IsLow : Reply → Type 0
IsLow (reply.Status id you) = you < 100
IsLow (reply.Kept turn) = turn < 100
IsLow (reply.Refused r) = NamesLow r
IsLow other = Unit {0}

-- so are those of an answer
abbrev pub AnswersLow : Answer → Type 0
AnswersLow a = IsLow a.reply

-- the numbers are low in an answer to a caller with a low number whose kept turn is one that they may use
module _ (now id m : ℕ) (s : Standing) (caller : m < 100) (used : s.turn ≤ MOST_TURNS) where
  -- a next turn is low
  next_low : (turn : ℕ) → not (turn == (s.turn + 1)) ≡ false → turn < 100
  next_low turn is = let next = eqb-true turn (s.turn + 1) (not-false (turn == (s.turn + 1)) is) in omega (arith, next, used)

  -- so is the kept one
  kept_low : s.turn < 100
  kept_low = omega (arith, used)

  -- of a bid with a turn
  low_bid_turn : (turn : ℕ) (given : Bid) → AnswersLow (bid_turn now id m s turn given)
  low_bid_turn turn given =
      let kept : Answer = record { event = Some (BidKept now id m turn given); reply = reply.Kept turn } in
      let fourth : Answer = if s.turn == MOST_TURNS then refused refusal.TurnsUsed else kept in
      let third : Answer = if not (turn == (s.turn + 1)) then refused (refusal.Turn s.turn) else fourth in
      let second : Answer = if (turn == s.turn) && is_kept s.bid given then says (reply.Kept s.turn) else third in
      cond_both s.closed (refused refusal.Closed) second AnswersLow (λ _. tt) (λ _.
      cond_both ((turn == s.turn) && is_kept s.bid given) (says (reply.Kept s.turn)) third AnswersLow (λ _. kept_low) (λ _.
      cond_both (not (turn == (s.turn + 1))) (refused (refusal.Turn s.turn)) fourth AnswersLow (λ _. kept_low) (λ next.
      cond_both (s.turn == MOST_TURNS) (refused refusal.TurnsUsed) kept AnswersLow (λ _. tt) (λ _. next_low turn next))))

  -- of whatever form
  low_bid_form : (turn : ℕ) (given : Option Bid) → AnswersLow (bid_form now id m s turn given)
  low_bid_form turn None = tt
  low_bid_form turn (Some given) = low_bid_turn turn given

  -- and body
  low_bid_body : (body : BidBody) (turn : Option ℕ) → AnswersLow (bid_body now id m s body turn)
  low_bid_body body None = tt
  low_bid_body body (Some turn) = low_bid_form turn (bid_by_rule s.facts (form_of s.facts body))

  -- of a withdrawal with a turn
  low_withdrawal_turn : (turn : ℕ) → AnswersLow (withdrawal_turn now id m s turn)
  low_withdrawal_turn turn =
      let gone : Answer = record { event = Some (Withdrawn now id m turn); reply = reply.Kept turn } in
      let fifth : Answer = if is_none s.bid then refused refusal.NoBid else gone in
      let fourth : Answer = if s.turn == MOST_TURNS then refused refusal.TurnsUsed else fifth in
      let third : Answer = if not (turn == (s.turn + 1)) then refused (refusal.Turn s.turn) else fourth in
      let again : Bool = (turn == s.turn) && nat_le 1 s.turn && is_none s.bid in
      let second : Answer = if again then says (reply.Kept s.turn) else third in
      cond_both s.closed (refused refusal.Closed) second AnswersLow (λ _. tt) (λ _.
      cond_both again (says (reply.Kept s.turn)) third AnswersLow (λ _. kept_low) (λ _.
      cond_both (not (turn == (s.turn + 1))) (refused (refusal.Turn s.turn)) fourth AnswersLow (λ _. kept_low) (λ next.
      cond_both (s.turn == MOST_TURNS) (refused refusal.TurnsUsed) fifth AnswersLow (λ _. tt) (λ _.
      cond_both (is_none s.bid) (refused refusal.NoBid) gone AnswersLow (λ _. tt) (λ _. next_low turn next)))))

  -- of whatever body
  low_withdrawal_body : (turn : Option ℕ) → AnswersLow (withdrawal_body now id m s turn)
  low_withdrawal_body None = tt
  low_withdrawal_body (Some turn) = low_withdrawal_turn turn

  -- of a close
  low_close : AnswersLow (answer_close now id s)
  low_close =
      let all : Bool = list_all (λ has. has) s.have_bid in
      let shut : Answer = record { event = Some (Closed now id); reply = reply.Closed } in
      let second : Answer = if all then shut else refused refusal.NotAll in
      cond_both s.closed (refused refusal.Closed) second AnswersLow (λ _. tt) (λ _. cond_both all shut (refused refusal.NotAll) AnswersLow (λ _. tt) (λ _. tt))

  -- of whatever a caller may ask
  pub low_ask : (ask : Ask) → AnswersLow (answer_ask now id m s ask)
  low_ask asks.Status = caller
  low_ask (asks.Bid (Err Json)) = tt
  low_ask (asks.Bid (Err (Field name))) = tt
  low_ask (asks.Bid (Ok body)) = low_bid_body body body.turn
  low_ask asks.Own = tt
  low_ask asks.Close = low_close
  low_ask (asks.Publish what) = cond_both s.closed (says (reply.Publish id what)) (refused refusal.NotClosed) AnswersLow (λ _. tt) (λ _. tt)
  low_ask (asks.Withdraw (Err Json)) = tt
  low_ask (asks.Withdraw (Err (Field name))) = tt
  low_ask (asks.Withdraw (Ok body)) = low_withdrawal_body body.turn

-- of whatever a member or the organiser asks
low_caller : (now id m : ℕ) (ask : Ask) (i : InstanceView) → m < 100 → IsCheckedInstance i → AnswersLow (answer_caller now id ask i m)
low_caller now id m ask i caller right =
    let used = kept_turn_most i m right in
    let after : Answer = record { event = Some (Closed now id); reply = (answer_ask now id m (standing_of i m true) ask).reply } in
    let before : Answer = answer_ask now id m (standing_of i m i.closed) ask in
    let second : Answer = if is_over now i then after else before in
    cond_both (not (may_ask m ask)) (refused refusal.Role) second AnswersLow (λ _. tt) (λ _.
    cond_both (is_over now i) after before AnswersLow (λ _. low_ask now id m (standing_of i m true) caller used ask) (λ _. low_ask now id m (standing_of i m i.closed) caller used ask))

-- there are few members
members_most : (given : Facts) → IsCheckedFacts given → member_count given ≤ MOST_MEMBERS
members_most (facts.Rent rent) right = right.0.1
members_most (facts.Goods goods) right = right.counts.1
members_most (facts.Fares fares) right = omega (arith, right.shape.members_high)

-- of a creation
creation_members : (c : CreationView) → IsCheckedCreation c → length c.members ≤ MOST_MEMBERS
creation_members c right = omega (arith, right.member_names, members_most c.facts right.facts)

-- of a command under a key
low_holder : (secret : List ℕ) (now id : ℕ) (key : List ℕ) (ask : Ask) (i : InstanceView) → IsCheckedInstance i → (who : Option ℕ) → holder secret id i key ≡ who
    → AnswersLow (answer_to now id ask (caller_by i who))
low_holder secret now id key ask i right None is = tt
low_holder secret now id key ask i right (Some m) is =
    let below = held secret key id (length i.creation.members + 1) 0 m is in
    low_caller now id m ask i (omega (arith, below, creation_members i.creation right.creation)) right

-- of a command on an instance
low_instance : (secret : List ℕ) (now id : ℕ) (key : Option (List ℕ)) (ask : Ask) (found : Option InstanceView) → IfSome found IsCheckedInstance
    → AnswersLow (answer_to now id ask (caller_in secret id found key))
low_instance secret now id key ask None right = tt
low_instance secret now id None ask (Some i) right = tt
low_instance secret now id (Some key) ask (Some i) right = low_holder secret now id key ask i right (holder secret id i key) refl

-- of a creation
low_creation : (now count : ℕ) (c : CreationView) (found : Option (ℕ × CreationView)) → AnswersLow (new_creation now count c found)
low_creation now count c None =
    cond_both (nat_lt count MOST_INSTANCES) (record { event = Some (Created now c); reply = reply.Created (count + 1) }) (refused refusal.HostFull) AnswersLow (λ _. tt) (λ _. tt)
low_creation now count c (Some found) = cond_both (same_creation found.1 c) (says (reply.Created found.0)) (refused refusal.TagTaken) AnswersLow (λ _. tt) (λ _. tt)

-- ---- what is there

-- an instance that is found keeps its rules, and its id is among those of the host
record IsNamed (id : ℕ) (i : InstanceView) : Type 0 where
  pub right : IsCheckedInstance i
  pub few : id ≤ MOST_INSTANCES + 1

-- in a list
named_in : (none : Bool) (instances : List InstanceView) (id : ℕ) (i : InstanceView) → AreCheckedInstances instances → (if none then None else slice_get instances (id - 1)) ≡ Some i → IsNamed id i
named_in true instances id i sound is = absurd (true≢false (sym (ap is_some is)))
named_in false instances id i sound is =
    let within = slice_get_within instances (id - 1) i is in
    record {
      right = subst IsCheckedInstance (get_or_from_slice_get instances (id - 1) i i is) (sound.each (id - 1) i within);
      few = omega (arith, within, sound.few);
    }

-- in a host
named : (h : HostView) (id : ℕ) (i : InstanceView) → AreCheckedInstances h.instances → instance_at h id ≡ Some i → IsNamed id i
named h id i sound is = named_in (id == 0) h.instances id i sound is

-- each instance that is found keeps its rules
found_right : (h : HostView) (id : ℕ) (found : Option InstanceView) → AreCheckedInstances h.instances → instance_at h id ≡ found → IfSome found IsCheckedInstance
found_right h id None sound is = tt
found_right h id (Some i) sound is = (named h id i sound is).right

-- the numbers in the reply of a step are low
pub step_low : (h : HostView) (t : ℕ) (command : CommandView) → AreCheckedInstances h.instances → AnswersLow (step h t command)
step_low h t (Create (Err Json)) sound = tt
step_low h t (Create (Err (Field name))) sound = tt
step_low h t (Create (Ok c)) sound = low_creation (max t h.moment) (length h.instances) c (tagged_from 1 h.instances c.tag)
step_low h t (To id key ask) sound = low_instance h.secret (max t h.moment) id key ask (instance_at h id) (found_right h id (instance_at h id) sound refl)

-- the instance under an id after the event
record IsAfter (h : HostView) (e : Option EventView) (id : ℕ) : Type 0 where
  pub i : InstanceView
  pub there : instance_at (with_event h e) id ≡ Some i
  pub named : IsNamed id i

-- a closed instance keeps its rules
closed_right : (i : InstanceView) → IsCheckedInstance i → IsCheckedInstance (as_closed i)
closed_right i right = record { creation = right.creation; turns = right.turns; bids = right.bids; used = right.used; checked = right.checked }

-- one that is found, after its close or after no event
after_found : (h : HostView) (e : Option EventView) (id : ℕ) (found : Option InstanceView) → AreCheckedInstances h.instances → instance_at h id ≡ found → IsSome found → IsCloseOf e id → IsAfter h e id
after_found h e id None sound is there close = absurd (true≢false (sym there))
after_found h e id (Some i) sound is there (inl none) = subst (λ (e : Option EventView). IsAfter h e id) (sym none) (record { i = i; there = is; named = named h id i sound is })
after_found h e id (Some i) sound is there (inr (now, close)) =
    let old = named h id i sound is in
    subst (λ (e : Option EventView). IsAfter h e id) (sym close) (record { i = as_closed i; there = closed_at h now id i is; named = record { right = closed_right i old.right; few = old.few } })

-- so is what holds a fact
holding : {A : Type 0} (P : A → Type 0) (o : Option A) → IsSomeAnd o P → IsSome o
holding P None it = absurd it
holding P (Some x) it = refl

-- one that is there
after : (h : HostView) (e : Option EventView) (id : ℕ) → AreCheckedInstances h.instances → IsSome (instance_at h id) → IsCloseOf e id → IsAfter h e id
after h e id sound there close = after_found h e id (instance_at h id) sound refl there close

-- ---- texts

-- the text of a value that is made from what is there
text_is : {A : Type 0} (f : A → Data) (o : Option A) (x : A) (text : List ℕ) → o ≡ Some x → option_map compact_text (option_map f o) ≡ Some text → compact_text (f x) ≡ text
text_is f o x text there is = let same : Some (compact_text (f x)) ≡ Some text = subst (λ o. option_map compact_text (option_map f o) ≡ Some text) there is in cc same

-- is short where that of the value is
short : {A : Type 0} (f : A → Data) (o : Option A) (x : A) (text : List ℕ) → o ≡ Some x → length (compact_text (f x)) ≤ REPLY_MOST → option_map compact_text (option_map f o) ≡ Some text
    → length text ≤ REPLY_MOST
short f o x text there fits is = subst (λ (text : List ℕ). length text ≤ REPLY_MOST) (text_is f o x text there is) fits

-- so is that of a value that stands for itself
short_value : (d : Data) (text : List ℕ) → length (compact_text d) ≤ REPLY_MOST → Some (compact_text d) ≡ Some text → length text ≤ REPLY_MOST
short_value d text fits is = short (λ (d : Data). d) (Some d) d text refl fits is

-- a creation in the event keeps its rules
abbrev pub IsRightEvent : Option EventView → Type 0
IsRightEvent None = Unit {0}
IsRightEvent (Some (Created now c)) = IsCheckedCreation c
IsRightEvent (Some (BidKept now id m turn bid)) = Unit {0}
IsRightEvent (Some (Closed now id)) = Unit {0}
IsRightEvent (Some (Withdrawn now id m turn)) = Unit {0}

-- where the event comes of a command that keeps them
right_event : (h : HostView) (command : CommandView) (IsThen : EventView → Type 0) (e : Option EventView) → IsCheckedCommand command → IfSome e (λ e. IsThen e × ComesOf h command e) → IsRightEvent e
right_event h command IsThen None right comes = tt
right_event h command IsThen (Some (Created now c)) right comes = subst IsCheckedCommand comes.1 right
right_event h command IsThen (Some (BidKept now id m turn bid)) right comes = tt
right_event h command IsThen (Some (Closed now id)) right comes = tt
right_event h command IsThen (Some (Withdrawn now id m turn)) right comes = tt

-- what keys are
record AreKeys : Type 0 where
  pub digits : (secret : List ℕ) (id m : ℕ) → All IsKeyDigit (key_text secret id m)
  pub whole : (secret : List ℕ) (id m : ℕ) → length (key_text secret id m) ≡ 64

-- the reply to a creation, of a host with the instance
created_short : AreKeys → (g : HostView) (id : ℕ) (i : InstanceView) (text : List ℕ) → instance_at g id ≡ Some i → id ≤ MOST_INSTANCES + 1 → length i.creation.members ≤ MOST_MEMBERS
    → text_of g (reply.Created id) ≡ Some text → length text ≤ REPLY_MOST
created_short keys g id i text there few most is =
    let count = λ (i : InstanceView). length i.creation.members in
    short (of_created g.secret id) (option_map count (instance_at g id)) (count i) text (ap (option_map count) there)
    (created_size g.secret id (count i) (keys_size g.secret id (keys.digits g.secret id) (keys.whole g.secret id)) few most) is

-- of a creation that is the event
new_short : AreKeys → (h : HostView) (now id : ℕ) (c : CreationView) (text : List ℕ) → AreCheckedInstances h.instances → IsCheckedCreation c → id ≡ length h.instances + 1
    → text_of (with_event h (Some (Created now c))) (reply.Created id) ≡ Some text → length text ≤ REPLY_MOST
new_short keys h now id c text sound right next is =
    created_short keys (with_event h (Some (Created now c))) id (new_instance c) text (new_at h now c id next) (omega (arith, next, sound.few)) (creation_members c right) is

-- the text of a reply that tells what is there, with low numbers and a right event
text_short : AreKeys → (h : HostView) (e : Option EventView) (r : Reply) (text : List ℕ) → AreCheckedInstances h.instances → (is_publication r ≡ false → Tells h e r) → IsRightEvent e → IsLow r
    → text_of (with_event h e) r ≡ Some text → length text ≤ REPLY_MOST
text_short keys h e (reply.Created id) text sound tells right low is = by_case (tells refl)
  where
    by_case : Tells h e (reply.Created id) → length text ≤ REPLY_MOST
    by_case (inl (there, none)) =
        let a = after h e id sound there (inl none) in
        created_short keys (with_event h e) id a.i text a.there a.named.few (creation_members a.i.creation a.named.right.creation) is
    by_case (inr (now, c, made, next)) =
        new_short keys h now id c text sound (subst IsRightEvent made right) next (subst (λ (e : Option EventView). text_of (with_event h e) (reply.Created id) ≡ Some text) made is)
text_short keys h e (reply.Status id you) text sound tells right low is =
    let told = tells refl in
    let a = after h e id sound told.0 told.1 in
    short (of_status id you) (option_map public_of (instance_at (with_event h e) id)) (public_of a.i) text (ap (option_map public_of) a.there) (status_size id you a.i a.named.right a.named.few low) is
text_short keys h e (reply.Kept turn) text sound tells right low is = short_value (of_turn turn) text (turn_size turn low) is
text_short keys h e (reply.Own id m) text sound tells right low is =
    let told = tells refl in
    let a = after h e id sound (holding (λ i. m ≤ length i.creation.members) (instance_at h id) told.1) told.2 in
    short (λ (i : InstanceView). of_own (kept_turn i m) (kept_bid i m)) (instance_at (with_event h e) id) a.i text a.there (own_size a.i m a.named.right) is
text_short keys h e reply.Closed text sound tells right low is = short_value of_closed text closed_size is
text_short keys h e (reply.Publish id what) text sound tells right low is = absurd (true≢false (sym (ap is_some is)))
text_short keys h e (reply.Refused r) text sound tells right low is = short_value (of_refusal r) text (refusal_size r low) is

-- each event of a step is at a moment and comes of its command
abbrev HaveOrigins : Type 0
HaveOrigins = (h : HostView) (t : ℕ) (command : CommandView) → IfSome (step h t command).event (λ e. (moment_of e ≡ max t h.moment) × ComesOf h command e)

-- the text of a step's reply
step_short : AreKeys → HaveOrigins → (h : HostView) (t : ℕ) (command : CommandView) (text : List ℕ) → AreCheckedInstances h.instances → IsCheckedCommand command
    → text_of (with_event h (step h t command).event) (step h t command).reply ≡ Some text → length text ≤ REPLY_MOST
step_short keys origins h t command text sound right is =
    let a = step h t command in
    let own = right_event h command (λ e. moment_of e ≡ max t h.moment) a.event right (origins h t command) in
    text_short keys h a.event a.reply text sound (step_tells h t command) own (step_low h t command sound) is

-- the text of an answer's reply
pub answer_short : ((secret : List ℕ) (id m : ℕ) → All IsKeyDigit (key_text secret id m)) → ((secret : List ℕ) (id m : ℕ) → length (key_text secret id m) ≡ 64) → HaveOrigins
    → (h : HostView) (a : Answer) (text : List ℕ) → AreCheckedInstances h.instances → IsAnswered h a → text_of (with_event h a.event) a.reply ≡ Some text → length text ≤ REPLY_MOST
answer_short digits whole origins h a text sound (t, command, right, answered) is =
    step_short (record { digits = digits; whole = whole }) origins h t command text sound right (subst (λ (a : Answer). text_of (with_event h a.event) a.reply ≡ Some text) answered is)
