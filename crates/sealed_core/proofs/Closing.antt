-- Whether an instance is closed after a step on it shows in the caller's view.
use Rattle.std.proofs.Common.{◌≡◌, ℕ, zero, suc, ◌-◌, max, Bool, true, false, not, ◌&&◌, ◌||◌, ◌==◌, nat_le, List, [], ◌∷◌, map, if◌then◌else◌, is_some, is_none, slice_get, option_map, Option, None, Some, Ok, Err, refl, ap, sym, ◌∙◌, ◌+◌, true≢false}
use Rattle.std.specs.List.{list_all}
use Rattle.std.proofs.lemmas.Bool.{cond_both}
use Rattle.bid_rules.specs.declared.bids.Bid.{Bid}
use Rattle.sealed_core.specs.declared.limits.TheConstants.{MOST_TURNS}
use Rattle.sealed_core.specs.declared.commands.Ask.{Ask}
use Rattle.sealed_core.specs.declared.commands.Ask.TheVariants as asks
use Rattle.body_fields.specs.declared.bodies.BidBody.{BidBody}
use Rattle.body_fields.specs.declared.fields.BodyFault.TheVariants.{Json, Field}
use Rattle.sealed_core.specs.declared.replies.Refusal.TheVariants as refusal
use Rattle.sealed_core.specs.declared.replies.Reply.TheVariants as reply
use Rattle.sealed_core.specs.Host.{InstanceView, HostView, EventView, BidKept, Closed, Withdrawn, instance_at, change_at, with_turn}
use Rattle.sealed_core.specs.Sameness.{is_kept}
use Rattle.sealed_core.specs.Step.{Answer, To, Standing, standing_of, says, refused, bid_turn, bid_form, bid_body, bid_by_rule, form_of, withdrawal_turn, withdrawal_body, answer_ask, answer_caller, may_ask, answer_to, caller_by, caller_in, holder}
use Rattle.sealed_core.specs.Sealed.{Caller, PublicFacts, View, public_of, view, caller_with, caller_number, is_shut, is_closed, with_event, host_after}
use Rattle.sealed_core.proofs.Machine.{closed_for_good}
use Rattle.sealed_core.proofs.Sealing.{closed_after}

-- a change that leaves it open what was open, and closed what was closed
shut_same : (f : InstanceView → InstanceView) → ((i : InstanceView) → (f i).closed ≡ i.closed) → (instances : List InstanceView) (p q : ℕ)
    → is_shut (slice_get (change_at f instances p) q) ≡ is_shut (slice_get instances q)
shut_same f same [] p q = refl
shut_same f same (i ∷ instances) zero zero = same i
shut_same f same (i ∷ instances) zero (suc q) = refl
shut_same f same (i ∷ instances) (suc p) zero = refl
shut_same f same (i ∷ instances) (suc p) (suc q) = shut_same f same instances p q

-- the same under an id
shut_same_if : (none : Bool) (a b : Option InstanceView) → is_shut a ≡ is_shut b → is_shut (if none then None else a) ≡ is_shut (if none then None else b)
shut_same_if true a b is = refl
shut_same_if false a b is = is

module _ (h : HostView) (now id m : ℕ) where
  -- the event leaves the instance open or closed as it was
  abbrev Keeps : Answer → Type 0
  Keeps a = is_closed (with_event h a.event) id ≡ is_closed h id

  -- a turn does
  keeps_turn : (turn : ℕ) (bid : Option Bid) → is_shut (if id == 0 then None else slice_get (change_at (with_turn m turn bid) h.instances (id - 1)) (id - 1)) ≡ is_closed h id
  keeps_turn turn bid = shut_same_if (id == 0) _ _ (shut_same (with_turn m turn bid) (λ i. refl) h.instances (id - 1) (id - 1))

  -- so does a bid
  keeps_bid_turn : (s : Standing) (turn : ℕ) (given : Bid) → Keeps (bid_turn now id m s turn given)
  keeps_bid_turn s turn given =
      let kept : Answer = record { event = Some (BidKept now id m turn given); reply = reply.Kept turn } in
      let fourth : Answer = if s.turn == MOST_TURNS then refused refusal.TurnsUsed else kept in
      let third : Answer = if not (turn == (s.turn + 1)) then refused (refusal.Turn s.turn) else fourth in
      let second : Answer = if (turn == s.turn) && is_kept s.bid given then says (reply.Kept s.turn) else third in
      cond_both s.closed (refused refusal.Closed) second Keeps (λ _. refl) (λ _.
      cond_both ((turn == s.turn) && is_kept s.bid given) (says (reply.Kept s.turn)) third Keeps (λ _. refl) (λ _.
      cond_both (not (turn == (s.turn + 1))) (refused (refusal.Turn s.turn)) fourth Keeps (λ _. refl) (λ _.
      cond_both (s.turn == MOST_TURNS) (refused refusal.TurnsUsed) kept Keeps (λ _. refl) (λ _. keeps_turn turn (Some given)))))

  -- of whatever form
  keeps_bid_form : (s : Standing) (turn : ℕ) (given : Option Bid) → Keeps (bid_form now id m s turn given)
  keeps_bid_form s turn None = refl
  keeps_bid_form s turn (Some given) = keeps_bid_turn s turn given

  -- and body
  keeps_bid_body : (s : Standing) (body : BidBody) (turn : Option ℕ) → Keeps (bid_body now id m s body turn)
  keeps_bid_body s body None = refl
  keeps_bid_body s body (Some turn) = keeps_bid_form s turn (bid_by_rule s.facts (form_of s.facts body))

  -- so does a withdrawal
  keeps_withdrawal_turn : (s : Standing) (turn : ℕ) → Keeps (withdrawal_turn now id m s turn)
  keeps_withdrawal_turn s turn =
      let gone : Answer = record { event = Some (Withdrawn now id m turn); reply = reply.Kept turn } in
      let fifth : Answer = if is_none s.bid then refused refusal.NoBid else gone in
      let fourth : Answer = if s.turn == MOST_TURNS then refused refusal.TurnsUsed else fifth in
      let third : Answer = if not (turn == (s.turn + 1)) then refused (refusal.Turn s.turn) else fourth in
      let again : Bool = (turn == s.turn) && nat_le 1 s.turn && is_none s.bid in
      let second : Answer = if again then says (reply.Kept s.turn) else third in
      cond_both s.closed (refused refusal.Closed) second Keeps (λ _. refl) (λ _.
      cond_both again (says (reply.Kept s.turn)) third Keeps (λ _. refl) (λ _.
      cond_both (not (turn == (s.turn + 1))) (refused (refusal.Turn s.turn)) fourth Keeps (λ _. refl) (λ _.
      cond_both (s.turn == MOST_TURNS) (refused refusal.TurnsUsed) fifth Keeps (λ _. refl) (λ _.
      cond_both (is_none s.bid) (refused refusal.NoBid) gone Keeps (λ _. refl) (λ _. keeps_turn turn None)))))

  -- of whatever body
  keeps_withdrawal_body : (s : Standing) (turn : Option ℕ) → Keeps (withdrawal_body now id m s turn)
  keeps_withdrawal_body s None = refl
  keeps_withdrawal_body s (Some turn) = keeps_withdrawal_turn s turn

-- a close is asked
abbrev is_close : Ask → Bool
is_close asks.Status = false
is_close (asks.Bid body) = false
is_close asks.Own = false
is_close asks.Close = true
is_close (asks.Publish what) = false
is_close (asks.Withdraw body) = false

-- whether the instance is closed after what a caller asks
abbrev closes : ℕ → PublicFacts → ℕ → Ask → Bool
closes now p m ask = p.closed || (may_ask m ask && (nat_le p.deadline now || (is_close ask && list_all (λ has. has) p.have_bid)))

-- and where the caller may be nobody, or the instance not there
abbrev closes_on : ℕ → Option (List ℕ) → Ask → Caller → Option PublicFacts → Bool
closes_on now key ask caller None = false
closes_on now None ask caller (Some p) = p.closed
closes_on now (Some key) ask None (Some p) = p.closed
closes_on now (Some key) ask (Some m) (Some p) = closes now p m ask

module _ (h : HostView) (now id : ℕ) (i : InstanceView) (there : instance_at h id ≡ Some i) where
  -- the instance is closed where its view says so
  as_found : is_closed h id ≡ i.closed
  as_found = ap is_shut there

  -- a closed instance stays closed
  stays : (e : Option EventView) → i.closed ≡ true → is_closed (with_event h e) id ≡ true
  stays None shut = as_found ∙ shut
  stays (Some e) shut = closed_for_good h id e (as_found ∙ shut)

  -- before the deadline an open instance is closed exactly by an asked close with all bids
  before_deadline : (m : ℕ) (ask : Ask) → i.closed ≡ false → is_closed (with_event h (answer_ask now id m (standing_of i m i.closed) ask).event) id ≡ (is_close ask && list_all (λ (has : Bool). has) (map is_some i.bids))
  before_deadline m asks.Status open_ = as_found ∙ open_
  before_deadline m (asks.Bid (Err Json)) open_ = as_found ∙ open_
  before_deadline m (asks.Bid (Err (Field name))) open_ = as_found ∙ open_
  before_deadline m (asks.Bid (Ok body)) open_ = keeps_bid_body h now id m (standing_of i m i.closed) body body.turn ∙ as_found ∙ open_
  before_deadline m asks.Own open_ = as_found ∙ open_
  before_deadline m asks.Close open_ =
      let all : Bool = list_all (λ (has : Bool). has) (map is_some i.bids) in
      let shut : Answer = record { event = Some (Closed now id); reply = reply.Closed } in
      let second : Answer = if all then shut else refused refusal.NotAll in
      cond_both i.closed (refused refusal.Closed) second (λ (a : Answer). i.closed ≡ false → is_closed (with_event h a.event) id ≡ all) (λ closed open_. absurd (true≢false (sym closed ∙ open_))) (λ _ _.
      cond_both all shut (refused refusal.NotAll) (λ (a : Answer). is_closed (with_event h a.event) id ≡ all) (λ whole. closed_after h id now i there ∙ sym whole) (λ part. as_found ∙ open_ ∙ sym part)) open_
  before_deadline m (asks.Publish what) open_ = cond_both i.closed (says (reply.Publish id what)) (refused refusal.NotClosed) (λ (a : Answer). is_closed (with_event h a.event) id ≡ false) (λ _. as_found ∙ open_) (λ _. as_found ∙ open_)
  before_deadline m (asks.Withdraw (Err Json)) open_ = as_found ∙ open_
  before_deadline m (asks.Withdraw (Err (Field name))) open_ = as_found ∙ open_
  before_deadline m (asks.Withdraw (Ok body)) open_ = keeps_withdrawal_body h now id m (standing_of i m i.closed) body.turn ∙ as_found ∙ open_

  -- by the three tests of a caller
  by_tests : (shut : Option EventView → Bool) (closed may late last : Bool) (over before : Answer) → shut None ≡ closed → shut over.event ≡ true → ((e : Option EventView) → closed ≡ true → shut e ≡ true)
      → (closed ≡ false → shut before.event ≡ last)
      → shut (if not may then refused refusal.Role else if not closed && late then over else before).event ≡ (closed || (may && (late || last)))
  by_tests shut true false late last over before none after good rest = good None refl
  by_tests shut true true late last over before none after good rest = good before.event refl
  by_tests shut false false late last over before none after good rest = none
  by_tests shut false true true last over before none after good rest = after
  by_tests shut false true false last over before none after good rest = rest refl

  -- whether the instance is closed after what a caller asks
  closes_is : (m : ℕ) (ask : Ask) → is_closed (with_event h (answer_caller now id ask i m).event) id ≡ closes now (public_of i) m ask
  closes_is m ask =
      by_tests (λ (e : Option EventView). is_closed (with_event h e) id) i.closed (may_ask m ask) (nat_le i.creation.deadline now) (is_close ask && list_all (λ (has : Bool). has) (map is_some i.bids))
      (record { event = Some (Closed now id); reply = (answer_ask now id m (standing_of i m true) ask).reply }) (answer_ask now id m (standing_of i m i.closed) ask)
      as_found (closed_after h id now i there) stays (before_deadline m ask)

  -- the same of a caller who may be nobody
  by_holder : (key : List ℕ) (ask : Ask) (who : Option ℕ) → is_closed (with_event h (answer_to now id ask (caller_by i who)).event) id ≡ closes_on now (Some key) ask who (Some (public_of i))
  by_holder key ask None = as_found
  by_holder key ask (Some m) = closes_is m ask

-- the same of a command on an instance
by_instance : (h : HostView) (now id : ℕ) (ask : Ask) (found : Option InstanceView) → instance_at h id ≡ found → (key : Option (List ℕ))
    → is_closed (with_event h (answer_to now id ask (caller_in h.secret id found key)).event) id ≡ closes_on now key ask (caller_with h.secret id found key) (option_map public_of found)
by_instance h now id ask None is key = ap is_shut is
by_instance h now id ask (Some i) is None = ap is_shut is
by_instance h now id ask (Some i) is (Some key) = by_holder h now id i is key ask (holder h.secret id i key)

-- whether an instance is closed after a step on it is told by the view
abbrev closed_in : View → ℕ → Option (List ℕ) → Ask → Bool
closed_in v t key ask = closes_on (max t v.moment) key ask v.caller v.public

-- so it is
closed_is : (h : HostView) (t id : ℕ) (key : Option (List ℕ)) (ask : Ask) → is_closed (host_after h t (To id key ask)) id ≡ closed_in (view h id (caller_number h id key)) t key ask
closed_is h t id key ask = by_instance h (max t h.moment) id ask (instance_at h id) refl key

-- callers with equal views see the instance closed after one command, or both don't
pub closed_alike : (g h : HostView) (t id : ℕ) (key : Option (List ℕ)) (ask : Ask) → view g id (caller_number g id key) ≡ view h id (caller_number h id key)
    → is_closed (host_after g t (To id key ask)) id ≡ is_closed (host_after h t (To id key ask)) id
closed_alike g h t id key ask same = closed_is g t id key ask ∙ ap (λ (v : View). closed_in v t key ask) same ∙ sym (closed_is h t id key ask)
