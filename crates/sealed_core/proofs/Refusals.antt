-- A command is refused exactly where the refusal has its cause.
use Rattle.std.proofs.Common.{◌≡◌, ◌≢◌, ◌↔◌, ℕ, zero, suc, ◌+◌, ◌<◌, ◌≤◌, ◌⊎◌, inl, inr, max, Bool, true, false, not, ◌&&◌, ◌||◌, ◌==◌, nat_le, nat_lt, List, [], ◌∷◌, length, if◌then◌else◌, is_some, is_none, unwrap_or, Option, None, Some, All, Ok, Err, refl, ap, sym, subst, ◌∙◌, arith, true≢false}
use Rattle.std.specs.List.{list_all}
use Rattle.std.specs.Cmp.Lexicographic.{bytes_decides}
use Rattle.std.proofs.lemmas.Bool.{eqb-true, eqb-false, eq-eqb, ne_eqb, leb-true, le-leb, ltb-true, lt-ltb, cases_lt, not-true, not-false, not_from_false, and_parts, and_from, cond_both, false_from_ne_true}
use Rattle.bid_rules.specs.declared.bids.Bid.{Bid}
use Rattle.bid_rules.specs.Facts.{IsCheckedBid}
use Rattle.sealed_core.specs.declared.commands.Ask.{Ask}
use Rattle.sealed_core.specs.declared.commands.Ask.TheVariants as asks
use Rattle.body_fields.specs.declared.bodies.BidBody.{BidBody}
use Rattle.body_fields.specs.declared.fields.BodyFault.{BodyFault}
use Rattle.body_fields.specs.declared.fields.BodyFault.TheVariants.{Json, Field}
use Rattle.body_fields.specs.declared.fields.FieldName.TheVariants as field
use Rattle.sealed_core.specs.declared.limits.TheConstants.{MOST_INSTANCES, MOST_TURNS}
use Rattle.sealed_core.specs.declared.replies.Refusal.{Refusal}
use Rattle.sealed_core.specs.declared.replies.Refusal.TheVariants as refusal
use Rattle.sealed_core.specs.declared.replies.Reply.{Reply}
use Rattle.sealed_core.specs.declared.replies.Reply.TheVariants as reply
use Rattle.sealed_core.specs.Host.{CreationView, InstanceView, HostView, EventView, Created, BidKept, Closed, Withdrawn, instance_at}
use Rattle.sealed_core.specs.Sameness.{is_kept, same_creation, same_text}
use Rattle.sealed_core.specs.Sealed.{is_refused}
use Rattle.sealed_core.specs.Step.{Answer, CommandView, Create, To, Standing, standing_of, says, refused, answer_to_fault, bid_turn, bid_form, bid_body, bid_by_rule, form_of, form_field, withdrawal_turn, withdrawal_body, answer_close, answer_ask, answer_caller, is_over, may_ask, answer_to, caller_by, caller_in, holder, tagged_from, new_creation, step}
use Rattle.sealed_core.specs.Causes.{refusal_of_body, CauseOfCreation, CauseOfBid, CauseOfWithdrawal, CauseOfForm, CauseOfBidBody, CauseOfWithdrawalBody, CauseOfAsk, is_past, CauseOfCaller, CauseOfKey, CauseOn, Cause}
use Rattle.sealed_core.proofs.Applying.{none_tagged}
use Rattle.sealed_core.proofs.BidRules.{by_rules}
use Rattle.sealed_core.proofs.Equality.{bids_decide, creations_decide, least_holder, none_found}

-- the answer is this refusal
abbrev IsRefusedAs : Answer → Refusal → Type 0
IsRefusedAs a r = a.reply ≡ reply.Refused r

-- the refusal that a reply tells; of another reply, any
abbrev refusal_in : Reply → Refusal
refusal_in (reply.Created id) = refusal.NoKey
refusal_in (reply.Status id you) = refusal.NoKey
refusal_in (reply.Kept turn) = refusal.NoKey
refusal_in (reply.Own id member) = refusal.NoKey
refusal_in reply.Closed = refusal.NoKey
refusal_in (reply.Publish id what) = refusal.NoKey
refusal_in (reply.Refused r) = r

-- ---- chains of tests

-- a refused answer tells its refusal alone
one : (x r : Refusal) → IsRefusedAs (refused x) r ↔ (r ≡ x)
one x r = (λ told. sym (ap refusal_in told), λ is. ap reply.Refused (sym is))

-- an answer that is no refusal tells none
told_by : (a : Answer) (r : Refusal) → is_refused a.reply ≡ false → IsRefusedAs a r → ⊥
told_by a r is told = true≢false (sym (ap is_refused told) ∙ is)

-- so it tells one exactly where nothing holds
none : (a : Answer) (r : Refusal) → is_refused a.reply ≡ false → IsRefusedAs a r ↔ ⊥
none a r is = (told_by a r is, λ no. absurd no)

-- where the first test holds, its refusal is told
first_true : (x r : Refusal) (C : Type 0) → ((true ≡ true) × (r ≡ x)) ⊎ ((true ≡ false) × C) → IsRefusedAs (refused x) r
first_true x r C (inl this) = (one x r).1 this.1
first_true x r C (inr later) = absurd (true≢false later.0)

-- where it does not, that of the rest is
first_false : (x r : Refusal) (rest : Answer) (C : Type 0) → (C → IsRefusedAs rest r) → ((false ≡ true) × (r ≡ x)) ⊎ ((false ≡ false) × C) → IsRefusedAs rest r
first_false x r rest C back (inl this) = absurd (true≢false (sym this.0))
first_false x r rest C back (inr later) = back later.1

-- the first test refuses, or the rest does
first : (test : Bool) (x r : Refusal) (rest : Answer) (C : Type 0) → IsRefusedAs rest r ↔ C → IsRefusedAs (if test then refused x else rest) r ↔ (((test ≡ true) × (r ≡ x)) ⊎ ((test ≡ false) × C))
first true x r rest C is = (λ told. inl (refl, (one x r).0 told), first_true x r C)
first false x r rest C is = (λ told. inr (refl, is.0 told), first_false x r rest C is.1)

-- where the first test passes nothing is refused
past : (test : Bool) (a : Answer) (r : Refusal) (rest : Answer) (C : Type 0) → is_refused a.reply ≡ false → IsRefusedAs rest r ↔ C → IsRefusedAs (if test then a else rest) r ↔ ((test ≡ false) × C)
past true a r rest C quiet is = (λ told. absurd (told_by a r quiet told), λ later. absurd (true≢false later.0))
past false a r rest C quiet is = (λ told. (refl, is.0 told), λ later. is.1 later.1)

-- ---- tests and facts

-- numbers that fail the test of equality differ
far_from : (a b : ℕ) → not (a == b) ≡ true → a ≢ b
far_from a b is = eqb-false a b (not-true (a == b) is)

-- numbers that pass it are equal
next_to : (a b : ℕ) → not (a == b) ≡ false → a ≡ b
next_to a b is = eqb-true a b (not-false (a == b) is)

-- numbers that differ fail it
is_far : (a b : ℕ) → (a ≢ b) → not (a == b) ≡ true
is_far a b is = not_from_false (a == b) (ne_eqb a b is)

-- equal numbers pass it
is_next : (a b : ℕ) → a ≡ b → not (a == b) ≡ false
is_next a b is = ap not (eq-eqb a b is)

-- a bid is the kept one exactly where the test says so
kept_is : (kept : Option Bid) (given : Bid) → (is_kept kept given ≡ true) ↔ (kept ≡ Some given)
kept_is None given = (λ is. absurd (true≢false (sym is)), λ is. absurd (true≢false (sym (ap is_some is))))
kept_is (Some bid) given = (λ is. ap Some ((bids_decide bid given).0 is), λ is. (bids_decide bid given).1 (ap (λ (o : Option Bid). unwrap_or o given) is))

-- there is no bid exactly where the test says so
none_is : (kept : Option Bid) → (is_none kept ≡ true) ↔ (kept ≡ None)
none_is None = (λ is. refl, λ is. refl)
none_is (Some bid) = (λ is. absurd (true≢false (sym is)), λ is. absurd (true≢false (ap is_some is)))

-- where the test of all passes, each holds
all_true : (have : List Bool) → list_all (λ (has : Bool). has) have ≡ true → All (λ has. has ≡ true) have
all_true [] is k d there = absurd (omega arith)
all_true (false ∷ have) is k d there = absurd (true≢false (sym is))
all_true (true ∷ have) is zero d there = refl
all_true (true ∷ have) is (suc k) d there = all_true have is k d (omega arith)

-- where each holds, the test of all passes
true_all : (have : List Bool) → All (λ has. has ≡ true) have → list_all (λ (has : Bool). has) have ≡ true
true_all [] each = refl
true_all (false ∷ have) each = absurd (true≢false (sym (each zero true (omega arith))))
true_all (true ∷ have) each = true_all have (λ k d there. each (suc k) d (omega (arith, there)))

-- ---- bids

-- the kept turn and bid once more
abbrev is_again : Standing → ℕ → Bid → Bool
is_again s turn given = (turn == s.turn) && is_kept s.bid given

-- where that test passes, they are the kept ones
again : (s : Standing) (turn : ℕ) (given : Bid) → is_again s turn given ≡ true → (turn ≡ s.turn) × (s.bid ≡ Some given)
again s turn given is = let p = and_parts (turn == s.turn) (is_kept s.bid given) is in (eqb-true turn s.turn p.0, (kept_is s.bid given).0 p.1)

-- and back
from_again : (s : Standing) (turn : ℕ) (given : Bid) → (turn ≡ s.turn) × (s.bid ≡ Some given) → is_again s turn given ≡ true
from_again s turn given both = and_from (turn == s.turn) (is_kept s.bid given) (eq-eqb turn s.turn both.0) ((kept_is s.bid given).1 both.1)

-- the tests of a bid in order: the first that holds tells
abbrev BidChain : Standing → ℕ → Bid → Refusal → Type 0
BidChain s turn given r =
    ((s.closed ≡ true) × (r ≡ refusal.Closed)) ⊎ ((s.closed ≡ false) × ((is_again s turn given ≡ false) × (
    ((not (turn == (s.turn + 1)) ≡ true) × (r ≡ refusal.Turn s.turn)) ⊎ ((not (turn == (s.turn + 1)) ≡ false) × (
    (((s.turn == MOST_TURNS) ≡ true) × (r ≡ refusal.TurnsUsed)) ⊎ (((s.turn == MOST_TURNS) ≡ false) × ⊥))))))

-- a bid is refused by the first test that holds
bid_chain : (now id m : ℕ) (s : Standing) (turn : ℕ) (given : Bid) (r : Refusal) → IsRefusedAs (bid_turn now id m s turn given) r ↔ BidChain s turn given r
bid_chain now id m s turn given r =
    let kept : Answer = record { event = Some (BidKept now id m turn given); reply = reply.Kept turn } in
    let fourth : Answer = if s.turn == MOST_TURNS then refused refusal.TurnsUsed else kept in
    let third : Answer = if not (turn == (s.turn + 1)) then refused (refusal.Turn s.turn) else fourth in
    let second : Answer = if is_again s turn given then says (reply.Kept s.turn) else third in
    first s.closed refusal.Closed r second _
    (past (is_again s turn given) (says (reply.Kept s.turn)) r third _ refl
    (first (not (turn == (s.turn + 1))) (refusal.Turn s.turn) r fourth _
    (first (s.turn == MOST_TURNS) refusal.TurnsUsed r kept _ (none kept r refl))))

-- that test gives the cause
bid_to : (s : Standing) (turn : ℕ) (given : Bid) (r : Refusal) → BidChain s turn given r → CauseOfBid s turn given r
bid_to s turn given r (inl shut) = inl shut
bid_to s turn given r (inr (opened, (new, inl (far, is)))) =
    inr (inl (opened, far_from turn (s.turn + 1) far, λ both. true≢false (sym (from_again s turn given both) ∙ new), is))
bid_to s turn given r (inr (opened, (new, inr (next, inl (used, is))))) =
    inr (inr (opened, next_to turn (s.turn + 1) next, eqb-true s.turn MOST_TURNS used, is))
bid_to s turn given r (inr (opened, (new, inr (next, inr (left, never))))) = absurd never

-- the cause gives the test
bid_from : (s : Standing) (turn : ℕ) (given : Bid) (r : Refusal) → CauseOfBid s turn given r → BidChain s turn given r
bid_from s turn given r (inl shut) = inl shut
bid_from s turn given r (inr (inl (opened, far, new, is))) =
    inr (opened, (false_from_ne_true (is_again s turn given) (λ yes. new (again s turn given yes)), inl (is_far turn (s.turn + 1) far, is)))
bid_from s turn given r (inr (inr (opened, next, used, is))) =
    inr (opened, (false_from_ne_true (is_again s turn given) (λ yes. let same = (again s turn given yes).0 in omega (arith, same, next)), inr (is_next turn (s.turn + 1) next, inl (eq-eqb s.turn MOST_TURNS used, is))))

-- a checked bid is refused exactly where the refusal has its cause
bid_cause : (now id m : ℕ) (s : Standing) (turn : ℕ) (given : Bid) (r : Refusal) → IsRefusedAs (bid_turn now id m s turn given) r ↔ CauseOfBid s turn given r
bid_cause now id m s turn given r = let chain = bid_chain now id m s turn given r in (λ told. bid_to s turn given r (chain.0 told), λ cause. chain.1 (bid_from s turn given r cause))

-- none is no bid
none_given : (given : Bid) → (None ≡ Some given) → ⊥
none_given given is = true≢false (sym (ap is_some is))

-- without a bid, the field of its form is at fault
form_none : (s : Standing) (turn : ℕ) (r : Refusal) → CauseOfForm s turn None r → r ≡ refusal.BadField (form_field s.facts)
form_none s turn r (inl this) = this.1
form_none s turn r (inr (given, is, right, cause)) = absurd (none_given given is)

-- with a checked bid, the cause is that of the bid
form_right : (s : Standing) (turn : ℕ) (given : Bid) (r : Refusal) → IsCheckedBid s.facts given → CauseOfForm s turn (Some given) r → CauseOfBid s turn given r
form_right s turn given r right (inl this) = absurd (this.0 given refl right)
form_right s turn given r right (inr (other, is, sound, cause)) = subst (λ (b : Bid). CauseOfBid s turn b r) (sym (ap (λ (o : Option Bid). unwrap_or o given) is)) cause

-- with another bid, the field of its form is at fault
form_wrong : (s : Standing) (turn : ℕ) (given : Bid) (r : Refusal) → (IsCheckedBid s.facts given → ⊥) → CauseOfForm s turn (Some given) r → r ≡ refusal.BadField (form_field s.facts)
form_wrong s turn given r wrong (inl this) = this.1
form_wrong s turn given r wrong (inr (other, is, right, cause)) = absurd (wrong (subst (λ (b : Bid). IsCheckedBid s.facts b) (sym (ap (λ (o : Option Bid). unwrap_or o given) is)) right))

-- the same of a bid of whatever form
form_cause : (now id m : ℕ) (s : Standing) (turn : ℕ) (form : Option Bid) (r : Refusal) → IsRefusedAs (bid_form now id m s turn (bid_by_rule s.facts form)) r ↔ CauseOfForm s turn form r
form_cause now id m s turn None r =
    let x = refusal.BadField (form_field s.facts) in
    (λ told. inl (λ given is right. none_given given is, (one x r).0 told), λ cause. (one x r).1 (form_none s turn r cause))
form_cause now id m s turn (Some given) r =
    let x = refusal.BadField (form_field s.facts) in
    let bid = bid_cause now id m s turn given r in
    by_rules s.facts given (λ (chosen : Option Bid). IsRefusedAs (bid_form now id m s turn chosen) r ↔ CauseOfForm s turn (Some given) r)
    (λ right. (λ told. inr (given, refl, right, bid.0 told), λ cause. bid.1 (form_right s turn given r right cause)))
    (λ wrong. (λ told. inl (λ other is right. wrong (subst (λ (b : Bid). IsCheckedBid s.facts b) (sym (ap (λ (o : Option Bid). unwrap_or o given) is)) right), (one x r).0 told), λ cause. (one x r).1 (form_wrong s turn given r wrong cause)))

-- the same of a bid's body
bid_body_cause : (now id m : ℕ) (s : Standing) (body : BidBody) (turn : Option ℕ) (r : Refusal) → IsRefusedAs (bid_body now id m s body turn) r ↔ CauseOfBidBody s body turn r
bid_body_cause now id m s body None r = one (refusal.BadField field.Turn) r
bid_body_cause now id m s body (Some turn) r = form_cause now id m s turn (form_of s.facts body) r

-- ---- withdrawals

-- the kept turn above 0 of a member who has withdrawn
abbrev is_withdrawn : Standing → ℕ → Bool
is_withdrawn s turn = (turn == s.turn) && nat_le 1 s.turn && is_none s.bid

-- where that test passes, it is so
withdrawn : (s : Standing) (turn : ℕ) → is_withdrawn s turn ≡ true → (turn ≡ s.turn) × (1 ≤ s.turn) × (s.bid ≡ None)
withdrawn s turn is =
    let p = and_parts ((turn == s.turn) && nat_le 1 s.turn) (is_none s.bid) is in
    let q = and_parts (turn == s.turn) (nat_le 1 s.turn) p.0 in
    (eqb-true turn s.turn q.0, leb-true 1 s.turn q.1, (none_is s.bid).0 p.1)

-- and back
from_withdrawn : (s : Standing) (turn : ℕ) → (turn ≡ s.turn) × (1 ≤ s.turn) × (s.bid ≡ None) → is_withdrawn s turn ≡ true
from_withdrawn s turn all = and_from ((turn == s.turn) && nat_le 1 s.turn) (is_none s.bid) (and_from (turn == s.turn) (nat_le 1 s.turn) (eq-eqb turn s.turn all.0) (le-leb 1 s.turn all.1)) ((none_is s.bid).1 all.2)

-- the tests of a withdrawal in order
abbrev WithdrawalChain : Standing → ℕ → Refusal → Type 0
WithdrawalChain s turn r =
    ((s.closed ≡ true) × (r ≡ refusal.Closed)) ⊎ ((s.closed ≡ false) × ((is_withdrawn s turn ≡ false) × (
    ((not (turn == (s.turn + 1)) ≡ true) × (r ≡ refusal.Turn s.turn)) ⊎ ((not (turn == (s.turn + 1)) ≡ false) × (
    (((s.turn == MOST_TURNS) ≡ true) × (r ≡ refusal.TurnsUsed)) ⊎ (((s.turn == MOST_TURNS) ≡ false) × (
    ((is_none s.bid ≡ true) × (r ≡ refusal.NoBid)) ⊎ ((is_none s.bid ≡ false) × ⊥))))))))

-- a withdrawal is refused by the first test that holds
withdrawal_chain : (now id m : ℕ) (s : Standing) (turn : ℕ) (r : Refusal) → IsRefusedAs (withdrawal_turn now id m s turn) r ↔ WithdrawalChain s turn r
withdrawal_chain now id m s turn r =
    let gone : Answer = record { event = Some (Withdrawn now id m turn); reply = reply.Kept turn } in
    let fifth : Answer = if is_none s.bid then refused refusal.NoBid else gone in
    let fourth : Answer = if s.turn == MOST_TURNS then refused refusal.TurnsUsed else fifth in
    let third : Answer = if not (turn == (s.turn + 1)) then refused (refusal.Turn s.turn) else fourth in
    let second : Answer = if is_withdrawn s turn then says (reply.Kept s.turn) else third in
    first s.closed refusal.Closed r second _
    (past (is_withdrawn s turn) (says (reply.Kept s.turn)) r third _ refl
    (first (not (turn == (s.turn + 1))) (refusal.Turn s.turn) r fourth _
    (first (s.turn == MOST_TURNS) refusal.TurnsUsed r fifth _
    (first (is_none s.bid) refusal.NoBid r gone _ (none gone r refl)))))

-- that test gives the cause
withdrawal_to : (s : Standing) (turn : ℕ) (r : Refusal) → WithdrawalChain s turn r → CauseOfWithdrawal s turn r
withdrawal_to s turn r (inl shut) = inl shut
withdrawal_to s turn r (inr (opened, (new, inl (far, is)))) =
    inr (inl (opened, far_from turn (s.turn + 1) far, λ all. true≢false (sym (from_withdrawn s turn all) ∙ new), is))
withdrawal_to s turn r (inr (opened, (new, inr (next, inl (used, is))))) =
    inr (inr (inl (opened, next_to turn (s.turn + 1) next, eqb-true s.turn MOST_TURNS used, is)))
withdrawal_to s turn r (inr (opened, (new, inr (next, inr (left, inl (nothing, is)))))) =
    inr (inr (inr (opened, next_to turn (s.turn + 1) next, eqb-false s.turn MOST_TURNS left, (none_is s.bid).0 nothing, is)))
withdrawal_to s turn r (inr (opened, (new, inr (next, inr (left, inr (some, never)))))) = absurd never

-- the next turn is not the kept one
not_withdrawn : (s : Standing) (turn : ℕ) → turn ≡ s.turn + 1 → is_withdrawn s turn ≡ false
not_withdrawn s turn next = false_from_ne_true (is_withdrawn s turn) (λ yes. let same = (withdrawn s turn yes).0 in omega (arith, same, next))

-- the cause gives the test
withdrawal_from : (s : Standing) (turn : ℕ) (r : Refusal) → CauseOfWithdrawal s turn r → WithdrawalChain s turn r
withdrawal_from s turn r (inl shut) = inl shut
withdrawal_from s turn r (inr (inl (opened, far, new, is))) =
    inr (opened, (false_from_ne_true (is_withdrawn s turn) (λ yes. new (withdrawn s turn yes)), inl (is_far turn (s.turn + 1) far, is)))
withdrawal_from s turn r (inr (inr (inl (opened, next, used, is)))) =
    inr (opened, (not_withdrawn s turn next, inr (is_next turn (s.turn + 1) next, inl (eq-eqb s.turn MOST_TURNS used, is))))
withdrawal_from s turn r (inr (inr (inr (opened, next, left, nothing, is)))) =
    inr (opened, (not_withdrawn s turn next, inr (is_next turn (s.turn + 1) next, inr (ne_eqb s.turn MOST_TURNS left, inl ((none_is s.bid).1 nothing, is)))))

-- a withdrawal is refused exactly where the refusal has its cause
withdrawal_cause : (now id m : ℕ) (s : Standing) (turn : ℕ) (r : Refusal) → IsRefusedAs (withdrawal_turn now id m s turn) r ↔ CauseOfWithdrawal s turn r
withdrawal_cause now id m s turn r = let chain = withdrawal_chain now id m s turn r in (λ told. withdrawal_to s turn r (chain.0 told), λ cause. chain.1 (withdrawal_from s turn r cause))

-- the same of a withdrawal's body
withdrawal_body_cause : (now id m : ℕ) (s : Standing) (turn : Option ℕ) (r : Refusal) → IsRefusedAs (withdrawal_body now id m s turn) r ↔ CauseOfWithdrawalBody s turn r
withdrawal_body_cause now id m s None r = one (refusal.BadField field.Turn) r
withdrawal_body_cause now id m s (Some turn) r = withdrawal_cause now id m s turn r

-- ---- what is asked

-- the tests of an asked close in order
abbrev CloseChain : Standing → Refusal → Type 0
CloseChain s r = ((s.closed ≡ true) × (r ≡ refusal.Closed)) ⊎ ((s.closed ≡ false) × ((list_all (λ has. has) s.have_bid ≡ false) × (r ≡ refusal.NotAll)))

-- a close is refused by the first test that holds
close_chain : (now id : ℕ) (s : Standing) (r : Refusal) → IsRefusedAs (answer_close now id s) r ↔ CloseChain s r
close_chain now id s r =
    let all : Bool = list_all (λ has. has) s.have_bid in
    let shut : Answer = record { event = Some (Closed now id); reply = reply.Closed } in
    let second : Answer = if all then shut else refused refusal.NotAll in
    first s.closed refusal.Closed r second _ (past all shut r (refused refusal.NotAll) _ refl (one refusal.NotAll r))

-- that test gives the cause
close_to : (s : Standing) (r : Refusal) → CloseChain s r → CauseOfAsk s asks.Close r
close_to s r (inl shut) = inl shut
close_to s r (inr (opened, (some, is))) = inr (opened, λ each. true≢false (sym (true_all s.have_bid each) ∙ some), is)

-- the cause gives the test
close_from : (s : Standing) (r : Refusal) → CauseOfAsk s asks.Close r → CloseChain s r
close_from s r (inl shut) = inl shut
close_from s r (inr (opened, some, is)) = inr (opened, (false_from_ne_true (list_all (λ has. has) s.have_bid) (λ all. some (all_true s.have_bid all)), is))

-- a body at fault is refused by its fault
broken_cause : (fault : BodyFault) (r : Refusal) → IsRefusedAs (answer_to_fault fault) r ↔ (r ≡ refusal_of_body fault)
broken_cause Json r = one refusal.BadJson r
broken_cause (Field name) r = one (refusal.BadField name) r

-- whatever a caller may ask is refused exactly where the refusal has its cause
ask_cause : (now id m : ℕ) (s : Standing) (ask : Ask) (r : Refusal) → IsRefusedAs (answer_ask now id m s ask) r ↔ CauseOfAsk s ask r
ask_cause now id m s asks.Status r = none (says (reply.Status id m)) r refl
ask_cause now id m s (asks.Bid (Err fault)) r = broken_cause fault r
ask_cause now id m s (asks.Bid (Ok body)) r = bid_body_cause now id m s body body.turn r
ask_cause now id m s asks.Own r = none (says (reply.Own id m)) r refl
ask_cause now id m s asks.Close r = let chain = close_chain now id s r in (λ told. close_to s r (chain.0 told), λ cause. chain.1 (close_from s r cause))
ask_cause now id m s (asks.Publish what) r = past s.closed (says (reply.Publish id what)) r (refused refusal.NotClosed) _ refl (one refusal.NotClosed r)
ask_cause now id m s (asks.Withdraw (Err fault)) r = broken_cause fault r
ask_cause now id m s (asks.Withdraw (Ok body)) r = withdrawal_body_cause now id m s body.turn r

-- ---- callers

-- past the deadline the reply is that of the closed instance
over_reply : (now id m : ℕ) (i : InstanceView) (ask : Ask) (closed late : Bool) (e : Option EventView)
    → (if not closed && late then record { event = e; reply = (answer_ask now id m (standing_of i m true) ask).reply } else answer_ask now id m (standing_of i m closed) ask).reply
    ≡ (answer_ask now id m (standing_of i m (closed || late)) ask).reply
over_reply now id m i ask true late e = refl
over_reply now id m i ask false true e = refl
over_reply now id m i ask false false e = refl

-- past the test of the role, the rest tells
role_true : (x r : Refusal) (rest : Answer) (C : Type 0) → (C → IsRefusedAs rest r) → ((true ≡ false) × (r ≡ x)) ⊎ ((true ≡ true) × C) → IsRefusedAs rest r
role_true x r rest C back (inl this) = absurd (true≢false this.0)
role_true x r rest C back (inr later) = back later.1

-- who may not ask is told so
role_false : (x r : Refusal) (C : Type 0) → ((false ≡ false) × (r ≡ x)) ⊎ ((false ≡ true) × C) → IsRefusedAs (refused x) r
role_false x r C (inl this) = (one x r).1 this.1
role_false x r C (inr later) = absurd (true≢false (sym later.0))

-- the test of the role before the rest
role_of : (may : Bool) (x r : Refusal) (rest : Answer) (C : Type 0) → IsRefusedAs rest r ↔ C → IsRefusedAs (if not may then refused x else rest) r ↔ (((may ≡ false) × (r ≡ x)) ⊎ ((may ≡ true) × C))
role_of true x r rest C is = (λ told. inr (refl, is.0 told), role_true x r rest C is.1)
role_of false x r rest C is = (λ told. inl (refl, (one x r).0 told), role_false x r C)

-- whatever a caller asks is refused exactly where the refusal has its cause
caller_cause : (now id : ℕ) (ask : Ask) (i : InstanceView) (m : ℕ) (r : Refusal) → IsRefusedAs (answer_caller now id ask i m) r ↔ CauseOfCaller now i m ask r
caller_cause now id ask i m r =
    let after : Answer = record { event = Some (Closed now id); reply = (answer_ask now id m (standing_of i m true) ask).reply } in
    let second : Answer = if is_over now i then after else answer_ask now id m (standing_of i m i.closed) ask in
    let same = over_reply now id m i ask i.closed (nat_le i.creation.deadline now) (Some (Closed now id)) in
    let asked = ask_cause now id m (standing_of i m (is_past now i)) ask r in
    role_of (may_ask m ask) refusal.Role r second _ (λ told. asked.0 (sym same ∙ told), λ cause. same ∙ asked.1 cause)

-- equal callers have one number
some_same : (m k : ℕ) → (Some m ≡ Some k) → m ≡ k
some_same m k is = ap (λ (o : Option ℕ). unwrap_or o m) is

-- nobody is no caller
none_some : (m : ℕ) → (None ≡ Some m) → ⊥
none_some m is = true≢false (sym (ap is_some is))

-- a key of nobody is wrong
key_none : (now : ℕ) (secret : List ℕ) (id : ℕ) (i : InstanceView) (key : List ℕ) (ask : Ask) (r : Refusal) → holder secret id i key ≡ None → CauseOfKey now secret id i key ask r → r ≡ refusal.WrongKey
key_none now secret id i key ask r nobody (inl this) = this.1
key_none now secret id i key ask r nobody (inr (m, holds, cause)) =
    let found = (least_holder secret id (length i.creation.members) key m).1 holds in absurd (none_some m (sym nobody ∙ found))

-- under a key the cause is that of its least holder
key_some : (now : ℕ) (secret : List ℕ) (id : ℕ) (i : InstanceView) (key : List ℕ) (ask : Ask) (m : ℕ) (r : Refusal) → holder secret id i key ≡ Some m → CauseOfKey now secret id i key ask r → CauseOfCaller now i m ask r
key_some now secret id i key ask m r is (inl this) =
    let holds = (least_holder secret id (length i.creation.members) key m).0 is in absurd (this.0 m holds.among holds.own)
key_some now secret id i key ask m r is (inr (k, holds, cause)) =
    let found = (least_holder secret id (length i.creation.members) key k).1 holds in
    subst (λ (who : ℕ). CauseOfCaller now i who ask r) (sym (some_same m k (sym is ∙ found))) cause

-- the same of a command under a key
key_cause : (now : ℕ) (secret : List ℕ) (id : ℕ) (i : InstanceView) (key : List ℕ) (ask : Ask) (r : Refusal) (who : Option ℕ) → holder secret id i key ≡ who
    → IsRefusedAs (answer_to now id ask (caller_by i who)) r ↔ CauseOfKey now secret id i key ask r
key_cause now secret id i key ask r None is = (
  λ told. inl (λ m among. none_found secret key id (length i.creation.members + 1) 0 is m (omega arith) (omega (arith, among)), (one refusal.WrongKey r).0 told),
  λ cause. (one refusal.WrongKey r).1 (key_none now secret id i key ask r is cause),
)
key_cause now secret id i key ask r (Some m) is =
    let caller = caller_cause now id ask i m r in
    (λ told. inr (m, (least_holder secret id (length i.creation.members) key m).0 is, caller.0 told), λ cause. caller.1 (key_some now secret id i key ask m r is cause))

-- the same of a command on an instance
on_cause : (now : ℕ) (secret : List ℕ) (id : ℕ) (found : Option InstanceView) (key : Option (List ℕ)) (ask : Ask) (r : Refusal)
    → IsRefusedAs (answer_to now id ask (caller_in secret id found key)) r ↔ CauseOn now secret id found key ask r
on_cause now secret id None key ask r = one refusal.NoInstance r
on_cause now secret id (Some i) None ask r = one refusal.NoKey r
on_cause now secret id (Some i) (Some key) ask r = key_cause now secret id i key ask r (holder secret id i key) refl

-- ---- creations

-- where no instance has the tag, the search finds none
few_tagged : (id : ℕ) (instances : List InstanceView) (tag : List ℕ) → All (λ i. i.creation.tag ≢ tag) instances → tagged_from id instances tag ≡ None
few_tagged id [] tag each = refl
few_tagged id (i ∷ instances) tag each =
    cond_both (same_text i.creation.tag tag) (Some (id, i.creation)) (tagged_from (id + 1) instances tag) (λ (o : Option (ℕ × CreationView)). o ≡ None)
    (λ same. absurd (each zero i (omega arith) ((bytes_decides i.creation.tag tag).0 same)))
    (λ _. few_tagged (id + 1) instances tag (λ k d there. each (suc k) d (omega (arith, there))))

-- the creation that is kept under a tag, with its id
abbrev Found : Type 0
Found = Option (ℕ × CreationView)

-- a new creation is refused where the host is full
new_from : (instances : List InstanceView) (c : CreationView) (r : Refusal) → tagged_from 1 instances c.tag ≡ None → CauseOfCreation instances (Ok c) r → (nat_lt (length instances) MOST_INSTANCES ≡ false) × (r ≡ refusal.HostFull)
new_from instances c r nobody (inl (id, found, there, differs, this)) = absurd (true≢false (sym (ap (λ (o : Found). is_some o) (sym nobody ∙ there))))
new_from instances c r nobody (inr (each, full, is)) = (false_from_ne_true (nat_lt (length instances) MOST_INSTANCES) (λ few. let below = ltb-true (length instances) MOST_INSTANCES few in omega (arith, below, full)), is)

-- a count that is not below the limit is at it
full_from : (count : ℕ) → nat_lt count MOST_INSTANCES ≡ false → (count < MOST_INSTANCES) ⊎ (MOST_INSTANCES ≤ count) → MOST_INSTANCES ≤ count
full_from count is (inl below) = absurd (true≢false (sym (lt-ltb count MOST_INSTANCES below) ∙ is))
full_from count is (inr full) = full

-- a tag that another creation has is taken
old_from : (instances : List InstanceView) (c : CreationView) (r : Refusal) (id : ℕ) (found : CreationView) → tagged_from 1 instances c.tag ≡ Some (id, found) → CauseOfCreation instances (Ok c) r
    → (same_creation found c ≡ false) × (r ≡ refusal.TagTaken)
old_from instances c r id found is (inl (other, stands, there, differs, this)) =
    let same : stands ≡ found = ap (λ (o : Found). (unwrap_or o (id, found)).1) (sym there ∙ is) in
    (false_from_ne_true (same_creation found c) (λ equal. differs (same ∙ (creations_decide found c).0 equal)), this)
old_from instances c r id found is (inr (each, full, this)) = absurd (true≢false (ap (λ (o : Found). is_some o) (sym is ∙ few_tagged 1 instances c.tag each)))

-- a creation is refused exactly where the refusal has its cause
new_cause : (now : ℕ) (instances : List InstanceView) (c : CreationView) (r : Refusal) (found : Found) → tagged_from 1 instances c.tag ≡ found
    → IsRefusedAs (new_creation now (length instances) c found) r ↔ CauseOfCreation instances (Ok c) r
new_cause now instances c r None is =
    let made : Answer = record { event = Some (Created now c); reply = reply.Created (length instances + 1) } in
    let chain = past (nat_lt (length instances) MOST_INSTANCES) made r (refused refusal.HostFull) _ refl (one refusal.HostFull r) in (
      λ told. let both = chain.0 told in inr (none_tagged 1 instances c.tag is, full_from (length instances) both.0 (cases_lt (length instances) MOST_INSTANCES), both.1),
      λ cause. chain.1 (new_from instances c r is cause),
    )
new_cause now instances c r (Some (id, found)) is =
    let chain = past (same_creation found c) (says (reply.Created id)) r (refused refusal.TagTaken) _ refl (one refusal.TagTaken r) in (
      λ told. let both = chain.0 told in inl (id, found, is, λ same. true≢false (sym ((creations_decide found c).1 same) ∙ both.0), both.1),
      λ cause. chain.1 (old_from instances c r id found is cause),
    )

-- a command is refused exactly where the refusal has its cause
pub refusal_cause : (h : HostView) (t : ℕ) (command : CommandView) (r : Refusal) → IsRefusedAs (step h t command) r ↔ Cause h t command r
refusal_cause h t (Create (Err fault)) r = broken_cause fault r
refusal_cause h t (Create (Ok c)) r = new_cause (max t h.moment) h.instances c r (tagged_from 1 h.instances c.tag) refl
refusal_cause h t (To id key ask) r = on_cause (max t h.moment) h.secret id (instance_at h id) key ask r

-- the same of an answer that is the step's
pub refused_from : (h : HostView) (t : ℕ) (command : CommandView) (a : Answer) → a ≡ step h t command → (r : Refusal) → (a.reply ≡ reply.Refused r) ↔ Cause h t command r
refused_from h t command a is r = subst (λ (b : Answer). IsRefusedAs b r ↔ Cause h t command r) (sym is) (refusal_cause h t command r)
