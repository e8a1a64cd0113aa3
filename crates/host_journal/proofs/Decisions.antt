-- Whether a body spells an event that may be applied can be told by computing.
use Rattle.std.proofs.Common.{◌≡◌, ◌≢◌, ◌⊎◌, inl, inr, ⊎_elim, ℕ, ◌+◌, ◌≤◌, ◌<◌, Bool, true, false, List, [], ◌∷◌, length, All, Option, Some, None, IsSome, IsSomeAnd, refl, sym, ◌∙◌, ap, subst, arith, true≢false}
use Rattle.std.specs.Bool.{Decides}
use Rattle.std.proofs.lemmas.Bool.{cases_lt, cases_eq}
use Rattle.std.proofs.lemmas.List.Elements.{All-nil, All-cons, All-head, All-tail}
use Rattle.bid_rules.specs.declared.bids.Facts.{Facts}
use Rattle.bid_rules.specs.Checks.{passes_bid, passes_facts}
use Rattle.split_lemmas.proofs.Checks.{bid_decided, facts_decided}
use Rattle.bid_rules.specs.declared.bids.Bid.{Bid}
use Rattle.bid_rules.specs.Facts.{IsCheckedBid, IsCheckedFacts, member_count}
use Rattle.sealed_core.specs.Host.{CreationView, InstanceView, HostView, EventView, Created, BidKept, Closed, Withdrawn, CanApply, IsAllowed, IsCheckedCreation, IsName, IsNextTurn, instance_at, item_count, kept_bid, kept_turn, moment_of}
use Rattle.body_fields.specs.Rules.{is_name, is_tag}
use Rattle.body_fields.specs.declared.limits.TheConstants.{LAST_DEADLINE}
use Rattle.sealed_core.specs.declared.limits.TheConstants.{MOST_INSTANCES, MOST_TURNS}
use Rattle.host_journal.specs.Reading.{KeepsRules, whole_at}
use Rattle.host_journal.specs.Spelling.{IsOfVersion, Spells}
use Rattle.host_journal.specs.Journal.{IsNoEvent}
use Rattle.host_journal.proofs.Events.{never, same_event, whole_takes}
use Rattle.host_journal.proofs.Fields.{IsBytes}

-- whether a fact holds, with a reason
data Decision (P : Type 0) : Type 0 where
  holds : P → Decision P
  fails : (P → ⊥) → Decision P

-- by a test of it
tested : {P : Type 0} (test : Bool) → Decides test P → Decision P
tested true decides = holds (decides.0 refl)
tested false decides = fails (λ p. absurd (true≢false (sym (decides.1 p))))

is_checked_facts : (given : Facts) → Decision (IsCheckedFacts given)
is_checked_facts given = tested (passes_facts given) (facts_decided given)

is_checked_bid : (given : Facts) (one : Bid) → Decision (IsCheckedBid given one)
is_checked_bid given one = tested (passes_bid given one) (bid_decided given one)

same : {P Q : Type 0} → (P → Q) → (Q → P) → Decision P → Decision Q
same there back (holds p) = holds (there p)
same there back (fails not) = fails (λ q. not (back q))

both : {P Q : Type 0} → Decision P → Decision Q → Decision (P × Q)
both (holds p) (holds q) = holds (p, q)
both (holds p) (fails not) = fails (λ pq. not pq.1)
both (fails not) other = fails (λ pq. not pq.0)

either : {P Q : Type 0} → Decision P → Decision Q → Decision (P ⊎ Q)
either (holds p) other = holds (inl p)
either (fails not) (holds q) = holds (inr q)
either (fails not) (fails nor) = fails (λ pq. ⊎_elim not nor pq)

opposite : {P : Type 0} → Decision P → Decision (P → ⊥)
opposite (holds p) = fails (λ not. not p)
opposite (fails not) = holds not

at_most : (m n : ℕ) → Decision (m ≤ n)
at_most m n = ⊎_elim (λ above. fails (λ low. absurd (omega (arith, above, low)))) (λ low. holds low) (cases_lt n m)

below : (m n : ℕ) → Decision (m < n)
below m n = ⊎_elim (λ low. holds low) (λ above. fails (λ low. absurd (omega (arith, above, low)))) (cases_lt m n)

equal : (m n : ℕ) → Decision (m ≡ n)
equal m n = ⊎_elim (λ is. holds is) (λ not. fails not) (cases_eq m n)

is_so : (b : Bool) → Decision (b ≡ true)
is_so true = holds refl
is_so false = fails (λ e. absurd (cc e))

is_not : (b : Bool) → Decision (b ≡ false)
is_not false = holds refl
is_not true = fails (λ e. absurd (cc e))

each : {X : Type 0} (P : X → Type 0) → ((x : X) → Decision (P x)) → (xs : List X) → Decision (All P xs)
each P decide [] = holds (All-nil P)
each P decide (x ∷ xs) =
    same (λ p. All-cons P x xs p.0 p.1) (λ all. (All-head P x xs all, All-tail P x xs all)) (both (decide x) (each P decide xs))

equal_lists : (xs ys : List ℕ) → Decision (xs ≡ ys)
equal_lists [] [] = holds refl
equal_lists [] (y ∷ ys) = fails (λ e. absurd (omega (arith, ap length e)))
equal_lists (x ∷ xs) [] = fails (λ e. absurd (omega (arith, ap length e)))
equal_lists (x ∷ xs) (y ∷ ys) =
    same (λ p. ap (λ (z : ℕ). z ∷ xs) p.0 ∙ ap (λ (l : List ℕ). y ∷ l) p.1) (λ e. (cc e, cc e)) (both (equal x y) (equal_lists xs ys))

some_and : {X : Type 0} (P : X → Type 0) → ((x : X) → Decision (P x)) → (o : Option X) → Decision (IsSomeAnd o P)
some_and P decide None = fails (λ no. no)
some_and P decide (Some x) = decide x

is_some_bid : (o : Option Bid) → Decision (IsSome o)
is_some_bid None = fails (λ e. absurd (cc e))
is_some_bid (Some x) = holds refl

is_checked_creation : (c : CreationView) → Decision (IsCheckedCreation c)
is_checked_creation c =
    same
    (λ p. record { facts = p.0; member_names = p.1.0; item_names = p.1.1.0; title = p.1.1.1.0; members = p.1.1.1.1.0; items = p.1.1.1.1.1.0; tag = p.1.1.1.1.1.1.0; deadline = p.1.1.1.1.1.1.1 })
    (λ c. (c.facts, (c.member_names, (c.item_names, (c.title, (c.members, (c.items, (c.tag, c.deadline))))))))
    (both (is_checked_facts c.facts)
    (both (equal (length c.members) (member_count c.facts))
    (both (equal (length c.items) (item_count c.facts))
    (both (is_so (is_name c.title))
    (both (each IsName (λ name. is_so (is_name name)) c.members)
    (both (each IsName (λ name. is_so (is_name name)) c.items)
    (both (is_so (is_tag c.tag)) (at_most c.deadline LAST_DEADLINE))))))))

is_next_turn : (now : ℕ) (i : InstanceView) (m turn : ℕ) → Decision (IsNextTurn now i m turn)
is_next_turn now i m turn =
    same
    (λ p. record { open_ = p.0; early = p.1.0; least = p.1.1.0; most = p.1.1.1.0; next = p.1.1.1.1.0; used = p.1.1.1.1.1 })
    (λ t. (t.open_, (t.early, (t.least, (t.most, (t.next, t.used))))))
    (both (is_not i.closed)
    (both (below now i.creation.deadline)
    (both (at_most 1 m)
    (both (at_most m (length i.creation.members)) (both (equal turn (kept_turn i m + 1)) (at_most turn MOST_TURNS))))))

is_allowed : (h : HostView) (e : EventView) → Decision (IsAllowed h e)
is_allowed h (Created now c) =
    same (λ p. (p.0, p.1.0, p.1.1)) (λ a. (a.0, (a.1, a.2)))
    (both (below (length h.instances) MOST_INSTANCES) (both (is_checked_creation c) (each (λ i. i.creation.tag ≢ c.tag) (λ i. opposite (equal_lists i.creation.tag c.tag)) h.instances)))
is_allowed h (BidKept now id m turn bid) =
    some_and (λ i. IsNextTurn now i m turn × IsCheckedBid i.creation.facts bid) (λ i. both (is_next_turn now i m turn) (is_checked_bid i.creation.facts bid)) (instance_at h id)
is_allowed h (Closed now id) =
    some_and (λ i. (i.closed ≡ false) × ((i.creation.deadline ≤ now) ⊎ All (λ bid. IsSome bid) i.bids))
    (λ i. both (is_not i.closed) (either (at_most i.creation.deadline now) (each (λ bid. IsSome bid) is_some_bid i.bids))) (instance_at h id)
is_allowed h (Withdrawn now id m turn) =
    some_and (λ i. IsNextTurn now i m turn × IsSome (kept_bid i m)) (λ i. both (is_next_turn now i m turn) (is_some_bid (kept_bid i m))) (instance_at h id)

can_apply : (h : HostView) (e : EventView) → Decision (CanApply h e)
can_apply h e = both (at_most h.moment (moment_of e)) (is_allowed h e)

is_of_version : (v : ℕ) (e : EventView) → Decision (IsOfVersion v e)
is_of_version v (Created moment c) = holds tt
is_of_version v (BidKept moment id member turn given) = holds tt
is_of_version v (Closed moment id) = holds tt
is_of_version v (Withdrawn moment id member turn) = equal v 2

-- what may be applied keeps its rules
keeps_rules : (h : HostView) (e : EventView) → CanApply h e → KeepsRules e
keeps_rules h (Created moment c) can =
    let checked = can.1.1 in
    record { facts = checked.facts; member_names = checked.member_names; item_names = checked.item_names; title = checked.title; members = checked.members; items = checked.items; tag = checked.tag; deadline = omega arith }
keeps_rules h (BidKept moment id member turn given) can = tt
keeps_rules h (Closed moment id) can = tt
keeps_rules h (Withdrawn moment id member turn) can = tt

-- a body is an event of this version that may be applied, or it is none
pub event_or_none : (v : ℕ) (h : HostView) (body : List ℕ) → IsBytes body → ((e : EventView) × Spells e body × IsOfVersion v e × CanApply h e) ⊎ IsNoEvent v h body
event_or_none v h body bytes = by_read (whole_at body) refl
  where
    by_fact : (e : EventView) → whole_at body ≡ Some e → Decision (IsOfVersion v e × CanApply h e) → ((e : EventView) × Spells e body × IsOfVersion v e × CanApply h e) ⊎ IsNoEvent v h body
    by_fact e read (holds (of, can)) = inl (e, whole_takes body e bytes read (keeps_rules h e can), of, can)
    by_fact e read (fails not) = inr (λ f spells of can.
        let one : e ≡ f = same_event body e (sym read) f spells in
        not (subst (IsOfVersion v) (sym one) of, subst (λ (g : EventView). CanApply h g) (sym one) can))

    by_read : (o : Option EventView) → whole_at body ≡ o → ((e : EventView) × Spells e body × IsOfVersion v e × CanApply h e) ⊎ IsNoEvent v h body
    by_read None read = inr (λ e spells of can. never body (sym read) e spells)
    by_read (Some e) read = by_fact e read (both (is_of_version v e) (can_apply h e))
