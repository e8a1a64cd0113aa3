-- How long a journal is at most: each record takes of what its instance may still have.
use Rattle.std.proofs.Common.{◌≡◌, ℕ, zero, suc, ◌+◌, ◌-◌, ◌*◌, ◌<◌, ◌≤◌, ◌==◌, Bool, true, false, List, [], ◌∷◌, ◌++◌, map, length, get_or, if◌then◌else◌, is_some, Option, None, Some, IsSomeAnd, All, slice_get, refl, ap, sym, subst, ◌∙◌, arith, true≢false, unwrap_or}
use Rattle.std.proofs.Math.Dec.{eqb-suc-zero}
use Rattle.std.proofs.lemmas.List.{length-set, length-replicate, length_push}
use Rattle.std.proofs.lemmas.List.Elements.{All-head, All-tail, All-push, All-replicate, All-set}
use Rattle.std.proofs.lemmas.List.Sums.{sum_by-append, sum_by-cons, sum_by-set}
use Rattle.std.specs.List.{sum_by}
use Rattle.bid_rules.specs.declared.bids.Bid.{Bid}
use Rattle.bid_rules.specs.declared.bids.Facts.{Facts}
use Rattle.bid_rules.specs.declared.bids.Facts.TheVariants as facts
use Rattle.bid_rules.specs.Facts.{IsCheckedFacts, member_count}
use Rattle.gate_log.specs.Records.{place_after}
use Rattle.sealed_core.specs.Host.{InstanceView, HostView, EventView, Created, BidKept, Closed, Withdrawn, CreationView, IsCheckedCreation, IsNextTurn, CanApply, instance_at, kept_turn, new_instance, with_turn, as_closed, change, change_at, apply}
use Rattle.sealed_core.specs.Runs.{CanApplyAll}
use Rattle.sealed_core.specs.Sealed.{empty}
use Rattle.host_journal.specs.Spelling.{IsEvent, spelling}
use Rattle.host_journal.specs.Journal.{AreKept}
use Rattle.host_journal.proofs.Sizes.{bid_record, close_record, create_record, withdrawal_record}

-- an instance has few members, and each of them at most twenty turns
record IsSmall (i : InstanceView) : Type 0 where
  members : length i.turns ≡ length i.creation.members
  few : length i.creation.members ≤ 12
  used : All (λ turn. turn ≤ 20) i.turns

-- so a host has few of both
record IsSmallHost (instances : List InstanceView) : Type 0 where
  each : All IsSmall instances
  few : length instances ≤ 1000

-- the bytes of a close that was kept
abbrev closing : Bool → ℕ
closing true = 18
closing false = 0

-- the bytes of an instance's records are no more than this: its creation, its turns so far, and its close
unfoldable spent : InstanceView → ℕ
spent i = 2000 + 118 * sum_by (λ turn. turn) i.turns + closing i.closed

-- checked facts name few members
few_members : (f : Facts) → IsCheckedFacts f → member_count f ≤ 12
few_members (facts.Rent rent) checked = omega (arith, checked.0.1)
few_members (facts.Goods goods) checked = omega (arith, checked.counts.1)
few_members (facts.Fares fares) checked = omega (arith, checked.shape.members_high)

-- a sum of numbers that are at most twenty
sum_most : (numbers : List ℕ) → All (λ n. n ≤ 20) numbers → sum_by (λ n. n) numbers ≤ 20 * length numbers
sum_most [] all = omega arith
sum_most (n ∷ numbers) all = omega (arith, sum_by-cons (λ (k : ℕ). k) n numbers, All-head (λ k. k ≤ 20) n numbers all, sum_most numbers (All-tail (λ k. k ≤ 20) n numbers all))

-- an instance's records never take more than this
spent_most : (i : InstanceView) → IsSmall i → spent i ≤ 30338
unfolding spent
spent_most i small = by_closed i.closed
  where
    by_closed : (b : Bool) → 2000 + 118 * sum_by (λ turn. turn) i.turns + closing b ≤ 30338
    by_closed true = omega (arith, sum_most i.turns small.used, small.members, small.few)
    by_closed false = omega (arith, sum_most i.turns small.used, small.members, small.few)

-- nor do those of a host
all_most : (instances : List InstanceView) → All IsSmall instances → sum_by spent instances ≤ 30338 * length instances
all_most [] all = omega arith
all_most (i ∷ instances) all = omega (arith, sum_by-cons spent i instances, spent_most i (All-head IsSmall i instances all), all_most instances (All-tail IsSmall i instances all))

-- a change at a place leaves the length
length-changed : (f : InstanceView → InstanceView) (instances : List InstanceView) (p : ℕ) → length (change_at f instances p) ≡ length instances
length-changed f [] p = refl
length-changed f (i ∷ instances) zero = refl
length-changed f (i ∷ instances) (suc p) = ap suc (length-changed f instances p)

-- a change of an instance that stays small leaves all small
each_changed : (f : InstanceView → InstanceView) (instances : List InstanceView) (p : ℕ) → All IsSmall instances → ((i : InstanceView) → slice_get instances p ≡ Some i → IsSmall i → IsSmall (f i)) → All IsSmall (change_at f instances p)
each_changed f [] p each new k d there = absurd (omega arith)
each_changed f (i ∷ instances) zero each new zero d there = new i refl (each zero d (omega arith))
each_changed f (i ∷ instances) zero each new (suc k) d there = each (suc k) d (omega (arith, there))
each_changed f (i ∷ instances) (suc p) each new zero d there = each zero d (omega arith)
each_changed f (i ∷ instances) (suc p) each new (suc k) d there = each_changed f instances p (λ j e below. each (suc j) e (omega (arith, below))) new k d (omega (arith, there))

-- what a change at a place makes of a sum
sum_changed : (f : InstanceView → InstanceView) (instances : List InstanceView) (p : ℕ) (i : InstanceView) → slice_get instances p ≡ Some i → sum_by spent (change_at f instances p) + spent i ≡ sum_by spent instances + spent (f i)
sum_changed f [] p i is = absurd (true≢false (sym (ap is_some is)))
sum_changed f (x ∷ instances) zero i is =
    let one : x ≡ i = ap (λ (o : Option InstanceView). unwrap_or o i) is in
    omega (arith, sum_by-cons spent x instances, sum_by-cons spent (f x) instances, ap spent one, ap (λ (y : InstanceView). spent (f y)) one)
sum_changed f (x ∷ instances) (suc p) i is = omega (arith, sum_by-cons spent x instances, sum_by-cons spent x (change_at f instances p), sum_changed f instances p i is)

-- what holds of some value, with the value
found : (o : Option InstanceView) (P : InstanceView → Type 0) → IsSomeAnd o P → (i : InstanceView) × (o ≡ Some i) × P i
found None P p = absurd p
found (Some x) P p = (x, refl, p)

-- an instance that is found has a place
at_if : (none : Bool) (instances : List InstanceView) (p : ℕ) (i : InstanceView) → (if none then None else slice_get instances p) ≡ Some i → slice_get instances p ≡ Some i
at_if true instances p i is = absurd (true≢false (sym (ap is_some is)))
at_if false instances p i is = is

-- the instances after an event, and how much more they may have taken
record Takes (before after : List InstanceView) (size : ℕ) : Type 0 where
  small : IsSmallHost after
  sum : sum_by spent before + size ≤ sum_by spent after

-- a change of the instance with an id
change_takes : (h : HostView) (id size : ℕ) (f : InstanceView → InstanceView) (P : InstanceView → Type 0) → IsSmallHost h.instances → IsSomeAnd (instance_at h id) P
    → ((i : InstanceView) → IsSmall i → P i → IsSmall (f i) × (spent i + size ≤ spent (f i))) → Takes h.instances (change f h.instances id) size
change_takes h id size f P small asked grows =
    let (i, is, right) = found (instance_at h id) P asked in
    let at = at_if (id == 0) h.instances (id - 1) i is in
    let same : (j : InstanceView) → slice_get h.instances (id - 1) ≡ Some j → i ≡ j = λ j here. ap (λ (o : Option InstanceView). unwrap_or o j) (sym at ∙ here) in
    let own : IsSmall i = small_at h.instances (id - 1) i small.each at in
    let more = grows i own right in
    record {
      small = record {
        each = each_changed f h.instances (id - 1) small.each (λ j here was. subst (λ (k : InstanceView). IsSmall (f k)) (same j here) more.0);
        few = omega (arith, length-changed f h.instances (id - 1), small.few);
      };
      sum = omega (arith, sum_changed f h.instances (id - 1) i at, more.1);
    }
  where
    small_at : (instances : List InstanceView) (p : ℕ) (i : InstanceView) → All IsSmall instances → slice_get instances p ≡ Some i → IsSmall i
    small_at [] p i all is = absurd (true≢false (sym (ap is_some is)))
    small_at (x ∷ instances) zero i all is = subst IsSmall (ap (λ (o : Option InstanceView). unwrap_or o i) is) (All-head IsSmall x instances all)
    small_at (x ∷ instances) (suc p) i all is = small_at instances p i (All-tail IsSmall x instances all) is

-- the turn of a member
kept_at : (i : InstanceView) (m : ℕ) → 1 ≤ m → kept_turn i m ≡ get_or i.turns (m - 1) 0
kept_at i zero least = absurd (omega (arith, least))
kept_at i (suc m) least = ap (λ (b : Bool). if b then 0 else get_or i.turns (suc m - 1) 0) (eqb-suc-zero m)

-- a member's next turn
turn_takes : (now m turn : ℕ) (bid : Option Bid) (i : InstanceView) → IsSmall i → IsNextTurn now i m turn → IsSmall (with_turn m turn bid i) × (spent i + 118 ≤ spent (with_turn m turn bid i))
unfolding spent
turn_takes now m turn bid i small next = (
  record { members = length-set i.turns (m - 1) turn ∙ small.members; few = small.few; used = All-set (λ t. t ≤ 20) i.turns (m - 1) turn (omega (arith, next.used)) small.used },
  omega (
    arith,
    sum_by-set (λ (t : ℕ). t) i.turns (m - 1) turn 0 (omega (arith, next.least, next.most, small.members)),
    next.next,
    kept_at i m next.least,
  ),
)

-- a close
close_takes : (i : InstanceView) → IsSmall i → i.closed ≡ false → IsSmall (as_closed i) × (spent i + 18 ≤ spent (as_closed i))
unfolding spent
close_takes i small open_ = (
  record { members = small.members; few = small.few; used = small.used },
  (let none : closing i.closed ≡ 0 = ap closing open_ in omega (arith, none)),
)

-- a new instance
fresh_takes : (h : HostView) (c : CreationView) → IsSmallHost h.instances → length h.instances < 1000 → IsCheckedCreation c → Takes h.instances (h.instances ++ new_instance c ∷ []) 2000
unfolding spent
fresh_takes h c small room checked = record {
  small = record {
    each = All-push IsSmall h.instances (new_instance c) small.each (record {
      members = length-replicate (length c.members) 0;
      few = omega (arith, checked.member_names, few_members c.facts checked.facts);
      used = All-replicate (λ (t : ℕ). t ≤ 20) (length c.members) 0 (omega arith);
    });
    few = omega (arith, length_push h.instances (new_instance c), room);
  };
  sum = omega (arith, sum_by-append spent h.instances (new_instance c ∷ []), sum_by-cons spent (new_instance c) []);
}

-- an event takes no more than its record's size
event_takes : (h : HostView) (e : EventView) → IsSmallHost h.instances → IsEvent e → CanApply h e → Takes h.instances (apply h e).instances (5 + length (spelling e))
event_takes h (Created now c) small is can =
    let t = fresh_takes h c small can.1.0 can.1.1 in
    record { small = t.small; sum = omega (arith, t.sum, create_record now c is.1) }
event_takes h (BidKept now id m turn given) small is can =
    let t = change_takes h id 118 (with_turn m turn (Some given)) _ small can.1 (λ i own right. turn_takes now m turn (Some given) i own right.0) in
    record { small = t.small; sum = omega (arith, t.sum, bid_record now id m turn given is.4) }
event_takes h (Closed now id) small is can =
    let t = change_takes h id 18 as_closed _ small can.1 (λ i own right. close_takes i own right.0) in
    record { small = t.small; sum = omega (arith, t.sum, close_record now id) }
event_takes h (Withdrawn now id m turn) small is can =
    let t = change_takes h id 118 (with_turn m turn None) _ small can.1 (λ i own right. turn_takes now m turn None i own right.0) in
    record { small = t.small; sum = omega (arith, t.sum, withdrawal_record now id m turn) }

-- the records of events that were applied in turn
all_take : (h : HostView) (events : List EventView) → IsSmallHost h.instances → All IsEvent events → CanApplyAll h events
    → sum_by (λ body. 5 + length body) (map spelling events) + sum_by spent h.instances ≤ 30338000
all_take h [] small is can = omega (arith, all_most h.instances small.each, small.few)
all_take h (e ∷ events) small is (can, rest) =
    let t = event_takes h e small (All-head IsEvent e events is) can in
    omega (arith, t.sum, all_take (apply h e) events t.small (All-tail IsEvent e events is) rest, sum_by-cons (λ (body : List ℕ). 5 + length body) (spelling e) (map spelling events))

-- the gate after the records of events that were kept
pub kept_place : (version : ℕ) (secret : List ℕ) (events : List EventView) → AreKept version secret events → place_after (map spelling events) < 40000000
kept_place version secret events kept =
    omega (arith, all_take (empty secret) events (record { each = λ k d there. absurd (omega (arith, there)); few = omega arith }) kept.each kept.may_apply)
