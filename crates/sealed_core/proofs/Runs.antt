-- Two runs that a caller cannot tell apart: under the caller's veil their hosts are one.
use Rattle.std.proofs.Common.{◌≡◌, ◌≢◌, ℕ, zero, suc, ◌+◌, ◌-◌, ◌≤◌, inl, inr, max, Bool, true, false, ◌&&◌, ◌==◌, List, [], ◌∷◌, if◌then◌else◌, Option, None, Some, option_map, slice_get, refl, sym, ap, ◌∙◌, subst, arith, true≢false}
use Rattle.std.proofs.lemmas.Bool.{eqb-true}
use Rattle.bid_rules.specs.declared.bids.Bid.{Bid}
use Rattle.bid_rules.specs.declared.bids.Bid.TheVariants.{Place}
use Rattle.sealed_core.specs.declared.commands.Ask.{Ask}
use Rattle.sealed_core.specs.declared.replies.Reply.{Reply}
use Rattle.sealed_core.specs.Host.{InstanceView, HostView, EventView, BidKept, instance_at, kept_turn, apply}
use Rattle.sealed_core.specs.Step.{CommandView, Create, To, step}
use Rattle.sealed_core.specs.Sealed.{Caller, View, public_of, view_of, view, own_turn, own_bid, caller_number, sealed_reply, is_shut, is_closed, with_event, host_after, Asked, next, same_caller, heard_of, heard, views, KeepsBid, AreAlike, RunAlike}
use Rattle.sealed_core.specs.Veil.{shown_in, veil, as_seen_by}
use Rattle.sealed_core.proofs.Veil.{is_own, bid_seen, event_seen, other_place, have_bid_veiled, own_bid_veiled, from_place, instance_veiled, shown_own, apply_veiled}
use Rattle.sealed_core.proofs.SameEvents.{step_veiled, caller_veiled}
use Rattle.sealed_core.proofs.Fits.{Fits, IsBy, step_fits}
use Rattle.sealed_core.proofs.Sealing.{sealed}

-- ---- what the veil lets through of a host

-- whether an instance is closed shows through the veil
shut_veiled : (c : Caller) (found : Option InstanceView) → is_shut (option_map (as_seen_by c) found) ≡ is_shut found
shut_veiled c None = refl
shut_veiled c (Some i) = refl

-- so it does by id
closed_veiled : (id : ℕ) (c : Caller) (h : HostView) (k : ℕ) → is_closed (veil id c h) k ≡ is_closed h k
closed_veiled id c h k = ap is_shut (instance_veiled id c h k) ∙ shut_veiled (shown_in id c k) (instance_at h k)

-- so does the turn of every member
turn_veiled : (c : Caller) (m : ℕ) (found : Option InstanceView) → own_turn (option_map (as_seen_by c) found) (Some m) ≡ own_turn found (Some m)
turn_veiled c m None = refl
turn_veiled c m (Some i) = refl

-- and the caller's own turn
own_turn_veiled : (c d : Caller) (found : Option InstanceView) → own_turn (option_map (as_seen_by c) found) d ≡ own_turn found d
own_turn_veiled c None None = refl
own_turn_veiled c (Some m) None = refl
own_turn_veiled c None (Some i) = refl
own_turn_veiled c (Some m) (Some i) = refl

-- and the caller's own bid
own_bid_of : (c : Caller) (found : Option InstanceView) → own_bid (option_map (as_seen_by c) found) c ≡ own_bid found c
own_bid_of c None = refl
own_bid_of None (Some i) = refl
own_bid_of (Some m) (Some i) = own_bid_veiled m i

-- and the public facts
public_veiled : (c : Caller) (found : Option InstanceView) → option_map public_of (option_map (as_seen_by c) found) ≡ option_map public_of found
public_veiled c None = refl
public_veiled c (Some i) = λ j. Some (record {
  title = i.creation.title;
  members = i.creation.members;
  items = i.creation.items;
  facts = i.creation.facts;
  deadline = i.creation.deadline;
  closed = i.closed;
  have_bid = have_bid_veiled c i.bids j;
})

-- so all that the caller may know does
view_of_veiled : (c : Caller) (moment : ℕ) (found : Option InstanceView) → view_of moment (option_map (as_seen_by c) found) c ≡ view_of moment found c
view_of_veiled c moment found = λ j. record { caller = c; public = public_veiled c found j; moment = moment; turn = own_turn_veiled c c found j; bid = own_bid_of c found j }

-- the same of the caller's own instance, by its id
view_veiled : (id : ℕ) (c : Caller) (h : HostView) → view (veil id c h) id c ≡ view h id c
view_veiled id c h =
    ap (λ (found : Option InstanceView). view_of h.moment found c) (instance_veiled id c h id ∙ ap (λ (d : Caller). option_map (as_seen_by d) (instance_at h id)) (shown_own id c))
    ∙ view_of_veiled c h.moment (instance_at h id)

-- ---- two hosts that are one under the veil

module _ (id : ℕ) (c : Caller) (g h : HostView) (twins : veil id c g ≡ veil id c h) where
  -- what the veil lets through is one in both
  through : {A : Type 0} (f : HostView → A) → ((x : HostView) → f (veil id c x) ≡ f x) → f g ≡ f h
  through f is = sym (is g) ∙ ap f twins ∙ is h

  -- one command has one event
  same_event : (t : ℕ) (command : CommandView) → (step g t command).event ≡ (step h t command).event
  same_event t command = through (λ (x : HostView). (step x t command).event) (λ x. step_veiled id c x t command)

  -- the same instances are closed
  same_closed : (k : ℕ) → is_closed g k ≡ is_closed h k
  same_closed k = through (λ (x : HostView). is_closed x k) (λ x. closed_veiled id c x k)

  -- the caller's views of their own instance are equal
  same_view : view g id c ≡ view h id c
  same_view = through (λ (x : HostView). view x id c) (λ x. view_veiled id c x)

  -- a key has one holder
  same_number : (k : ℕ) (key : Option (List ℕ)) → caller_number g k key ≡ caller_number h k key
  same_number k key = through (λ (x : HostView). caller_number x k key) (λ x. caller_veiled id c x k key)

  -- each member has one kept turn
  same_turn : (k m : ℕ) → own_turn (instance_at g k) (Some m) ≡ own_turn (instance_at h k) (Some m)
  same_turn k m =
      through (λ (x : HostView). own_turn (instance_at x k) (Some m))
      (λ x. ap (λ (found : Option InstanceView). own_turn found (Some m)) (instance_veiled id c x k) ∙ turn_veiled (shown_in id c k) m (instance_at x k))

  -- the greatest moments are equal
  same_moment : g.moment ≡ h.moment
  same_moment = ap (λ (x : HostView). x.moment) twins

  -- events that are seen as one keep the hosts one
  twins_apply : (e f : EventView) → event_seen id c e ≡ event_seen id c f → veil id c (apply g e) ≡ veil id c (apply h f)
  twins_apply e f same = apply_veiled id c g e ∙ (λ i. apply (twins i) (same i)) ∙ sym (apply_veiled id c h f)

  -- one event keeps the hosts one
  twins_applied : (e : Option EventView) → veil id c (with_event g e) ≡ veil id c (with_event h e)
  twins_applied None = twins
  twins_applied (Some e) = twins_apply e e refl

  -- so does one command
  twins_step : (t : ℕ) (command : CommandView) → veil id c (host_after g t command) ≡ veil id c (host_after h t command)
  twins_step t command = ap (λ (e : Option EventView). veil id c (with_event g e)) (same_event t command) ∙ twins_applied (step h t command).event

  -- a reply to the caller
  reply_if : (same mine : Bool) (r s : Reply) → (same ≡ true → mine ≡ true → r ≡ s) → (if same && mine then Some r else None) ≡ (if same && mine then Some s else None)
  reply_if false mine r s is = refl
  reply_if true false r s is = refl
  reply_if true true r s is = ap Some (is refl refl)

-- callers that pass as equal are equal
same_caller_is : (a b : Caller) → same_caller a b ≡ true → a ≡ b
same_caller_is None None is = refl
same_caller_is None (Some m) is = absurd (true≢false (sym is))
same_caller_is (Some k) None is = absurd (true≢false (sym is))
same_caller_is (Some k) (Some m) is = ap Some (eqb-true k m is)

-- a command of the caller gets one reply
heard_if : (id : ℕ) (c : Caller) (g h : HostView) (twins : veil id c g ≡ veil id c h) (t : ℕ) (other : ℕ) (key : Option (List ℕ)) (ask : Ask)
    → is_closed (host_after g t (To other key ask)) id ≡ false → (other ≡ id) → caller_number g other key ≡ c
    → (step g t (To other key ask)).reply ≡ (step h t (To other key ask)).reply
heard_if id c g h twins t other key ask stays is mine =
    let stays_g : is_closed (host_after g t (To other key ask)) other ≡ false = subst (λ (k : ℕ). is_closed (host_after g t (To other key ask)) k ≡ false) (sym is) stays in
    let stays_h : is_closed (host_after h t (To other key ask)) other ≡ false = sym (same_closed id c (host_after g t (To other key ask)) (host_after h t (To other key ask)) (twins_step id c g h twins t (To other key ask)) other) ∙ stays_g in
    let yours : caller_number h other key ≡ c = sym (same_number id c g h twins other key) ∙ mine in
    let seen : view g other c ≡ view h other c = subst (λ (k : ℕ). view g k c ≡ view h k c) (sym is) (same_view id c g h twins) in
    sealed g t other key ask stays_g
    ∙ ap (λ (d : Caller). sealed_reply (view g other d) t other key ask) mine
    ∙ ap (λ (v : View). sealed_reply v t other key ask) seen
    ∙ sym (ap (λ (d : Caller). sealed_reply (view h other d) t other key ask) yours)
    ∙ sym (sealed h t other key ask stays_h)

-- an equal step is heard alike
heard_equal : (id : ℕ) (c : Caller) (g h : HostView) (twins : veil id c g ≡ veil id c h) (t : ℕ) (command : CommandView) → is_closed (host_after g t command) id ≡ false
    → heard_of g id c t command ≡ heard_of h id c t command
heard_equal id c g h twins t (Create body) stays = refl
heard_equal id c g h twins t (To other key ask) stays =
    reply_if id c g h twins (other == id) (same_caller (caller_number g other key) c) (step g t (To other key ask)).reply (step h t (To other key ask)).reply
    (λ same mine. heard_if id c g h twins t other key ask stays (eqb-true other id same) (same_caller_is (caller_number g other key) c mine))
    ∙ ap (λ (d : Caller). if (other == id) && same_caller d c then Some (step h t (To other key ask)).reply else None) (same_number id c g h twins other key)

-- a step of another member, or on another instance, is not heard
unheard_if : (same : Bool) (d c : Caller) (m : ℕ) (r : Reply) → d ≡ Some m → (same ≡ true → c ≢ Some m) → (mine : Bool) → mine ≡ same_caller d c → (if same && mine then Some r else None) ≡ None
unheard_if false d c m r is other mine that = refl
unheard_if true d c m r is other true that = absurd (other refl (sym (same_caller_is d c (sym that)) ∙ is))
unheard_if true d c m r is other false that = refl

-- a command that is not the caller's own on their instance is not heard
unheard : (c : Caller) (h : HostView) (id k m t : ℕ) (command : CommandView) → IsBy h k m command → (k ≡ id → c ≢ Some m) → heard_of h id c t command ≡ None
unheard c h id k m t (Create body) by other = absurd by
unheard c h id k m t (To asked key ask) by other =
    unheard_if (asked == id) (caller_number h asked key) c m (step h t (To asked key ask)).reply by.1 (λ here. other (sym by.0 ∙ eqb-true asked id here)) (same_caller (caller_number h asked key) c) refl

-- another member is not at the caller's place
not_own : (c : Caller) (m : ℕ) → 1 ≤ m → (c ≢ Some m) → is_own c (m - 1) ≡ false
not_own None m some other = refl
not_own (Some zero) m some other = refl
not_own (Some (suc k)) m some other = other_place (m - 1) k (λ is. other (let same : suc k ≡ m = omega (arith, is) in ap Some same))

-- nor is anyone in another instance
not_shown : (here : Bool) (c : Caller) (m : ℕ) → 1 ≤ m → (here ≡ true → c ≢ Some m) → is_own (if here then c else None) (m - 1) ≡ false
not_shown true c m some other = not_own c m some (other refl)
not_shown false c m some other = refl

-- a bid that is not the caller's own is seen as any
chosen : (c : Caller) (m : ℕ) (a b : Bid) (own : Bool) → own ≡ false → (if own then a else Place 0) ≡ (if own then b else Place 0)
chosen c m a b true is = absurd (true≢false is)
chosen c m a b false is = refl

-- the next turn is told from the kept one
turn_of : (h : HostView) (id m turn : ℕ) (i : InstanceView) → instance_at h id ≡ Some i → turn ≡ kept_turn i m + 1 → turn ≡ own_turn (instance_at h id) (Some m) + 1
turn_of h id m turn i there is = is ∙ sym (ap (λ (found : Option InstanceView). own_turn found (Some m) + 1) there)

-- an instance that is there has no id 0
found_if : (none : Bool) (found : Option InstanceView) (i : InstanceView) → (if none then None else found) ≡ Some i → none ≡ false
found_if true found i there = absurd (cc)
found_if false found i there = refl

-- two new bids of one member at one moment, not the caller's own on their instance, leave the hosts one
twins_bids : (id : ℕ) (c : Caller) (g h : HostView) (twins : veil id c g ≡ veil id c h) (k m : ℕ) (a b : Asked) → a.moment ≡ b.moment → (k ≡ id → c ≢ Some m) → KeepsBid g k m a → KeepsBid h k m b
    → (veil id c (next g a) ≡ veil id c (next h b)) × (heard_of g id c a.moment a.command ≡ heard_of h id c b.moment b.command)
twins_bids id c g h twins k m a b same other (now, turn, given, is) (now', turn', given', is') =
    let f : Fits g a.moment a.command (Some (BidKept now k m turn given)) = subst (Fits g a.moment a.command) is (step_fits g a.moment a.command) in
    let f' : Fits h b.moment b.command (Some (BidKept now' k m turn' given')) = subst (Fits h b.moment b.command) is' (step_fits h b.moment b.command) in
    let moments : now ≡ now' = f.0 ∙ (λ i. max (same i) (same_moment id c g h twins i)) ∙ sym f'.0 in
    let turns : turn ≡ turn' = turn_of g k m turn f.2.0 f.2.1 f.2.2.next ∙ ap (λ (n : ℕ). n + 1) (same_turn id c g h twins k m) ∙ sym (turn_of h k m turn' f'.2.0 f'.2.1 f'.2.2.next) in
    let there : 1 + (k - 1) ≡ k = from_place k (found_if (k == 0) (slice_get g.instances (k - 1)) f.2.0 f.2.1) in
    let hides : is_own (shown_in id c (1 + (k - 1))) (m - 1) ≡ false =
    not_shown ((1 + (k - 1)) == id) c m f.2.2.least (λ here. other (sym there ∙ eqb-true (1 + (k - 1)) id here)) in
    let bids : bid_seen (shown_in id c (1 + (k - 1))) (m - 1) given ≡ bid_seen (shown_in id c (1 + (k - 1))) (m - 1) given' = chosen c m given given' (is_own (shown_in id c (1 + (k - 1))) (m - 1)) hides in
    let seen : event_seen id c (BidKept now k m turn given) ≡ event_seen id c (BidKept now' k m turn' given') = λ i. BidKept (moments i) k m (turns i) (bids i) in (
      ap (λ (e : Option EventView). veil id c (with_event g e)) is ∙ twins_apply id c g h twins (BidKept now k m turn given) (BidKept now' k m turn' given') seen ∙ sym (ap (λ (e : Option EventView). veil id c (with_event h e)) is'),
      unheard c g id k m a.moment a.command f.1 other ∙ sym (unheard c h id k m b.moment b.command f'.1 other),
    )

-- one pair of steps: the hosts stay one, and where the instance stays open it is heard alike
twins_next : (id : ℕ) (c : Caller) (g h : HostView) (twins : veil id c g ≡ veil id c h) (a b : Asked) → AreAlike g h id c a b
    → (veil id c (next g a) ≡ veil id c (next h b)) × (is_closed (next g a) id ≡ false → heard_of g id c a.moment a.command ≡ heard_of h id c b.moment b.command)
twins_next id c g h twins a b (inl same) = (
  twins_step id c g h twins a.moment a.command ∙ ap (λ (x : Asked). veil id c (next h x)) same,
  λ stays. heard_equal id c g h twins a.moment a.command stays ∙ ap (λ (x : Asked). heard_of h id c x.moment x.command) same,
)
twins_next id c g h twins a b (inr (same, (k, m, other, one, two))) =
    let both = twins_bids id c g h twins k m a b same other one two in (both.0, λ stays. both.1)

-- two lists that end together and are equal step by step are equal
until : {A : Type 0} (shut shut' : Bool) (x y : A) (xs ys : List A) → shut ≡ shut' → (shut ≡ false → x ≡ y) → xs ≡ ys → (if shut then [] else x ∷ xs) ≡ (if shut' then [] else y ∷ ys)
until true true x y xs ys same is rest = refl
until true false x y xs ys same is rest = absurd (true≢false same)
until false true x y xs ys same is rest = absurd (true≢false (sym same))
until false false x y xs ys same is rest = λ i. is refl i ∷ rest i

-- two runs alike from hosts that are one under the veil are heard alike
pub heard_alike : (id : ℕ) (c : Caller) (run others : List Asked) (g h : HostView) → veil id c g ≡ veil id c h → RunAlike g h id c run others → heard g id c run ≡ heard h id c others
heard_alike id c [] [] g h twins alike = refl
heard_alike id c [] (b ∷ others) g h twins alike = absurd alike
heard_alike id c (a ∷ run) [] g h twins alike = absurd alike
heard_alike id c (a ∷ run) (b ∷ others) g h twins alike =
    let one = twins_next id c g h twins a b alike.0 in
    until (is_closed (next g a) id) (is_closed (next h b) id) _ _ _ _ (same_closed id c (next g a) (next h b) one.0 id) one.1
    (heard_alike id c run others (next g a) (next h b) one.0 alike.1)

-- and the caller's views are equal at each step
pub views_alike : (id : ℕ) (c : Caller) (run others : List Asked) (g h : HostView) → veil id c g ≡ veil id c h → RunAlike g h id c run others → views g id c run ≡ views h id c others
views_alike id c [] [] g h twins alike = refl
views_alike id c [] (b ∷ others) g h twins alike = absurd alike
views_alike id c (a ∷ run) [] g h twins alike = absurd alike
views_alike id c (a ∷ run) (b ∷ others) g h twins alike =
    let one = twins_next id c g h twins a b alike.0 in
    until (is_closed (next g a) id) (is_closed (next h b) id) _ _ _ _ (same_closed id c (next g a) (next h b) one.0 id) (λ stays. same_view id c g h twins)
    (views_alike id c run others (next g a) (next h b) one.0 alike.1)
