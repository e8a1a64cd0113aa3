-- What is told of an instance that isn't closed is written from the caller's view.
use Rattle.std.proofs.Common.{◌≡◌, ℕ, max, Bool, true, false, not, ◌&&◌, ◌==◌, List, [], ◌∷◌, if◌then◌else◌, Option, None, Some, option_map, refl, ap, sym, subst, ◌∙◌, true≢false}
use Rattle.std.proofs.lemmas.Bool.{cond_both, eqb-true, not-false}
use Rattle.serde_json.specs.Written.{compact_text}
use Rattle.bid_rules.specs.declared.bids.Bid.{Bid}
use Rattle.sealed_core.specs.declared.commands.Ask.{Ask}
use Rattle.sealed_core.specs.declared.replies.Refusal.TheVariants as refusal
use Rattle.sealed_core.specs.declared.replies.Reply.{Reply}
use Rattle.sealed_core.specs.declared.replies.Reply.TheVariants as reply
use Rattle.sealed_core.specs.Host.{EventView, HostView, InstanceView, Closed, instance_at, kept_bid, kept_turn}
use Rattle.sealed_core.specs.Sealed.{Asked, Caller, View, with_event, caller_number, caller_with, heard, heard_of, host_after, is_closed, is_shut, next, public_of, same_caller, view, view_of, views}
use Rattle.sealed_core.specs.Step.{Answer, CommandView, Create, To, Standing, standing_of, refused, answer_ask, answer_caller, is_over, may_ask, answer_to, caller_by, caller_in, holder, step}
use Rattle.reply_texts.specs.Replies.{of_created, of_own, of_reply, of_status, status_of, text_of}
use Rattle.reply_texts.specs.Sealing.{IsSealedText, ShowSame, Told, own_of, sealed_told, told, told_all, told_in, told_of, value_in}
use Rattle.reply_texts.proofs.After.{closed_at}
use Rattle.reply_texts.proofs.Answered.{good_ask}

-- the view of a caller of an instance that is found
abbrev seen : HostView → Option InstanceView → Caller → View
seen h found caller = view_of h.moment found caller

-- the value over the host after an event is the one that follows from the view before
abbrev FollowsIn : HostView → ℕ → View → Option EventView → Reply → Type 0
FollowsIn h id v e r = is_closed (with_event h e) id ≡ false → of_reply (with_event h e) r ≡ value_in v r

-- a member's own turn and bid, found and seen
own_seen : (h : HostView) (id m : ℕ) (i : InstanceView) → instance_at h id ≡ Some i → of_reply h (reply.Own id m) ≡ value_in (seen h (Some i) (Some m)) (reply.Own id m)
own_seen h id m i there = ap (option_map (λ (i : InstanceView). of_own (kept_turn i m) (kept_bid i m))) there

-- before the deadline the event is the answer's own
follows_before : (h : HostView) (now id m : ℕ) (i : InstanceView) → instance_at h id ≡ Some i → (s : Standing) (ask : Ask) → may_ask m ask ≡ true
    → of_reply (with_event h (answer_ask now id m s ask).event) (answer_ask now id m s ask).reply ≡ value_in (seen h (Some i) (Some m)) (answer_ask now id m s ask).reply
follows_before h now id m i there s ask may =
    good_ask (λ r. of_reply (with_event h (answer_ask now id m s ask).event) r ≡ value_in (seen h (Some i) (Some m)) r) (λ r. refl) (λ turn. refl) refl (λ id what. refl) now id m s ask may
    (λ status. ap (λ (a : Ask). of_reply (with_event h (answer_ask now id m s a).event) (reply.Status id m)) status ∙ ap (λ (o : Option InstanceView). option_map (of_status id m) (option_map public_of o)) there)
    (λ own some. ap (λ (a : Ask). of_reply (with_event h (answer_ask now id m s a).event) (reply.Own id m)) own ∙ own_seen h id m i there)

-- of whatever a caller asks
follows_caller : (h : HostView) (now id m : ℕ) (ask : Ask) (i : InstanceView) → instance_at h id ≡ Some i
    → FollowsIn h id (seen h (Some i) (Some m)) (answer_caller now id ask i m).event (answer_caller now id ask i m).reply
follows_caller h now id m ask i there =
    let after : Answer = record { event = Some (Closed now id); reply = (answer_ask now id m (standing_of i m true) ask).reply } in
    let before : Answer = answer_ask now id m (standing_of i m i.closed) ask in
    let second : Answer = if is_over now i then after else before in
    let G : Answer → Type 0 = λ a. FollowsIn h id (seen h (Some i) (Some m)) a.event a.reply in
    cond_both (not (may_ask m ask)) (refused refusal.Role) second G (λ _ _. refl) (λ may.
    cond_both (is_over now i) after before G
    (λ _ open_. absurd (true≢false (sym (ap is_shut (closed_at h now id i there)) ∙ open_)))
    (λ _ _. follows_before h now id m i there (standing_of i m i.closed) ask (not-false (may_ask m ask) may)))

-- of a command under a key
follows_holder : (h : HostView) (now id : ℕ) (ask : Ask) (i : InstanceView) → instance_at h id ≡ Some i → (who : Option ℕ)
    → FollowsIn h id (seen h (Some i) who) (answer_to now id ask (caller_by i who)).event (answer_to now id ask (caller_by i who)).reply
follows_holder h now id ask i there None = λ _. refl
follows_holder h now id ask i there (Some m) = follows_caller h now id m ask i there

-- of a command on an instance
follows_instance : (h : HostView) (now id : ℕ) (key : Option (List ℕ)) (ask : Ask) (found : Option InstanceView) → instance_at h id ≡ found
    → FollowsIn h id (seen h found (caller_with h.secret id found key)) (answer_to now id ask (caller_in h.secret id found key)).event (answer_to now id ask (caller_in h.secret id found key)).reply
follows_instance h now id key ask None is = λ _. refl
follows_instance h now id None ask (Some i) is = λ _. refl
follows_instance h now id (Some key) ask (Some i) is = follows_holder h now id ask i is (holder h.secret id i key)

-- what is told of an instance that isn't closed after the step follows from the view and the reply
pub told_is : (h : HostView) (t id : ℕ) (key : Option (List ℕ)) (ask : Ask) → is_closed (host_after h t (To id key ask)) id ≡ false
    → told h t (To id key ask) ≡ told_in (view h id (caller_number h id key)) (step h t (To id key ask)).reply
told_is h t id key ask open_ =
    let value = follows_instance h (max t h.moment) id key ask (instance_at h id) refl open_ in
    λ i. record { status = status_of (step h t (To id key ask)).reply; text = option_map compact_text (value i) }

-- the text over the host after the event is that of the sealed reply, where what is told is
pub sealed_text : (h : HostView)
    → ((t id : ℕ) (key : Option (List ℕ)) (ask : Ask) → is_closed (host_after h t (To id key ask)) id ≡ false → told h t (To id key ask) ≡ sealed_told (view h id (caller_number h id key)) t id key ask)
    → (a : Answer) (text : List ℕ) → text_of (with_event h a.event) a.reply ≡ Some text → IsSealedText h a text
sealed_text h law a text there t id key ask is =
    subst (λ (b : Answer). text_of (with_event h b.event) b.reply ≡ Some text → is_closed (with_event h b.event) id ≡ false → sealed_told (view h id (caller_number h id key)) t id key ask ≡ record { status = status_of b.reply; text = Some text })
    (sym is) (λ said open_. sym (law t id key ask open_) ∙ (λ i. record { status = status_of (step h t (To id key ask)).reply; text = said i })) there

-- ---- runs

-- what is told at a step, from the view and what is heard
abbrev pub tell : View → Option Reply → Option Told
tell v None = None
tell v (Some r) = Some (told_in v r)

-- what is told in a run, from the views and what is heard
abbrev pub tells : List View → List (Option Reply) → List (Option Told)
tells [] heard = []
tells (v ∷ views) [] = []
tells (v ∷ views) (r ∷ heard) = tell v r ∷ tells views heard

-- callers that pass as equal are equal
same_is : (a b : Caller) → same_caller a b ≡ true → a ≡ b
same_is None None is = refl
same_is None (Some m) is = absurd (true≢false (sym is))
same_is (Some k) None is = absurd (true≢false (sym is))
same_is (Some k) (Some m) is = ap Some (eqb-true k m is)

-- a choice of what is told and heard
chosen : (same mine : Bool) (x : Told) (r : Reply) (v : View) → (same ≡ true → mine ≡ true → x ≡ told_in v r) → (if same && mine then Some x else None) ≡ tell v (if same && mine then Some r else None)
chosen false mine x r v is = refl
chosen true false x r v is = refl
chosen true true x r v is = ap Some (is refl refl)

-- what is told at a step that leaves the instance open
told_heard : (h : HostView) (id : ℕ) (caller : Caller) (t : ℕ) (command : CommandView) → is_closed (host_after h t command) id ≡ false → told_of h id caller t command ≡ tell (view h id caller) (heard_of h id caller t command)
told_heard h id caller t (Create body) open_ = refl
told_heard h id caller t (To other key ask) open_ =
    chosen (other == id) (same_caller (caller_number h other key) caller) (told h t (To other key ask)) (step h t (To other key ask)).reply (view h id caller) (λ same mine.
    let is = eqb-true other id same in
    told_is h t other key ask (subst (λ k. is_closed (host_after h t (To other key ask)) k ≡ false) (sym is) open_)
    ∙ ap (λ (c : Caller). told_in (view h other c) (step h t (To other key ask)).reply) (same_is (caller_number h other key) caller mine)
    ∙ ap (λ (k : ℕ). told_in (view h k caller) (step h t (To other key ask)).reply) is)

-- a list that ends where another does
until : (shut : Bool) (x : Option Told) (xs : List (Option Told)) (v : View) (vs : List View) (r : Option Reply) (rs : List (Option Reply)) → (shut ≡ false → x ≡ tell v r) → xs ≡ tells vs rs
    → (if shut then [] else x ∷ xs) ≡ tells (if shut then [] else v ∷ vs) (if shut then [] else r ∷ rs)
until true x xs v vs r rs first rest = refl
until false x xs v vs r rs first rest = λ i. first refl i ∷ rest i

-- what is told in a run follows from the views and what is heard
pub told_run : (h : HostView) (id : ℕ) (caller : Caller) (run : List Asked) → told_all h id caller run ≡ tells (views h id caller run) (heard h id caller run)
told_run h id caller [] = refl
told_run h id caller (a ∷ run) =
    until (is_closed (next h a) id) _ _ (view h id caller) _ (heard_of h id caller a.moment a.command) _ (told_heard h id caller a.moment a.command) (told_run (next h a) id caller run)

-- ---- what texts show

-- an own bid, from turn and bid
own_shown : (m : ℕ) (found : Option InstanceView) → option_map (λ (i : InstanceView). of_own (kept_turn i m) (kept_bid i m)) found ≡ option_map (λ (own : ℕ × Option Bid). of_own own.0 own.1) (option_map (own_of m) found)
own_shown m None = refl
own_shown m (Some i) = refl

-- hosts that show the same in a reply give it one value
value_shown : (g h : HostView) (r : Reply) → ShowSame g h r → of_reply g r ≡ of_reply h r
value_shown g h (reply.Created id) same = λ i. option_map (of_created (same.0 i) id) (same.1 i)
value_shown g h (reply.Status id you) same = ap (option_map (of_status id you)) same
value_shown g h (reply.Kept turn) same = refl
value_shown g h (reply.Own id m) same =
    own_shown m (instance_at g id)
    ∙ ap (option_map (λ (own : ℕ × Option Bid). of_own own.0 own.1)) same
    ∙ sym (own_shown m (instance_at h id))
value_shown g h reply.Closed same = refl
value_shown g h (reply.Publish id what) same = refl
value_shown g h (reply.Refused r) same = refl

-- and one text
pub text_shown : (g h : HostView) (r : Reply) → ShowSame g h r → option_map compact_text (of_reply g r) ≡ option_map compact_text (of_reply h r)
text_shown g h r same = ap (option_map compact_text) (value_shown g h r same)
