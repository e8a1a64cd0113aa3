-- From the run of a link or a port to its requests.
use Rattle.std.proofs.Common.{◌≡◌, ℕ, zero, suc, ◌==◌, Bool, false, List, [], ◌∷◌, ◌++◌, Option, Some, refl, sym, ap, ◌∙◌, subst, inl, inr, append_assoc}
use Rattle.split_http.specs.declared.head.Head.{Head}
use Rattle.split_http.specs.Turns.{interim_of}
use Rattle.serving.specs.declared.refusals.HeadRefusal.{HeadRefusal}
use Rattle.serving.specs.Dues.{AreBytes, DueView, IsPartOf, closes, manner_of}
use Rattle.serving.specs.Ends.{Ending}
use Rattle.serving.specs.Exchanges.{Answered, EndsLink, Exchange, IsExchange, IsWhole, LinkExchanges, input_of, refused_due, written_of}
use Rattle.serving.specs.declared.limits.TheConstants.{MAX_REQUESTS}
use Rattle.serving.specs.Ports.{PortRun}
use Rattle.serving.specs.Served.{LinkTells}
use Rattle.serving.proofs.Hearing.{never_closes}
use Rattle.serving.specs.Runs.{After, Asks, LinkRun, Refuses, Replies, Run, Service, end_of}
use Rattle.reply_texts.specs.Contents.{ContentView}

module _ {W : Type 0} (service : Service W) where
  -- after no request
  ends_at : (all : List ℕ) (answers : List (Option ℕ)) (w : W) (out : List ℕ) (new : W) (end : Ending) → EndsLink service w all answers out new end → LinkExchanges service all answers w out new end
  ends_at all answers w out new end ends = record {
    exchanges = [];
    rest = all;
    late = answers;
    behind = out;
    mid = w;
    input = refl;
    clock = refl;
    wrote = refl;
    answered = refl;
    whole = tt;
    ends = ends;
  }

  -- after one request more
  one_more : (e : Exchange W) (all rest : List ℕ) (answers later : List (Option ℕ)) (w : W) (out tail : List ℕ) (new : W) (end : Ending) → IsExchange service e → e.before ≡ w → IsWhole e → closes e.due ≡ false
      → all ≡ (e.text ++ e.body) ++ rest → answers ≡ Some e.moment ∷ later → out ≡ e.got ++ tail → LinkExchanges service rest later e.after tail new end → LinkExchanges service all answers w out new end
  one_more e all rest answers later w out tail new end is same whole open_still input clock wrote x = record {
    exchanges = e ∷ x.exchanges;
    rest = x.rest;
    late = x.late;
    behind = x.behind;
    mid = x.mid;
    input = input ∙ ap (λ l. (e.text ++ e.body) ++ l) x.input ∙ sym (append_assoc (e.text ++ e.body) (input_of x.exchanges) x.rest);
    clock = clock ∙ ap (λ l. Some e.moment ∷ l) x.clock;
    wrote = wrote ∙ ap (λ l. e.got ++ l) x.wrote ∙ sym (append_assoc e.got (written_of x.exchanges) x.behind);
    answered = (same, is, x.answered);
    whole = (whole, open_still, x.whole);
    ends = x.ends;
  }

  -- a head that is refused ends the link
  refused_run : (more : Run W) (all rest : List ℕ) (answer : Option ℕ) (answers later : List (Option ℕ)) (w mid : W) (interim tail out : List ℕ) (new : W) (end : Ending) (refusal : HeadRefusal) (bodiless : Bool) (due : DueView)
      → Refuses all rest answer refusal bodiless → interim ≡ [] → mid ≡ w → due ≡ refused_due service refusal answer bodiless → answers ≡ answer ∷ later → out ≡ interim ++ tail
      → After more rest later mid due tail new end → EndsLink service w all answers out new end
  refused_run more all rest answer answers later w mid interim tail out new end refusal bodiless due r none same is asked wrote (After.torn bytes no_more are part still torn) =
      EndsLink.refused rest answer refusal bodiless bytes r (asked ∙ ap (λ l. answer ∷ l) no_more) (still ∙ same) (subst (λ d. AreBytes d bytes) is are)
      (inr (subst (λ o. IsPartOf bytes o) (sym (wrote ∙ ap (λ i. i ++ tail) none)) part, torn))
  refused_run more all rest answer answers later w mid interim tail out new end refusal bodiless due r none same is asked wrote (After.over closed no_more are still ends) =
      EndsLink.refused rest answer refusal bodiless tail r (asked ∙ ap (λ l. answer ∷ l) no_more) (still ∙ same) (subst (λ d. AreBytes d tail) is are)
      (inl (wrote ∙ ap (λ i. i ++ tail) none, ends ∙ ap end_of is))
  refused_run more all rest answer answers later w mid interim tail out new end refusal bodiless due r none same is asked wrote (After.on bytes next open_still are rest_is goes) =
      absurd (never_closes (service.refuses refusal).memory (sym (ap closes is) ∙ open_still))

  module _ (last : Bool) (all rest : List ℕ) (w mid : W) (head : Head) (body : List ℕ) (moment : ℕ) (said : ContentView) (asks : Asks all rest head body) (responds : service.responds head body moment w mid said) where
    -- the request that was answered, with the bytes of its reply and what was written of them
    abbrev exchange : List ℕ → List ℕ → Exchange W
    exchange bytes part = record {
      text = asks.text;
      head = head;
      body = body;
      moment = moment;
      before = w;
      after = mid;
      due = record { said = said; manner = manner_of last head moment };
      bytes = bytes;
      got = interim_of head.expects ++ part;
    }

    is_exchange : (bytes part : List ℕ) → AreBytes (record { said = said; manner = manner_of last head moment }) bytes → IsExchange service (exchange bytes part)
    is_exchange bytes part are = record {
      says = asks.says;
      accepted = asks.accepted;
      size = asks.size;
      responds = responds;
      manner = (last, refl);
      are_bytes = are;
    }

    answered_run : (n : ℕ) (answer : Option ℕ) (answers later : List (Option ℕ)) (interim tail out : List ℕ) (new : W) (end : Ending) (due : DueView) → answer ≡ Some moment → interim ≡ interim_of head.expects
        → due ≡ record { said = said; manner = manner_of last head moment } → answers ≡ answer ∷ later → out ≡ interim ++ tail
        → ((next : List ℕ) → LinkRun service n rest later mid next new end → LinkExchanges service rest later mid next new end)
        → After (LinkRun service n) rest later mid due tail new end → LinkExchanges service all answers w out new end
    answered_run n answer answers later interim tail out new end due came line is asked wrote goes (After.torn bytes no_more are part still torn) =
        ends_at all answers w out new end (EndsLink.replied rest (exchange bytes tail) (asks.bytes ∙ sym (append_assoc asks.text body rest))
        (asked ∙ ap (λ a. a ∷ later) came ∙ ap (λ l. Some moment ∷ l) no_more) refl (is_exchange bytes tail (subst (λ d. AreBytes d bytes) is are)) still
        (wrote ∙ ap (λ i. i ++ tail) line) (inr ((tail, part, refl), torn)))
    answered_run n answer answers later interim tail out new end due came line is asked wrote goes (After.over closed no_more are still ends) =
        ends_at all answers w out new end (EndsLink.replied rest (exchange tail tail) (asks.bytes ∙ sym (append_assoc asks.text body rest))
        (asked ∙ ap (λ a. a ∷ later) came ∙ ap (λ l. Some moment ∷ l) no_more) refl (is_exchange tail tail (subst (λ d. AreBytes d tail) is are)) still
        (wrote ∙ ap (λ i. i ++ tail) line) (inl (refl, sym (ap closes is) ∙ closed, ends ∙ ap end_of is)))
    answered_run n answer answers later interim tail out new end due came line is asked wrote goes (After.on bytes next open_still are rest_is run) =
        one_more (exchange bytes bytes) all rest answers later w out next new end (is_exchange bytes bytes (subst (λ d. AreBytes d bytes) is are)) refl refl
        (sym (ap closes is) ∙ open_still) (asks.bytes ∙ sym (append_assoc asks.text body rest)) (asked ∙ ap (λ a. a ∷ later) came)
        (wrote ∙ ap (λ i. i ++ tail) line ∙ ap (λ t. interim_of head.expects ++ t) rest_is ∙ sym (append_assoc (interim_of head.expects) bytes next)) (goes next run)

  replies_run : (n : ℕ) (last : Bool) (all rest : List ℕ) (answer : Option ℕ) (answers later : List (Option ℕ)) (w mid : W) (interim tail out : List ℕ) (new : W) (end : Ending) (due : DueView)
      → answers ≡ answer ∷ later → out ≡ interim ++ tail → ((next : List ℕ) → LinkRun service n rest later mid next new end → LinkExchanges service rest later mid next new end)
      → After (LinkRun service n) rest later mid due tail new end → Replies service last all rest answer w interim mid due → LinkExchanges service all answers w out new end
  replies_run n last all rest answer answers later w mid interim tail out new end due asked wrote goes after (Replies.refused refusal bodiless r none same is) =
      ends_at all answers w out new end (refused_run (LinkRun service n) all rest answer answers later w mid interim tail out new end refusal bodiless due r none same is asked wrote after)
  replies_run n last all rest answer answers later w mid interim tail out new end due asked wrote goes after (Replies.answered head body moment said asks came line responds is) =
      answered_run last all rest w mid head body moment said asks responds n answer answers later interim tail out new end due came line is asked wrote goes after

  pub exchanges_of : (n : ℕ) (all : List ℕ) (answers : List (Option ℕ)) (w : W) (out : List ℕ) (new : W) (end : Ending) → LinkRun service n all answers w out new end → LinkExchanges service all answers w out new end
  exchanges_of zero all answers w out new end run = absurd run
  exchanges_of (suc n) all answers w out new end (inl (stops, same)) = ends_at all answers w out new end (EndsLink.quiet stops same)
  exchanges_of (suc n) all answers w out new end (inr h) =
      replies_run n (n == 0) all h.rest h.answer answers h.later w h.mid h.interim h.tail out new end h.due h.asked h.wrote (λ next run. exchanges_of n h.rest h.later h.mid next new end run) h.after h.replies

  -- the requests of a run, the last one too
  pub answered_join : (a : W) (first : List (Exchange W)) (b : W) (second : List (Exchange W)) (c : W) → Answered service a first b → Answered service b second c → Answered service a (first ++ second) c
  answered_join a [] b second c same q = subst (λ (x : W). Answered service x second c) same q
  answered_join a (e ∷ first) b second c (at, is, p) q = (at, is, answered_join e.after first b second c p q)

  answered_end : (w : W) (rest : List ℕ) (answers : List (Option ℕ)) (out : List ℕ) (new : W) (end : Ending) → EndsLink service w rest answers out new end → (es : List (Exchange W)) × Answered service w es new
  answered_end w rest answers out new end (EndsLink.replied left e a b at is still c f) = (e ∷ [], (at, is, still))
  answered_end w rest answers out new end (EndsLink.refused left answer refusal bodiless bytes a b still c f) = ([], still)
  answered_end w rest answers out new end (EndsLink.quiet stops still) = ([], still)

  answered_run_of : (n : ℕ) (all : List ℕ) (answers : List (Option ℕ)) (w : W) (out : List ℕ) (new : W) (end : Ending) → LinkRun service n all answers w out new end
      → (es : List (Exchange W)) × Answered service w es new
  answered_run_of n all answers w out new end run =
      let x = exchanges_of n all answers w out new end run in
      let ends = answered_end x.mid x.rest x.late x.behind new end x.ends in
      (x.exchanges ++ ends.0, answered_join w x.exchanges x.mid ends.0 new x.answered ends.1)

  -- over the links of a port
  pub port_answered : {L : Type 0} (tells : LinkTells L) (links : List (L × L)) (answers : List (Option ℕ)) (w new : W) → PortRun service tells links answers w new
      → (run : List (Exchange W)) × Answered service w run new
  port_answered tells [] answers w new p = ([], p.1)
  port_answered tells (link ∷ links) answers w new (now, later, mid, is, served, rest) =
      let first = answered_run_of MAX_REQUESTS served.input now w served.out mid served.ending served.run in
      let others = port_answered tells links later mid new rest in
      (first.0 ++ others.0, answered_join w first.0 mid others.0 new first.1 others.1)
