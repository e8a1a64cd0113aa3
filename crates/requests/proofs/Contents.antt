-- What a publication tells, over the host after the event.
use Rattle.std.proofs.Common.{◌≡◌, ℕ, List, Option, None, Some, Result, Ok, Err, IfOk, IsSome, inl, inr, max, refl, sym, ap, subst, ◌∙◌, true≢false}
use Rattle.reply_texts.specs.declared.contents.ContentType.TheVariants.{Json}
use Rattle.reply_texts.specs.Contents.{ContentView, told_as}
use Rattle.publications.specs.Publications.{IsPublication, case_data}
use Rattle.reply_texts.specs.Replies.{status_of, text_of}
use Rattle.reply_texts.specs.Telling.{IsAnswered}
use Rattle.sealed_core.specs.declared.commands.Ask.TheVariants as asks
use Rattle.sealed_core.specs.declared.commands.What.{What}
use Rattle.sealed_core.specs.declared.replies.Reply.{Reply}
use Rattle.sealed_core.specs.declared.replies.Reply.TheVariants as reply
use Rattle.sealed_core.specs.Host.{Closed, EventView, HostView, InstanceView, apply, as_closed, instance_at}
use Rattle.sealed_core.specs.Sealed.{IsLateClose, with_event}
use Rattle.sealed_core.specs.Step.{Answer, CommandView, To, step}
use Rattle.requests.specs.Replies.{Shows}

-- what holds of a result
pub if_ok : {A E : Type 0} (r : Result A E) (P Q : A → Type 0) → ((a : A) → P a → Q a) → IfOk r P → IfOk r Q
if_ok (Ok a) P Q f p = f a p
if_ok (Err e) P Q f p = p

module _ (h : HostView) (closing : (now id : ℕ) (i : InstanceView) → instance_at h id ≡ Some i → instance_at (apply h (Closed now id)) id ≡ Some (as_closed i)) where
  -- the event is none, or closes the instance, of whose case that changes nothing
  shows_after : (t id : ℕ) (key : List ℕ) (asked : What) (i : InstanceView) (told : ContentView) (e : Option EventView) → instance_at h id ≡ Some i → IsPublication (case_data i) asked told
      → IsLateClose h t (To id (Some key) (asks.Publish asked)) e → Shows (with_event h e) (reply.Publish id asked) told
  shows_after t id key asked i told e there is (inl none) = subst (λ (x : Option EventView). Shows (with_event h x) (reply.Publish id asked) told) (sym none) (Shows.published id asked i refl there is)
  shows_after t id key asked i told e there is (inr (close, over)) = subst (λ (x : Option EventView). Shows (with_event h x) (reply.Publish id asked) told) (sym close)
      (Shows.published id asked (as_closed i) refl (closing (max t h.moment) id i there) is)

  pub shows_published : (asked_for : (t id : ℕ) (command : CommandView) (what : What) → (step h t command).reply ≡ reply.Publish id what → (key : List ℕ) × (command ≡ To id (Some key) (asks.Publish what)))
      → (late : (t id : ℕ) (command : CommandView) (what : What) → (step h t command).reply ≡ reply.Publish id what → IsLateClose h t command (step h t command).event)
      → (a : Answer) → IsAnswered h a → (id : ℕ) (asked : What) → a.reply ≡ reply.Publish id asked → (i : InstanceView) → instance_at h id ≡ Some i
      → (told : ContentView) → IsPublication (case_data i) asked told → Shows (with_event h a.event) a.reply told
  shows_published asked_for late a (t, command, right, is) id asked publishes i there told tells =
      let step_publishes : (step h t command).reply ≡ reply.Publish id asked = ap (λ (x : Answer). x.reply) (sym is) ∙ publishes in
      let (key, command_is) = asked_for t id command asked step_publishes in
      let close : IsLateClose h t command a.event = subst (λ (x : Answer). IsLateClose h t command x.event) (sym is) (late t id command asked step_publishes) in
      subst (λ (r : Reply). Shows (with_event h a.event) r told) (sym publishes)
      (shows_after t id key asked i told a.event there tells (subst (λ (x : CommandView). IsLateClose h t x a.event) command_is close))

-- the instance of a publication is there
pub published_stands : (h : HostView) (stands : (t id : ℕ) (command : CommandView) (what : What) → (step h t command).reply ≡ reply.Publish id what → IsSome (instance_at h id))
    → (a : Answer) → IsAnswered h a → (id : ℕ) (asked : What) → a.reply ≡ reply.Publish id asked → instance_at h id ≡ None → ⊥
published_stands h stands a (t, command, right, is) id asked publishes gone =
    let there : IsSome (instance_at h id) = stands t id command asked (ap (λ (x : Answer). x.reply) (sym is) ∙ publishes) in
    true≢false (sym (subst (λ (x : Option InstanceView). IsSome x) gone there))

-- a reply that has a text of its own
pub own_shows : (h : HostView) (r : Reply) (status : ℕ) (bytes : List ℕ) → status ≡ status_of r → text_of h r ≡ Some bytes → Shows h r (told_as status Json bytes)
own_shows h r status bytes is text = Shows.own bytes text (ap (λ (n : ℕ). told_as n Json bytes) is)
