-- What a reply names is there after the event too, so each reply except a publication has a text.
use Rattle.std.proofs.Common.{◌≡◌, ℕ, ◌≤◌, inl, inr, max, false, length, is_some, Option, None, Some, option_map, refl, ap, sym, subst, true≢false}
use Rattle.std.specs.Prelude.{IsSome, IsSomeAnd, List}
use Rattle.sealed_core.specs.declared.commands.Ask.TheVariants as asks
use Rattle.sealed_core.specs.declared.commands.What.{What}
use Rattle.sealed_core.specs.declared.replies.Reply.{Reply}
use Rattle.sealed_core.specs.declared.replies.Reply.TheVariants as reply
use Rattle.sealed_core.specs.Host.{EventView, HostView, InstanceView, instance_at}
use Rattle.sealed_core.specs.Sealed.{IsLateClose, with_event}
use Rattle.sealed_core.specs.Step.{CommandView, To}
use Rattle.reply_texts.specs.Replies.{text_of}
use Rattle.reply_texts.specs.Telling.{IsCloseOf, Tells, is_publication}
use Rattle.reply_texts.proofs.After.{closed_at, new_at}

-- what is mapped is there
mapped : {A B : Type 0} (f : A → B) (o : Option A) → IsSome o → IsSome (option_map f o)
mapped f None there = there
mapped f (Some x) there = refl

-- so is what holds a fact
holding : {A : Type 0} (P : A → Type 0) (o : Option A) → IsSomeAnd o P → IsSome o
holding P None it = absurd it
holding P (Some x) it = refl

-- an instance that is found
found_stays : (h : HostView) (e : Option EventView) (id : ℕ) → IsCloseOf e id → (found : Option InstanceView) → instance_at h id ≡ found → IsSome found → IsSome (instance_at (with_event h e) id)
found_stays h e id close None is there = absurd (true≢false (sym there))
found_stays h e id (inl none) (Some i) is there = subst (λ (e : Option EventView). IsSome (instance_at (with_event h e) id)) (sym none) (ap is_some is)
found_stays h e id (inr (now, close)) (Some i) is there = subst (λ (e : Option EventView). IsSome (instance_at (with_event h e) id)) (sym close) (ap is_some (closed_at h now id i is))

-- an instance is there after its close, or after no event
stays : (h : HostView) (e : Option EventView) (id : ℕ) → IsCloseOf e id → IsSome (instance_at h id) → IsSome (instance_at (with_event h e) id)
stays h e id close there = found_stays h e id close (instance_at h id) refl there

-- each reply except a publication has a text where what it names is there
pub text_there : (h : HostView) (e : Option EventView) (r : Reply) → is_publication r ≡ false → Tells h e r → IsSome (text_of (with_event h e) r)
text_there h e (reply.Created id) never (inl (there, none)) = mapped _ _ (mapped _ _ (mapped _ _ (subst (λ (e : Option EventView). IsSome (instance_at (with_event h e) id)) (sym none) there)))
text_there h e (reply.Created id) never (inr (now, c, made, is)) =
    mapped _ _ (mapped _ _ (mapped _ _ (subst (λ (e : Option EventView). IsSome (instance_at (with_event h e) id)) (sym made) (ap is_some (new_at h now c id is)))))
text_there h e (reply.Status id you) never tells = mapped _ _ (mapped _ _ (mapped _ _ (stays h e id tells.1 tells.0)))
text_there h e (reply.Kept turn) never tells = refl
text_there h e (reply.Own id m) never tells = mapped _ _ (mapped _ _ (stays h e id tells.2 (holding (λ i. m ≤ length i.creation.members) (instance_at h id) tells.1)))
text_there h e reply.Closed never tells = refl
text_there h e (reply.Publish id what) never tells = absurd (true≢false never)
text_there h e (reply.Refused r) never tells = refl

-- the event beside a publication is none or the close of what is published
pub close_of : (h : HostView) (t id : ℕ) (command : CommandView) (what : What) (e : Option EventView) → ((key : List ℕ) × (command ≡ To id (Some key) (asks.Publish what))) → IsLateClose h t command e → IsCloseOf e id
close_of h t id command what e (key, asked) late = by_cases (subst (λ (c : CommandView). IsLateClose h t c e) asked late)
  where
    by_cases : IsLateClose h t (To id (Some key) (asks.Publish what)) e → IsCloseOf e id
    by_cases (inl none) = inl none
    by_cases (inr close) = inr (max t h.moment, close.0)

-- what is told of publications and of all other replies is told of each
pub tells_each : (h : HostView) (e : Option EventView) (r : Reply) → ((id : ℕ) (what : What) → r ≡ reply.Publish id what → IsSome (instance_at h id) × IsCloseOf e id)
    → (is_publication r ≡ false → Tells h e r) → Tells h e r
tells_each h e (reply.Created id) published others = others refl
tells_each h e (reply.Status id you) published others = others refl
tells_each h e (reply.Kept turn) published others = others refl
tells_each h e (reply.Own id m) published others = others refl
tells_each h e reply.Closed published others = others refl
tells_each h e (reply.Publish id what) published others = published id what refl
tells_each h e (reply.Refused r) published others = others refl
