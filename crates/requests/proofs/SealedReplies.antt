-- Where the instance isn't closed after the step, no reply is a publication; so what is told is what the caller is told.
use Rattle.std.proofs.Common.{◌≡◌, ℕ, true, false, List, Option, Some, ap, sym, ◌∙◌, subst, true≢false}
use Rattle.reply_texts.specs.Contents.{ContentView}
use Rattle.sealed_core.specs.declared.commands.Ask.{Ask}
use Rattle.sealed_core.specs.declared.commands.Ask.TheVariants as asks
use Rattle.sealed_core.specs.declared.commands.What.{What}
use Rattle.sealed_core.specs.declared.replies.Reply.{Reply}
use Rattle.sealed_core.specs.declared.replies.Reply.TheVariants as reply
use Rattle.sealed_core.specs.Host.{HostView}
use Rattle.sealed_core.specs.Sealed.{host_after, is_closed}
use Rattle.sealed_core.specs.Step.{CommandView, To, step}
use Rattle.reply_texts.specs.Replies.{status_of}
use Rattle.reply_texts.specs.Sealing.{Told, told}
use Rattle.requests.specs.Replies.{Replies, Shows}
use Rattle.requests.specs.Sent.{status_and_text}

-- what is told by a reply with this text
abbrev told_with : Reply → Option (List ℕ) → Told
told_with r text = record { status = status_of r; text = text }

module _ (h : HostView)
    (asked_for : (t id : ℕ) (command : CommandView) (what : What) → (step h t command).reply ≡ reply.Publish id what → (key : List ℕ) × (command ≡ To id (Some key) (asks.Publish what)))
    (closed : (t id : ℕ) (command : CommandView) (what : What) → (step h t command).reply ≡ reply.Publish id what → is_closed (host_after h t command) id ≡ true)
  where
    same_instance : (id other : ℕ) (key : Option (List ℕ)) (shown : List ℕ) (ask : Ask) (what : What) → To id key ask ≡ To other (Some shown) (asks.Publish what) → other ≡ id
    same_instance id other key shown ask what e = cc

    pub sent_told : (t id : ℕ) (key : Option (List ℕ)) (ask : Ask) (content : ContentView) → is_closed (host_after h t (To id key ask)) id ≡ false
        → Replies h t (To id key ask) content → status_and_text content ≡ told h t (To id key ask)
    sent_told t id key ask content open_ (Shows.own bytes text is) =
        ap status_and_text is ∙ ap (told_with (step h t (To id key ask)).reply) (sym text)
    sent_told t id key ask content open_ (Shows.published other what i publishes there tells) =
        let (shown, command_is) = asked_for t other (To id key ask) what publishes in
        let shut : is_closed (host_after h t (To id key ask)) id ≡ true = subst (λ x. is_closed (host_after h t (To id key ask)) x ≡ true) (same_instance id other key shown ask what command_is) (closed t other (To id key ask) what publishes) in
        absurd (true≢false (sym shut ∙ open_))
