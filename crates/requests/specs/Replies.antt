-- What the reply to a request says, by its command and by the host after the event that goes with it.
use Rattle.std.specs.Prelude.{◌≡◌, ℕ, List, Some}
use Rattle.reply_texts.specs.declared.contents.ContentType.TheVariants.{Json}
use Rattle.reply_texts.specs.Contents.{ContentView, told_as}
use Rattle.publications.specs.Publications.{IsPublication, case_data}
use Rattle.reply_texts.specs.Replies.{status_of, text_of}
use Rattle.sealed_core.specs.declared.commands.What.{What}
use Rattle.sealed_core.specs.declared.replies.Reply.{Reply}
use Rattle.sealed_core.specs.declared.replies.Reply.TheVariants as reply
use Rattle.sealed_core.specs.Host.{HostView, InstanceView, instance_at}
use Rattle.sealed_core.specs.Sealed.{host_after}
use Rattle.sealed_core.specs.Step.{CommandView, step}

-- A reply with a text of its own gives it as JSON, with its status. A publication has none of its own: it says what is asked for about the
-- instance that it names.
pub data Shows (h : HostView) (r : Reply) (told : ContentView) : Type 0 where
  own : (bytes : List ℕ) → text_of h r ≡ Some bytes → told ≡ told_as (status_of r) Json bytes → Shows h r told
  published : (id : ℕ) (asked : What) (i : InstanceView) → r ≡ reply.Publish id asked → instance_at h id ≡ Some i → IsPublication (case_data i) asked told → Shows h r told

-- what the reply to a command at a moment says
abbrev pub Replies : HostView → ℕ → CommandView → ContentView → Type 0
Replies h t command told = Shows (host_after h t command) (step h t command).reply told
