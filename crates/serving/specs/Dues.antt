-- The replies that are due, and their bytes.
use Rattle.std.specs.Prelude.{◌≡◌, ◌<◌, ℕ, Bool, true, false, ◌||◌, List, length, ◌++◌, Option, Some}
use Rattle.split_http.specs.declared.head.Head.{Head}
use Rattle.split_http.specs.declared.head.Verb.{Verb}
use Rattle.split_http.specs.declared.head.Verb.TheVariants as verb
use Rattle.reply_texts.specs.Contents.{ContentView, is_plain}
use Rattle.split_http.specs.declared.replies.HttpReply.{HttpReply}
use Rattle.split_http.specs.Replies.{IsReply}

-- how a reply is given: at which moment, whether its body is left out, and whether the connection is closed after it
pub record Manner : Type 0 where
  pub moment : Option ℕ
  pub bodiless : Bool
  pub closes : Bool

-- a reply that is due: what it says, and how it is given
pub record DueView : Type 0 where
  pub said : ContentView
  pub manner : Manner

-- the method is HEAD, whose reply has no body
abbrev pub is_head : Verb → Bool
is_head verb.Head = true
is_head verb.Get = false
is_head verb.Post = false
is_head verb.Other = false

-- the reply to a head that came at a moment; the last one of a link closes it
abbrev pub manner_of : Bool → Head → ℕ → Manner
manner_of last head moment = record { moment = Some moment; bodiless = is_head head.verb; closes = head.closes || last }

-- a reply that closes the connection
abbrev pub closing : Option ℕ → Bool → Manner
closing moment bodiless = record { moment = moment; bodiless = bodiless; closes = true }

-- the connection is closed after the reply
abbrev pub closes : DueView → Bool
closes due = due.said.memory || due.manner.closes

-- the reply says what is due
pub record SaysDue (due : DueView) (reply : HttpReply) : Type 0 where
  pub status : reply.status ≡ due.said.status
  pub text : reply.text.now ≡ due.said.text
  pub plain : reply.plain ≡ is_plain due.said.content_type
  pub moment : reply.moment ≡ due.manner.moment
  pub allow : reply.allow ≡ due.said.allow
  pub bodiless : reply.bodiless ≡ due.manner.bodiless
  pub close : reply.close ≡ closes due

-- the bytes of what is due
abbrev pub AreBytes : DueView → List ℕ → Type 0
AreBytes due bytes = (reply : HttpReply) × SaysDue due reply × IsReply reply bytes

-- a first part of the bytes, of which at least one is missing at the end
abbrev pub IsPartOf : List ℕ → List ℕ → Type 0
IsPartOf whole part = (rest : List ℕ) × (whole ≡ part ++ rest) × (0 < length rest)
