-- What a reply tells: its HTTP status, its text with its type, the methods that it lists, and whether it says that memory ran out.
use Rattle.std.specs.Prelude.{ℕ, Bool, List, Option, true, false, Some, None}
use Rattle.reply_texts.specs.declared.contents.ContentType.{ContentType}
use Rattle.reply_texts.specs.declared.contents.ContentType.TheVariants.{Json, Plain}
use Rattle.reply_texts.specs.declared.contents.ReplyContent.{ReplyContent}
use Rattle.reply_texts.specs.declared.contents.ReplyText.{ReplyText}
use Rattle.reply_texts.specs.declared.contents.ReplyText.TheVariants as text
use Rattle.reply_texts.specs.declared.refusals.ServiceRefusal.{ServiceRefusal}
use Rattle.reply_texts.specs.declared.refusals.ServiceRefusal.TheVariants as service
use Rattle.reply_texts.specs.Refusals.{service_row, service_text}
use Rattle.split_http.specs.declared.replies.Allow.{Allow}

-- the type is that of plain text
abbrev pub is_plain : ContentType → Bool
is_plain Json = false
is_plain Plain = true

-- the HTTP status of a reply, the type of its text, the bytes of the text, the methods that are told, and whether it says that memory ran out
pub record ContentView : Type 0 where
  pub status : ℕ
  pub content_type : ContentType
  pub text : List ℕ
  pub allow : Option Allow
  pub memory : Bool

-- the bytes of a text that was written, or is lent
abbrev pub bytes_of : ReplyText → List ℕ
bytes_of (text.Written bytes) = bytes.items
bytes_of (text.Lent bytes) = bytes.now
bytes_of (text.Short bytes) = bytes.items

-- what a reply tells, as its bytes
abbrev pub content_view : ReplyContent → ContentView
content_view told = record { status = told.status; content_type = told.content_type; text = bytes_of told.text; allow = told.allow; memory = told.memory }

-- a text of this type is told with this status, and nothing besides
abbrev pub told_as : ℕ → ContentType → List ℕ → ContentView
told_as status type text = record { status = status; content_type = type; text = text; allow = None; memory = false }

-- a refusal of the service: the status of its row, and its text as JSON
abbrev pub refusal_told : ServiceRefusal → ContentView
refusal_told refusal = told_as (service_row refusal).status Json (service_text refusal)

-- the refusal of a method, with those that the route has
abbrev pub method_told : Allow → ContentView
method_told allow = record { status = (service_row service.Method).status; content_type = Json; text = service_text service.Method; allow = Some allow; memory = false }

-- it is told that memory ran out
abbrev pub memory_told : ContentView
memory_told = record { status = (service_row service.Memory).status; content_type = Json; text = service_text service.Memory; allow = None; memory = true }
