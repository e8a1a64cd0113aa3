-- What is told in reply to a step is a text with its status, and nothing besides.
use Rattle.std.proofs.Common.{◌≡◌, ◌⊎◌, ℕ, List, refl, sym, subst, ⊎_elim}
use Rattle.publications.specs.Publications.{IsPublication, case_data}
use Rattle.reply_texts.specs.declared.contents.ContentType.{ContentType}
use Rattle.reply_texts.specs.declared.contents.ContentType.TheVariants.{Json}
use Rattle.reply_texts.specs.declared.refusals.ServiceRefusal.{ServiceRefusal}
use Rattle.reply_texts.specs.Contents.{ContentView, refusal_told, told_as}
use Rattle.reply_texts.specs.Refusals.{service_row, service_text}
use Rattle.reply_texts.specs.Replies.{status_of}
use Rattle.sealed_core.specs.declared.commands.What.{What}
use Rattle.sealed_core.specs.declared.replies.Reply.{Reply}
use Rattle.sealed_core.specs.Host.{HostView}
use Rattle.split_json.specs.Reading.{CaseData}
use Rattle.requests.specs.Replies.{Shows}

-- what is a text with a status is told by its own status, type and text
told_alone : (told : ContentView) (status : ℕ) (type : ContentType) (text : List ℕ) → told ≡ told_as status type text → told ≡ told_as told.status told.content_type told.text
told_alone told status type text is = subst (λ (x : ContentView). x ≡ told_as x.status x.content_type x.text) (sym is) refl

pub shown_alone : ((given : CaseData) (asked : What) (told : ContentView) → IsPublication given asked told
    → (told ≡ told_as 200 told.content_type told.text) ⊎ ((refusal : ServiceRefusal) × (told ≡ refusal_told refusal)))
    → (h : HostView) (r : Reply) (told : ContentView) → Shows h r told → told ≡ told_as told.status told.content_type told.text
shown_alone publishes h r told (Shows.own bytes text is) = told_alone told (status_of r) Json bytes is
shown_alone publishes h r told (Shows.published id asked i was found so) =
    ⊎_elim (λ success. told_alone told 200 told.content_type told.text success)
    (λ refused. told_alone told (service_row refused.0).status Json (service_text refused.0) refused.1) (publishes (case_data i) asked told so)
