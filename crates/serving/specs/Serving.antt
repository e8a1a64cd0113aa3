-- The host as a service of links.
use Rattle.std.specs.Prelude.{◌≡◌, ℕ, ◌==◌, Bool, Option, if◌then◌else◌}
use Rattle.split_base.specs.declared.disk.Disk.{Ghosts}
use Rattle.host_journal.specs.States.{HasState, Passes, State}
use Rattle.host_journal.specs.declared.serving.Serving.{Serving}
use Rattle.serving.specs.declared.refusals.HeadRefusal.{HeadRefusal}
use Rattle.serving.specs.declared.refusals.HeadRefusal.TheVariants as refusals
use Rattle.serving.specs.Dues.{DueView}
use Rattle.serving.specs.Runs.{Service}
use Rattle.reply_texts.specs.declared.refusals.ServiceRefusal.{ServiceRefusal}
use Rattle.reply_texts.specs.declared.refusals.ServiceRefusal.TheVariants as service
use Rattle.reply_texts.specs.declared.contents.ReplyContent.{ReplyContent}
use Rattle.requests.specs.Cases.{Responds}
use Rattle.reply_texts.specs.Contents.{ContentView, content_view, memory_told, refusal_told}
use Rattle.split_http.specs.declared.limits.TheConstants.{BAD_HOST, BAD_LENGTH, FRAMING, LENGTH_MISSING}

-- the refusal of a head by its number
abbrev pub stated_refusal : ℕ → ServiceRefusal
stated_refusal row =
    if row == BAD_HOST then service.BadHost
    else if row == FRAMING then service.Framing
    else if row == BAD_LENGTH then service.BadLength
    else if row == LENGTH_MISSING then service.LengthMissing
    else service.BodyTooLarge

-- what is said to a head that is refused
abbrev pub refusal_said : HeadRefusal → ContentView
refusal_said refusals.BadHead = refusal_told service.BadHead
refusal_said refusals.ClockFault = refusal_told service.ClockFault
refusal_said (refusals.Stated row) = refusal_told (stated_refusal row)
refusal_said refusals.Memory = memory_told

-- The host before its disk. The world is the disk and the state. While a request changes it, a crash at any moment leaves a file of the state
-- before or after.
abbrev pub host_service : {D : Type 0} → Ghosts D → Service (D × State)
host_service {D} d = record {
  refuses = refusal_said;
  responds = λ head body moment w new said. Responds d w.0 new.0 head body moment w.1 new.1 said × Passes d w.0 w.1 new.0 new.1;
}

-- this world is the disk and the state of the serving
abbrev pub StandsAt : {D : Type 0} → Ghosts D → Serving → D → D × State → Type 0
StandsAt d serving disk w = (w.0 ≡ disk) × HasState d serving disk w.1

-- what is due when this is said, in this manner
abbrev pub due_of : ReplyContent → Option ℕ → Bool → Bool → DueView
due_of said moment bodiless closes = record { said = content_view said; manner = record { moment = moment; bodiless = bodiless; closes = closes } }
