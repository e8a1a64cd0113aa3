-- What comes of the next head of a link.
use Rattle.std.specs.Prelude.{ℕ, ◌≤◌, List, Option, IfSome}
use Rattle.split_base.specs.declared.limits.TheConstants.{LAST_MOMENT}
use Rattle.serving.specs.Served.{HeardQuiet, HeardRefused, HeardRequest, LinkView, with_carry}
use Rattle.serving.specs.declared.turns.Heard.{Heard}
use Rattle.serving.specs.declared.turns.Heard.TheVariants as heard

-- what was heard on a link: told by the link before and after it, by the bytes that were read past the message, and by the answers of the clock
abbrev pub HearSays : (link : LinkView) (held : List ℕ) (now : LinkView) (asked : List (Option ℕ) → Type 0) → Heard → Type 0
HearSays link held now asked (heard.Quiet end) = HeardQuiet link now asked end
HearSays link held now asked (heard.Refused refusal answer bodiless) = HeardRefused link (with_carry held now) asked refusal answer bodiless
HearSays link held now asked (heard.Request head body moment) = HeardRequest link (with_carry held now) asked head body.items moment

-- the moment is one that a date can express
abbrev pub IsTimed : Heard → Type 0
IsTimed (heard.Quiet end) = Unit {0}
IsTimed (heard.Refused refusal answer bodiless) = IfSome answer (λ t. t ≤ LAST_MOMENT)
IsTimed (heard.Request head body moment) = moment ≤ LAST_MOMENT
