-- A head that is refused, as an answer.
use Rattle.std.proofs.Common.{◌≡◌, ℕ, Bool, List, Option, sym, subst}
use Rattle.serving.specs.declared.refusals.HeadRefusal.{HeadRefusal}
use Rattle.serving.specs.Served.{HeardRefused, LinkView, with_carry}
use Rattle.serving.specs.declared.turns.Heard.{Heard}
use Rattle.serving.specs.declared.turns.Heard.TheVariants as heards
use Rattle.serving.specs.Hears.{HearSays}

pub says_refused : (link : LinkView) (held : List ℕ) (now : LinkView) (asked : List (Option ℕ) → Type 0) (heard : Heard) (refusal : HeadRefusal) (answer : Option ℕ) (bodiless : Bool) → heard ≡ heards.Refused refusal answer bodiless
    → HeardRefused link (with_carry held now) asked refusal answer bodiless → HearSays link held now asked heard
says_refused link held now asked heard refusal answer bodiless is says = subst (λ (h : Heard). HearSays link held now asked h) (sym is) says
