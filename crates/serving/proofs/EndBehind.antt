-- The end after a reply.
use Rattle.std.proofs.Common.{◌≡◌, Bool, true, false, Some, ap, sym, if◌then◌else◌, ◌||◌}
use Rattle.serving.specs.declared.ends.LinkEnd.TheVariants as ends
use Rattle.serving.specs.Dues.{DueView, closes}
use Rattle.serving.specs.Ends.{Ending, end_as}
use Rattle.serving.specs.Served.{EndsBehind}

pub ends_memory : (due : DueView) → due.said.memory ≡ true → EndsBehind due (Some ends.Memory)
ends_memory due is = (ap (λ (b : Bool). b || due.manner.closes) is, sym (ap (λ (b : Bool). end_as (if b then Ending.memory else Ending.ended)) is))

pub ends_closed : (due : DueView) → closes due ≡ true → due.said.memory ≡ false → EndsBehind due (Some ends.Ended)
ends_closed due closed is = (closed, sym (ap (λ (b : Bool). end_as (if b then Ending.memory else Ending.ended)) is))
