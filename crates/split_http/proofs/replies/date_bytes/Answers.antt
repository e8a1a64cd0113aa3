use Rattle.std.proofs.Common.{subst, sym, Option, ℕ}
use Rattle.split_http.specs.Replies.{IsDateLine}
use Rattle.split_http.proofs.replies.date_bytes.Goals as goal

pub returns-in-Ok : goal.returns-in-Ok
returns-in-Ok c =
    subst (λ (m : Option ℕ). IsDateLine m c.date_line.result) (sym c.in-Some.is) (c.in-Ok.date, c.in-Ok.ensures.value, c.date_line.ensures)
