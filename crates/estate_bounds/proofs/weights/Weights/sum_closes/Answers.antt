use Rattle.std.proofs.Common.{◌≡◌, ℕ, List, ap, ◌∙◌, length, replicate}
use Rattle.estate_bounds.specs.Shown.{is_shown}
use Rattle.estate_bounds.specs.Weighted.{weighted_top}
use Rattle.estate_bounds.proofs.weights.Weights.sum_closes.Goals as goal

pub returns : goal.returns
returns c =
    let case = c.args.case.now in
    let owners = c.args.owners.now in
    let shares = c.args.shares.now in
    let each = c.args.self.now.each.items in
    let weights : c.as_slice.result.now ≡ each = c.as_slice.ensures.value in
    let divisors : c.as_slice-2.result.now ≡ replicate (length shares) (weighted_top case each owners) =
    c.as_slice-2.ensures.value ∙ c.alike-divisors.ensures ∙ ap (replicate (length shares)) c.top.ensures in
    c.is_shown.ensures ∙ ap (λ (ws : List ℕ). is_shown case owners ws shares c.args.equal (length shares) c.as_slice-2.result.now) weights
    ∙ ap (is_shown case owners each shares c.args.equal (length shares)) divisors
