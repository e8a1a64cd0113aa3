-- A certificate of the case that it was compared with shows the best division.
use Rattle.std.proofs.Common.{ℕ, ◌≤◌, List, length, take, subst, sym}
use Rattle.bid_rules.specs.declared.goods.GoodsCase.{GoodsCase}
use Rattle.estate_checker.specs.Judged.{PrintsBestEstate}
use Rattle.estate_solver.specs.declared.outcome.SliceEnd.{SliceEnd}
use Rattle.estate_solver.specs.declared.outcome.SliceEnd.TheVariants.{Best, GoesOn, NotShown, OverLimit, TooLong}
use Rattle.estate_solver.specs.Outcomes.{EndsSlice, IsCompared}

pub ends_compared : (case : GoodsCase) (end : SliceEnd) (owners text : List ℕ) (size : ℕ) → size ≤ length text → PrintsBestEstate (take size text) → IsCompared case size end owners
    → EndsSlice case end owners text
ends_compared case (Best shown) owners text size room prints (same, (answer, best, owned)) = record {
  answer = answer;
  best = best;
  owned = owned;
  room = subst (λ (n : ℕ). n ≤ length text) (sym same) room;
  certificate = subst (λ (n : ℕ). PrintsBestEstate (take n text)) (sym same) prints;
}
ends_compared case NotShown owners text size room prints is = is
ends_compared case GoesOn owners text size room prints is = elim is [ ]
ends_compared case OverLimit owners text size room prints is = elim is [ ]
ends_compared case TooLong owners text size room prints is = elim is [ ]
