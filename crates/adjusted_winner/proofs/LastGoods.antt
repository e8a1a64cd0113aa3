-- One more good moves, and the last one that does.
use Rattle.std.proofs.Common.{◌≡◌, ℕ, ◌+◌, ◌-◌, ◌*◌, ◌<◌, ◌≤◌, List, ◌∷◌, map, arith, refl, sym, ap, ◌∙◌, ◌⊎◌, inl, inr, ⊎_elim, subst}
use Rattle.std.specs.List.{range_with_len}
use Rattle.std.proofs.lemmas.Bool.{cases_lt}
use Rattle.bid_rules.specs.declared.goods.GoodsCase.{GoodsCase}
use Rattle.bid_rules.specs.Goods.{IsValidGoodsCase, player_count, points}
use Rattle.winner_definition.specs.Moving.{IsNextOf, latest}
use Rattle.winner_definition.specs.Procedure.{EndsBy, HaveMoved, IsNextToMove, IsOutcome, first_share, other_player}
use Rattle.winner_definition.specs.Winners.{first_owner, greater_points, lesser_points}
use Rattle.adjusted_winner.specs.Moves.{IsLastToMove, MovedUpTo}

-- what is known of goods that have moved and of the next one
pub record MovingFacts : Type 0 where
  pub richer : (case : GoodsCase) (richer : ℕ) (moved : List ℕ) (rich poor : ℕ) → HaveMoved case richer moved rich poor → poor < rich → (richer ≡ 1) ⊎ (richer ≡ 2)
  pub moves : (case : GoodsCase) (richer : ℕ) (moved : List ℕ) (rich poor next : ℕ) → HaveMoved case richer moved rich poor → poor < rich → 1 ≤ next
      → IsNextOf case richer (latest moved) case.facts.goods next → IsNextToMove case richer moved next
  pub greater : (case : GoodsCase) (player good : ℕ) → (player ≡ 1) ⊎ (player ≡ 2) → first_owner case good ≡ player → greater_points case good ≡ points case player good
  pub lesser : (case : GoodsCase) (player good : ℕ) → (player ≡ 1) ⊎ (player ≡ 2) → first_owner case good ≡ player → lesser_points case good ≡ points case (other_player player) good

-- that there is a next one
abbrev pub HasNext : Type 0
HasNext = (case : GoodsCase) (richer : ℕ) (moved : List ℕ) (rich poor next : ℕ) → IsValidGoodsCase case → player_count case ≡ 2 → HaveMoved case richer moved rich poor → poor < rich
    → IsNextOf case richer (latest moved) case.facts.goods next → 1 ≤ next

-- the next one, with the latest as the solver names it
next_at : (case : GoodsCase) (player last rich poor next : ℕ) → (now : MovedUpTo case player last rich poor) → IsNextOf case player last case.facts.goods next → IsNextOf case player (latest now.moved) case.facts.goods next
next_at case player last rich poor next now first = subst (λ l. IsNextOf case player l case.facts.goods next) now.at first

-- there is a next good
pub some_next : HasNext → (case : GoodsCase) (player last rich poor next : ℕ) → IsValidGoodsCase case → player_count case ≡ 2 → MovedUpTo case player last rich poor → IsNextOf case player last case.facts.goods next → 1 ≤ next
some_next has case player last rich poor next valid two now first = has case player now.moved rich poor next valid two now.moves now.more (next_at case player last rich poor next now first)

-- it is the one that moves next, with both players' points for it
record NextGood (case : GoodsCase) (player : ℕ) (moved : List ℕ) (next : ℕ) : Type 0 where
  moves : IsNextToMove case player moved next
  greater : greater_points case next ≡ points case player next
  lesser : lesser_points case next ≡ points case (other_player player) next

next_good : MovingFacts → (case : GoodsCase) (player last rich poor next : ℕ) → (now : MovedUpTo case player last rich poor) → IsNextOf case player last case.facts.goods next → 1 ≤ next → NextGood case player now.moved next
next_good facts case player last rich poor next now first some =
    let moves = facts.moves case player now.moved rich poor next now.moves now.more some (next_at case player last rich poor next now first) in
    let either = facts.richer case player now.moved rich poor now.moves now.more in
    record { moves = moves; greater = facts.greater case player next either moves.can.own; lesser = facts.lesser case player next either moves.can.own }

-- it moves whole, and the player is still richer
pub moves_whole : MovingFacts → (case : GoodsCase) (player last rich poor next : ℕ) → (now : MovedUpTo case player last rich poor) → IsNextOf case player last case.facts.goods next → 1 ≤ next
    → poor + greater_points case next + lesser_points case next < rich → MovedUpTo case player next (rich - greater_points case next) (poor + lesser_points case next)
moves_whole facts case player last rich poor next now first some more =
    let good = next_good facts case player last rich poor next now first some in
    record {
      moved = next ∷ now.moved;
      at = refl;
      moves = (rich, poor, now.moves, now.more, good.moves, omega (arith, good.greater, more), omega (arith, good.lesser), omega (arith, more));
      more = omega (arith, more);
    }

-- or it is the last
pub moves_last : MovingFacts → (case : GoodsCase) (player last rich poor next : ℕ) → (now : MovedUpTo case player last rich poor) → IsNextOf case player last case.facts.goods next → 1 ≤ next
    → rich ≤ poor + greater_points case next + lesser_points case next → IsLastToMove case player rich poor next
moves_last facts case player last rich poor next now first some ends =
    let good = next_good facts case player last rich poor next now first some in
    record { moved = now.moved; moves = now.moves; more = now.more; next = good.moves; ends = omega (arith, ends, good.greater, good.lesser) }

-- the share of the last good, in as many parts as both players give it points
ends_by : (case : GoodsCase) (richer rich poor last parts : ℕ) → poor < rich → rich ≤ poor + points case (other_player richer) last + points case richer last
    → parts ≡ points case richer last + points case (other_player richer) last → EndsBy case richer rich poor last parts (rich - poor)
ends_by case richer rich poor last parts more ends whole = ⊎_elim
    (λ (short : rich < poor + points case (other_player richer) last + points case richer last). inr (short, ap (λ k. (rich - poor) * k) (sym whole) ∙ swap (rich - poor) parts))
    (λ (enough : poor + points case (other_player richer) last + points case richer last ≤ rich). inl (omega (arith, ends, enough), omega (arith, ends, enough, whole)))
    (cases_lt rich (poor + points case (other_player richer) last + points case richer last))
  where
    swap : (x k : ℕ) → x * k ≡ k * x
    swap x k = omega arith

-- what the rule comes to
pub last_outcome : (case : GoodsCase) (richer rich poor last parts : ℕ) → (ends : IsLastToMove case richer rich poor last) → parts ≡ points case richer last + points case (other_player richer) last
    → IsOutcome case parts (map (first_share case ends.moved last parts (rich - poor)) (range_with_len 1 case.facts.goods)) (points case 2 last) (points case 1 last)
last_outcome case richer rich poor last parts ends whole = record {
  some = omega (arith, whole, ends.next.can.some);
  ends = inr (record {
    richer = richer;
    moved = ends.moved;
    rich = rich;
    poor = poor;
    moves = ends.moves;
    more = ends.more;
    last = last;
    next = ends.next;
    share = rich - poor;
    ends = ends_by case richer rich poor last parts ends.more ends.ends whole;
    shares = refl;
    first_weight = refl;
    second_weight = refl;
  });
}
