use Rattle.std.proofs.Common.{◌≡◌, ◌+◌, ◌*◌, ◌≤◌, ◌<ℤ◌, ◌≤ℤ◌, ℕ, ℤ, pos, arith, ap, ◌∙◌, sym, subst, unsigned_abs, to_z}
use Rattle.std.specs.Int.{w128}
use Rattle.bid_rules.specs.declared.limits.TheConstants.{MOST_RIDERS}
use Rattle.bid_rules.specs.FareLimits.{most_sum}
use Rattle.split_lemmas.proofs.WideNumbers.{kept_whole}
use Rattle.fare_audit.specs.Parts.{IsFirstGreatest, excess_in_parts}
use Rattle.fare_audit.proofs.Kept.{kept}
use Rattle.fare_audit.proofs.Tallies.{count_no, count_yes, greater, lt_no, lt_yes, no_greater}
use Rattle.fare_audit.proofs.audit.tally_of.Goals as goal
use Rattle.fare_audit.proofs.audit.tally_of.Goals.{then-excess-gt0, else-excess-gt0, then-excess-most, else-excess-most}

pub loop-set-preserved : goal.loop-set-preserved
loop-set-preserved c =
    let e : ℕ → ℤ = excess_in_parts c.args.costs.now c.args.parts.now c.args.denominator in
    let set : ℕ = c.loop-set.set in
    let excess : ℤ = c.excess_of-excess.result in
    let low : 1 ≤ set = c.loop-set.auto.set in
    let size = c.excess_of-excess.ensures.size in
    let whole : kept excess ≡ e set = kept_whole excess (omega (arith, size)) ∙ c.excess_of-excess.ensures.value in
    let most : ℤ = to_z w128 c.loop-set.most-bits in
    let last : ℤ = to_z w128 c.if-excess-most.most-bits in
    record {
      groups = elim c.if-excess-gt0.branch [
        | then-excess-gt0 w ↦ w.groups-is ∙ ap (λ n. n + 1) c.loop-set.invariant.groups ∙ sym (count_yes e set low (subst (λ z. pos 0 <ℤ z) whole (lt_yes (pos 0) (kept excess) w.if-excess-gt0.true)))
        | else-excess-gt0 w ↦ w.groups-is ∙ c.loop-set.invariant.groups ∙ sym (count_no e set low (subst (λ z. z ≤ℤ pos 0) whole (lt_no (pos 0) (kept excess) w.if-excess-gt0.false)))
      ];
      few = elim c.if-excess-gt0.branch [ then-excess-gt0 w ↦ omega arith | else-excess-gt0 w ↦ omega arith ];
      greatest = elim c.if-excess-most.branch [
        | then-excess-most w ↦ subst (λ s. IsFirstGreatest e (set + 1) s last) (sym w.worst-is) (subst (λ z. IsFirstGreatest e (set + 1) set z) (sym (w.most-is ∙ whole))
            (greater e set c.loop-set.worst most low c.loop-set.invariant.greatest (subst (λ z. most <ℤ z) whole (lt_yes most (kept excess) w.if-excess-most.true))))
        | else-excess-most w ↦ subst (λ s. IsFirstGreatest e (set + 1) s last) (sym w.worst-is) (subst (λ z. IsFirstGreatest e (set + 1) c.loop-set.worst z) (sym w.most-is)
            (no_greater e set c.loop-set.worst most c.loop-set.invariant.greatest (subst (λ z. z ≤ℤ most) whole (lt_no most (kept excess) w.if-excess-most.false))))
      ];
      size = elim c.if-excess-most.branch [
        | then-excess-most w ↦ subst (λ z. unsigned_abs z ≤ most_sum * (MOST_RIDERS + 1)) (sym (w.most-is ∙ kept_whole excess (omega (arith, size)))) size
        | else-excess-most w ↦ subst (λ z. unsigned_abs z ≤ most_sum * (MOST_RIDERS + 1)) (sym w.most-is) c.loop-set.invariant.size
      ];
    }
