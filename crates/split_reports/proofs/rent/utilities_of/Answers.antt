use Rattle.std.proofs.Common.{◌≡◌, ◌+◌, ◌≤◌, ℕ, ℤ, List, length, map, pos, arith, sym, ap, ◌∙◌, subst}
use Rattle.std.proofs.lemmas.List.{length-map, length_push}
use Rattle.bid_rules.specs.Cents.{amount_at}
use Rattle.bid_rules.specs.Fractions.{Fraction, IsQuotient}
use Rattle.bid_rules.specs.Rent.{HasParts, utility}
use Rattle.split_frac.specs.declared.frac.Frac.{Frac}
use Rattle.split_frac.specs.Frac.{fraction_of}
use Rattle.split_lemmas.proofs.ListPlaces.{push_at}
use Rattle.split_reports.proofs.rent.utilities_of.Goals as goal

pub loop-member-preserved : goal.loop-member-preserved
loop-member-preserved c =
    let count = c.loop-member.invariant.count in
    let P : ℕ → Fraction → Type 0 = λ j entry. (k : ℕ) (parts : List ℤ) → 1 ≤ k → HasParts (map fraction_of c.args.prices.now) k parts → IsQuotient entry (utility c.args.case.now k c.args.rooms.now parts j) k in
    record {
      count = ap length c.push.ensures.items ∙ length_push c.loop-member.utilities.items c.utility_at.result ∙ ap (λ n. n + 1) count;
      each = λ i l. subst (λ (xs : List Frac). P i (amount_at (map fraction_of xs) i)) (sym c.push.ensures.items)
          (push_at fraction_of (pos 0, 1) P c.loop-member.member c.loop-member.utilities.items c.utility_at.result count c.loop-member.invariant.each c.utility_at.ensures.value i l);
    }

pub returns : goal.returns
returns c =
    let end : c.loop-member.member ≡ c.args.case.now.facts.members = omega arith in
    record {
      count = length-map c.loop-member.utilities.items fraction_of ∙ c.loop-member.invariant.count ∙ end;
      each = λ i l. c.loop-member.invariant.each i (omega arith);
    }
