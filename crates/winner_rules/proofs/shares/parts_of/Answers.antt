use Rattle.std.proofs.Common.{arith, rules, ◌≡◌, ◌+◌, ◌<◌, pos, true, false, length, map, sym, ap, ◌∙◌, ⊎_elim, subst}
use Rattle.std.proofs.lemmas.List.{get_or-map, length-map}
use Rattle.bid_rules.specs.Fractions.{Fraction}
use Rattle.split_frac.specs.Frac.{fraction_of}
use Rattle.winner_definition.specs.Parts.{is_split}
use Rattle.winner_rules.specs.Split.{split_at}
use Rattle.winner_rules.proofs.Splits.{next_or, parts_first, parts_none, split_here}
use Rattle.winner_rules.proofs.shares.parts_of.Goals as goal

pub returns-then-is_split-clause-value : goal.returns-then-is_split-clause-value
returns-then-is_split-clause-value c =
    let l : c.loop-k.k < length c.args.shares.now = search rules in
    let split : c.is_split.result ≡ true = search rules in
    let inside : c.loop-k.k < length (map fraction_of c.args.shares.now) = omega (arith, l, length-map c.args.shares.now fraction_of) in
    sym (parts_first (map fraction_of c.args.shares.now) c.loop-k.k inside c.loop-k.invariant (split_here c.args.shares.now c.loop-k.k c.index-shares-k.result c.is_split.result l c.index-shares-k.is c.is_split.ensures ∙ split)
    ∙ ap (λ (f : Fraction). f.1) (get_or-map fraction_of c.args.shares.now c.loop-k.k c.index-shares-k-then-is_split.result (pos 0, 1) l))

pub loop-k-preserved : goal.loop-k-preserved
loop-k-preserved c = λ place l.
    let l' : c.loop-k.k < length c.args.shares.now = search rules in
    let whole : c.is_split.result ≡ false = search rules in
    ⊎_elim
    (λ (same : place ≡ c.loop-k.k). subst (λ p. split_at (map fraction_of c.args.shares.now) p ≡ false) (sym same) (split_here c.args.shares.now c.loop-k.k c.index-shares-k.result c.is_split.result l' c.index-shares-k.is c.is_split.ensures ∙ whole))
    (λ (old : place < c.loop-k.k). c.loop-k.invariant place old)
    (next_or place c.loop-k.k l)

pub returns-clause-value : goal.returns-clause-value
returns-clause-value c =
    let end : length c.args.shares.now ≡ c.loop-k.k = search rules in
    let count = length-map c.args.shares.now fraction_of in
    sym (parts_none (map fraction_of c.args.shares.now) (λ place l. c.loop-k.invariant place (omega (arith, l, count, end))))
