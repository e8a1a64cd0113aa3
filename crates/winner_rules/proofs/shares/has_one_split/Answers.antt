use Rattle.std.proofs.Common.{arith, rules, ◌≡◌, ◌+◌, ◌<◌, true, false, Bool, length, map, sym, ap, ◌∙◌, subst}
use Rattle.split_frac.specs.Frac.{fraction_of}
use Rattle.winner_definition.specs.Parts.{is_split}
use Rattle.std.proofs.lemmas.List.{length-map}
use Rattle.winner_rules.specs.Split.{HasSplitUpTo, split_at}
use Rattle.winner_rules.proofs.Splits.{shares_map, split_first, split_here, split_second, split_skip}
use Rattle.winner_rules.proofs.shares.has_one_split.Goals.{then-is_split+else-found, else-is_split}
use Rattle.winner_rules.proofs.shares.has_one_split.Goals as goal

pub returns-then-found : goal.returns-then-found
returns-then-found c =
    let l : c.loop-k.k < length c.args.shares.now = search rules in
    let split : c.is_split.result ≡ true = search rules in
    let found : c.loop-k.found ≡ true = search rules in
    let inside : c.loop-k.k < length (map fraction_of c.args.shares.now) = omega (arith, l, length-map c.args.shares.now fraction_of) in
    let no = split_second c.share_law.ensures.by_place (map fraction_of c.args.shares.now) c.loop-k.k (shares_map c.args.shares.now c.requires) inside (split_here c.args.shares.now c.loop-k.k c.index-shares-k.result c.is_split.result l c.index-shares-k.is c.is_split.ensures ∙ split) (subst (λ (b : Bool). HasSplitUpTo (map fraction_of c.args.shares.now) c.loop-k.k b) found c.loop-k.invariant) in
    (λ t. let z : ⊥ = search rules in absurd z, λ one. absurd (no one))

pub loop-k-preserved : goal.loop-k-preserved
loop-k-preserved c =
    let shares = map fraction_of c.args.shares.now in
    let l : c.loop-k.k < length c.args.shares.now = search rules in
    elim c.if-is_split.branch [
      | then-is_split+else-found w ↦
          let split : c.is_split.result ≡ true = search rules in
          let found : c.loop-k.found ≡ false = search rules in
          subst (λ (b : Bool). HasSplitUpTo shares (c.loop-k.k + 1) b) (sym w.found-is)
          (split_first shares c.loop-k.k (split_here c.args.shares.now c.loop-k.k c.index-shares-k.result c.is_split.result l c.index-shares-k.is c.is_split.ensures ∙ split) (subst (λ (b : Bool). HasSplitUpTo shares c.loop-k.k b) found c.loop-k.invariant))
      | else-is_split w ↦
          let whole : c.is_split.result ≡ false = search rules in
          subst (λ (b : Bool). HasSplitUpTo shares (c.loop-k.k + 1) b) (sym w.found-is)
          (split_skip shares c.loop-k.k c.loop-k.found (split_here c.args.shares.now c.loop-k.k c.index-shares-k.result c.is_split.result l c.index-shares-k.is c.is_split.ensures ∙ whole) c.loop-k.invariant)
    ]
