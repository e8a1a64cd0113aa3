use Rattle.std.proofs.Common.{ℕ, List, [], ◌∷◌, ◌++◌, length, map, ap, sym, arith, ◌∙◌}
use Rattle.std.specs.List.{range_with_len}
use Rattle.std.proofs.lemmas.List.FromFn.{length-map-range_with_len, map-range_with_len_more}
use Rattle.sealed_core.specs.Keys.{key_text}
use Rattle.sealed_core.proofs.keys.keys_of.Goals as goal

pub push-requires : goal.push-requires
push-requires c =
    let size = ap length c.loop-member.invariant.so_far ∙ length-map-range_with_len (key_text c.args.secret.now c.args.id) 0 c.loop-member.member in
    let few = c.loop-member.invariant.few in
    let more = c.loop-member-test.true in
    (omega arith, omega (arith, size, few, more))

pub loop-member-preserved : goal.loop-member-preserved
loop-member-preserved c =
    let key = key_text c.args.secret.now c.args.id in
    let member = c.loop-member.member in
    record {
      so_far =
          c.push.ensures.items ∙ ap (λ (keys : List (List ℕ)). keys ++ c.key_of.result ∷ []) c.loop-member.invariant.so_far
          ∙ ap (λ (own : List ℕ). map key (range_with_len 0 member) ++ own ∷ []) c.key_of.ensures ∙ sym (map-range_with_len_more key 0 member member (omega arith));
      few = c.loop-member.invariant.few;
    }
