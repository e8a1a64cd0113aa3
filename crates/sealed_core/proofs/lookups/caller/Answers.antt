use Rattle.std.proofs.Common.{◌≡◌, ◌+◌, length, ap, arith, ◌∙◌}
use Rattle.std.proofs.lemmas.List.FromFn.{length-map-range_with_len}
use Rattle.sealed_core.specs.Host.{instance_view}
use Rattle.sealed_core.specs.Keys.{key_text}
use Rattle.sealed_core.specs.Step.{caller_by}
use Rattle.sealed_core.proofs.Holders.{caller_is}
use Rattle.sealed_core.proofs.lookups.caller.Goals as goal

pub returns-in-Some-holder_of-clause-found : goal.returns-in-Some-holder_of-clause-found
returns-in-Some-holder_of-clause-found c =
    caller_is c.args.host.now.content c.args.id c.in-Some.instance.now c.args.key c.in-Some-key.key c.as_slice.result.now c.holder_of.result c.in-Some.ensures.keyed c.as_slice.ensures.value c.holder_of.ensures.first c.in-Some.ensures.found c.in-Some-key.is
    ∙ ap (caller_by (instance_view c.in-Some.instance.now)) c.in-Some-holder_of.is

pub returns-in-Some-holder_of-clause-member : goal.returns-in-Some-holder_of-clause-member
returns-in-Some-holder_of-clause-member c =
    let n = length c.in-Some.instance.now.creation.members.items in
    let size : length c.as_slice.result.now ≡ n + 1 = ap length (c.as_slice.ensures.value ∙ c.in-Some.ensures.keyed) ∙ length-map-range_with_len (key_text c.args.host.now.content.secret c.args.id) 0 (n + 1) in
    let among = c.in-Some-holder_of.ensures.among in
    omega (arith, size, among)

pub returns-in-None-clause-found : goal.returns-in-None-clause-found
returns-in-None-clause-found c =
    caller_is c.args.host.now.content c.args.id c.in-Some.instance.now c.args.key c.in-Some-key.key c.as_slice.result.now c.holder_of.result c.in-Some.ensures.keyed c.as_slice.ensures.value c.holder_of.ensures.first c.in-Some.ensures.found c.in-Some-key.is
    ∙ ap (caller_by (instance_view c.in-Some.instance.now)) c.in-None.is
