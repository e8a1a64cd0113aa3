use Rattle.std.proofs.Common.{◌≡◌, ◌++◌, ◌∷◌, [], map, sym, arith}
use Rattle.std.proofs.lemmas.List.{map_push}
use Rattle.bid_rules.specs.declared.limits.TheConstants.{LONGEST_NAME}
use Rattle.sealed_core.specs.Host.{text}
use Rattle.host_journal.specs.Reading.{text_at}
use Rattle.host_journal.proofs.Loop.{goes_on, ends, is_done}
use Rattle.host_journal.proofs.reading.many_names.Goals as goal

pub returns-in_default : goal.returns-in_default
returns-in_default g c = ends (text_at LONGEST_NAME) (map text c.loop.names.items) c.args.count c.loop.counter c.loop.rest.now _ c.loop-test.true (sym c.in_default.ensures) c.loop.invariant.0

pub loop-preserved : goal.loop-preserved
loop-preserved g c =
    let name = c.in-Some.read.0 in
    let pushed : map text c.push.new.self.items ≡ map text c.loop.names.items ++ text name ∷ [] = rw c.push.ensures.items (map_push text c.loop.names.items name) in (
      rw pushed (goes_on (text_at LONGEST_NAME) (map text c.loop.names.items) c.args.count c.loop.counter c.loop.rest.now (text name) c.in-Some.read.1.now _ c.loop-test.true (sym c.in-Some.ensures) c.loop.invariant.0),
      omega (arith, c.push.ensures.len, c.loop.invariant.1),
    )

pub returns : goal.returns
returns g c = is_done (text_at LONGEST_NAME) (map text c.loop.names.items) c.args.count c.loop.counter c.loop.rest.now _ c.loop-test.false c.loop.invariant.0
