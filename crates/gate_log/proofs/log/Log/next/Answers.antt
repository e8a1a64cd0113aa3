use Rattle.std.proofs.Common.{◌≡◌, ℕ, List, [], ◌∷◌, ◌++◌, rules, subst, sym}
use Rattle.gate_log.specs.Log.{IsReading}
use Rattle.gate_log.proofs.log.Log.next.Goals as goal

pub returns-clause-record : goal.returns-clause-record
returns-clause-record g c tells secret bodies r more =
    let same : c.fill_reserved.new.body.items ≡ c.next_body.new.body.items = search rules in
    subst (λ (l : List ℕ). IsReading (g.D.Disk.seen c.next_body.new.disk) c.next_body.new.self secret (bodies ++ l ∷ [])) (sym same)
    (c.in_ok-more.ensures.record tells secret bodies r more)
