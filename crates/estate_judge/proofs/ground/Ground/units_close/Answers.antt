use Rattle.std.proofs.Common.{◌≡◌, subst, List, ℕ}
use Rattle.estate_bounds.specs.Units.{units_close}
use Rattle.estate_judge.proofs.UnitsOnce.{units_decide}
use Rattle.estate_judge.proofs.ground.Ground.units_close.Goals as goal

pub returns : goal.returns
returns c =
    units_decide c.args.self.now.case c.args.self.now.units.unit c.args.self.now.owners.items c.args.owners.now c.close.result c.requires.ground.unit
    (subst (λ (xs : List ℕ). c.close.result ≡ units_close c.args.self.now.case c.args.self.now.units.unit xs c.args.owners.now) c.as_slice-2.ensures.value c.close.ensures)
