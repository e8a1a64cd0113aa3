use Rattle.certificates.proofs.OneDivision.{same_division}
use Rattle.certificates.proofs.division_laws.division_law.Goals as goal

pub returns : goal.returns
returns c given division other valid a b =
    same_division c.division_law.ensures.fares c.division_law.ensures.route c.one_rent_division_law.ensures c.step_count_law.ensures.one_division given division other valid a b
