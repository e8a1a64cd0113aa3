use Rattle.split_frac.proofs.Floors.{same_floor}
use Rattle.split_frac.proofs.laws.floor_law.Goals as goal

pub returns : goal.returns
returns c a x y p q = same_floor a.num x y a.den p.0 p.1 q.0 q.1
