use Rattle.split_lemmas.proofs.RangePermutations.{permutation_from_each, permutation_to_each}
use Rattle.split_lemmas.proofs.RoomPlaces.{rooms_length}
use Rattle.best_laws.proofs.rents.permutation_law.Goals as goal

pub returns : goal.returns
returns c n numbers = (λ h. (rooms_length n numbers h, permutation_to_each n numbers h), λ each. permutation_from_each n numbers each.0 each.1)
