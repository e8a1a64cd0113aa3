use Rattle.bid_rules.specs.Rent.{room_count}
use Rattle.split_lemmas.proofs.Permutations.{permutation_apart}
use Rattle.split_lemmas.proofs.RoomPlaces.{room_place, room_range, rooms_length}
use Rattle.best_laws.proofs.rents.assignment_law.Goals as goal

pub returns-clause-count : goal.returns-clause-count
returns-clause-count c case rooms h = rooms_length (room_count case) rooms h

pub returns-clause-room : goal.returns-clause-room
returns-clause-room c case rooms h member l = room_range (room_count case) rooms member h l

pub returns-clause-holder : goal.returns-clause-holder
returns-clause-holder c case rooms h room low high = room_place (room_count case) rooms room h low high

pub returns-clause-one_holder : goal.returns-clause-one_holder
returns-clause-one_holder c case rooms h member other l m e = permutation_apart 1 (room_count case) rooms member other h l m e
