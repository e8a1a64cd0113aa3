-- The room of a host after an instance was changed.
use Rattle.std.proofs.Common.{◌≡◌, ◌∙◌, ℕ, ◌+◌, ◌-◌, length, ap, arith}
use Rattle.sealed_core.specs.Host.{HasRoom, Holding, InstanceView, change}
use Rattle.sealed_core.proofs.Soundness.{length-changed}

module _ (old new : Holding) (f : InstanceView → InstanceView) (id : ℕ) (is : new.content.instances ≡ change f old.content.instances id) (spare : new.spare ≡ old.spare) where
  as_many : length new.content.instances ≡ length old.content.instances
  as_many = ap length is ∙ length-changed f old.content.instances (id - 1)

  -- the places in all stay
  pub places_stay : new.spare + length new.content.instances ≡ old.spare + length old.content.instances
  places_stay = omega (arith, as_many, spare)

  -- and the room
  pub room_stays : HasRoom old → HasRoom new
  room_stays room = omega (arith, as_many, spare, room)
