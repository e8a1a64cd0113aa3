-- A creation that was read, as a command shows it.
use Rattle.std.proofs.Common.{◌≡◌, Result, Ok, Err, refl}
use Rattle.std.specs.Result.{result_map_both}
use Rattle.std.specs.Prelude.{IfOk}
use Rattle.body_fields.specs.declared.creations.Creation.{Creation}
use Rattle.body_fields.specs.declared.fields.BodyFault.{BodyFault}
use Rattle.sealed_core.specs.Host.{IsCheckedCreation, creation_view}
use Rattle.sealed_core.specs.Step.{Create, IsCheckedCommand, creation_seen}

pub seen_is : (body : Result Creation BodyFault) → creation_seen body ≡ result_map_both creation_view (λ fault. fault) body
seen_is (Ok creation) = refl
seen_is (Err fault) = refl

pub seen_checked : (body : Result Creation BodyFault) → IfOk body (λ creation. IsCheckedCreation (creation_view creation)) → IsCheckedCommand (Create (creation_seen body))
seen_checked (Ok creation) checked = checked
seen_checked (Err fault) checked = tt
