-- How numbers and refusals are handed out.
use Rattle.std.specs.Prelude.{◌≡◌, ◌≤◌, ◌<◌, ℕ, List, Err, length, take}
use Rattle.body_fields.specs.declared.fields.BodyFault.TheVariants.{Field}
use Rattle.body_fields.specs.declared.fields.FieldName.{FieldName}
use Rattle.command_results.specs.Handing.{HandsOut}
use Rattle.command_results.specs.declared.stop.Stop.TheVariants.{BadCase}

-- a list with room for the numbers begins with them, and one without is as it was
abbrev pub IsGiven : {A : Type 0} → List A → List A → List A → Type 0
IsGiven numbers before after = (length numbers ≤ length before → take (length numbers) after ≡ numbers) × (length before < length numbers → after ≡ before)

-- a field that breaks its rule is named
abbrev pub Refuses : (FieldName → Type 0) → ℕ → ℕ → List ℕ → List ℕ → Type 0
Refuses is_field status size before after = (field : FieldName) × is_field field × HandsOut (Err (BadCase (Field field))) status size before after
