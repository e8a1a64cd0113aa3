-- What a call of an adapter answers.
use Rattle.std.specs.Prelude.{◌≡◌, Option, Some, None, Result, Ok, IsErr}

-- what was found, or a failure if nothing was
abbrev pub IsAnswered : {T E : Type 0} → Option T → Result T E → Type 0
IsAnswered (Some found) result = result ≡ Ok found
IsAnswered None result = IsErr result
