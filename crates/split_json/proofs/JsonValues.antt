-- The JSON value of a body.
use Rattle.std.proofs.Common.{◌≡◌, ℕ, List, Option, Some, None, Bool, true, false, if◌then◌else◌, refl}
use Rattle.std.proofs.lemmas.Str.{IsUtf8-from_is_utf8, is_utf8-from_IsUtf8}
use Rattle.std.specs.Str.{IsUtf8, is_utf8}
use Rattle.serde_json.specs.Data.{Data}
use Rattle.serde_json.specs.Read.{read}
use Rattle.split_json.specs.Rules.{json_of}

-- the value of a body that is UTF-8 and is read
pub json_of-some : (body : List ℕ) (d : Data) → IsUtf8 body → read body ≡ Some d → json_of body ≡ Some d
json_of-some body d u e = rw (is_utf8-from_IsUtf8 body u) e

-- a choice of none
none_if : (b : Bool) (o : Option Data) → (b ≡ true → o ≡ None) → (if b then o else None) ≡ None
none_if true o h = h refl
none_if false o h = refl

-- a body of which nothing is read has no value
pub json_of-none : (body : List ℕ) → (IsUtf8 body → read body ≡ None) → json_of body ≡ None
json_of-none body h = none_if (is_utf8 body) (read body) (λ e. h (IsUtf8-from_is_utf8 body e))
