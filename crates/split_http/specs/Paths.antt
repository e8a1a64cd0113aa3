-- The path of a request's target.
use Rattle.std.specs.Prelude.{◌≡◌, ℕ, ◌<◌, List, length, Option, MatchOption}
use Rattle.http_uri.specs.Uri.{Spells, uri_path}
use Rattle.http_uri.specs.declared.uri.Uri.{Uri}

-- the target is a URI that has this path
abbrev pub HasPath : List ℕ → List ℕ → Type 0
HasPath target path = (uri : Uri) × Spells target uri × (path ≡ uri_path uri) × (0 < length path)

-- the path of the target, or none if it isn't a URI or has no path
abbrev pub IsPathOf : List ℕ → Option (List ℕ) → Type 0
IsPathOf target found = MatchOption found ((path : List ℕ) → ¬ (HasPath target path)) (λ path. HasPath target path)
