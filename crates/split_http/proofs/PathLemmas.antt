-- A target has one path.
use Rattle.std.proofs.Common.{◌≡◌, ℕ, ◌<◌, ◌==◌, not, List, [], length, Option, Some, None, Result, Ok, Err, IfOk, MatchOption, ap, ◌∙◌, arith, is_some, ◌||◌, if◌then◌else◌}
use Rattle.http_uri.specs.Uri.{Spells, uri_path}
use Rattle.http_uri.specs.Grammar.{path_of}
use Rattle.http_uri.specs.declared.uri.Uri.{Uri}
use Rattle.http_uri.proofs.Theorems.{Spells_unique}
use Rattle.split_http.specs.Paths.{IsPathOf}

-- the path of a URI with these parts
abbrev path_from : Option (List ℕ) → List ℕ → List ℕ
path_from scheme kept = if not (length kept == 0) || is_some scheme then path_of kept else []

-- a target has one path
pub same_path : (target : List ℕ) (u v : Uri) → Spells target u → Spells target v → uri_path u ≡ uri_path v
same_path target u v a b =
    let same = Spells_unique target u v a b in
    ap (λ scheme. path_from scheme (u.path_and_query)) same.0 ∙ ap (path_from v.scheme) same.2

-- the path that was found is the target's
pub found_path : {E : Type 0} (target : List ℕ) (uri : Uri) (r : Result (Option (List ℕ)) E) → Spells target uri
    → IfOk r (λ found. MatchOption found (length (uri_path uri) ≡ 0) (λ path. (path ≡ uri_path uri) × (0 < length path)))
    → IfOk r (IsPathOf target)
found_path target uri (Ok (Some path)) spells h = (uri, spells, h.0, h.1)
found_path target uri (Ok None) spells h = λ path (other, spelled, is, some).
    let same : length path ≡ length (uri_path uri) = ap length (is ∙ same_path target other uri spelled spells) in
    omega arith
found_path target uri (Err e) spells h = tt
