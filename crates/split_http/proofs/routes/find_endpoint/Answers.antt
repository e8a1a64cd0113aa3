use Rattle.std.proofs.Common.{ℕ, ◌<◌, length, get_or, sym, ap, ◌∙◌, arith}
use Rattle.matchit.specs.Seek.{first}
use Rattle.matchit.specs.Router.{map_key}
use Rattle.split_http.proofs.Finds.{endpoint_found, endpoint_value}
use Rattle.split_http.proofs.routes.find_endpoint.Goals as goal

pub returns-in-Ok : goal.returns-in-Ok
returns-in-Ok c =
    let path = c.args.path.now in
    let bytes : (i : ℕ) → i < length path → get_or path i 0 < 256 = λ i l. omega (arith, c.type_inv.path i) in
    sym (ap (map_key endpoint_value) (ap (λ r. first r path) (sym c.requires) ∙ c.in-Ok.ensures.found)) ∙ endpoint_found path bytes

pub returns-in-Err : goal.returns-in-Err
returns-in-Err c =
    let path = c.args.path.now in
    let bytes : (i : ℕ) → i < length path → get_or path i 0 < 256 = λ i l. omega (arith, c.type_inv.path i) in
    sym (ap (map_key endpoint_value) (ap (λ r. first r path) (sym c.requires) ∙ c.in-Err.ensures.missing)) ∙ endpoint_found path bytes
