use Rattle.std.proofs.Common.{◌≡◌, List, ℕ, ap, ◌∙◌}
use Rattle.matchit.specs.Rows.{RowsOf}
use Rattle.matchit.specs.Router.{RouteOf}
use Rattle.matchit.specs.Order.{placed}
use Rattle.matchit.proofs.OnLiterals.{matchit_on_literals}
use Rattle.split_http.specs.Places.{Endpoint}
use Rattle.split_http.proofs.routes.make_router.Goals as goal

-- one more route, put in its place among those that are known
with_one : (row : List ℕ × RouteOf Endpoint) {old new known : RowsOf (RouteOf Endpoint)} → new ≡ placed row old → old ≡ known → new ≡ placed row known
with_one row is before = is ∙ ap (placed row) before

pub returns : goal.returns
unfolding matchit_on_literals
returns c =
    with_one _ c.in_ok-insert-11.ensures.1 (
    with_one _ c.in_ok-insert-10.ensures.1 (
    with_one _ c.in_ok-insert-9.ensures.1 (
    with_one _ c.in_ok-insert-8.ensures.1 (
    with_one _ c.in_ok-insert-7.ensures.1 (
    with_one _ c.in_ok-insert-6.ensures.1 (
    with_one _ c.in_ok-insert-5.ensures.1 (
    with_one _ c.in_ok-insert-4.ensures.1 (
    with_one _ c.in_ok-insert-3.ensures.1 (
    with_one _ c.in_ok-insert-2.ensures.1 (
    with_one _ c.in_ok-insert.ensures.1
    c.new-router.ensures))))))))))
