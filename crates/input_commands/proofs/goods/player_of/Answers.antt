use Rattle.std.proofs.Common.{arith, ◌≡◌, ◌==◌, ℕ, List, ap, ◌∙◌}
use Rattle.std.specs.List.{position_or_len}
use Rattle.split_lemmas.proofs.FilteredLists.{placed}
use Rattle.split_lemmas.proofs.GoodsMembers.{players_few}
use Rattle.input_commands.proofs.goods.player_of.Goals as goal

-- the place among the players
abbrev place_in : ℕ → List ℕ → ℕ
place_in member who = position_or_len (λ other. other == member) who

pub overflow_cast-result : goal.overflow_cast-result
overflow_cast-result c =
    let is : c.place_of.result ≡ place_in c.args.member c.args.case.now.who.items = c.place_of.ensures ∙ ap (place_in c.args.member) c.as_slice.ensures.value in
    let place = (placed c.args.member c.args.case.now.who.items c.requires.bidder).0 in
    let few = players_few c.args.case.now c.requires.case in
    let most = c.requires.case.facts.counts.1 in
    let each = c.requires.case.each in
    omega (arith, is, place, few, most, each)

pub overflow_add-result : goal.overflow_add-result
overflow_add-result c =
    let is : c.place_of.result ≡ place_in c.args.member c.args.case.now.who.items = c.place_of.ensures ∙ ap (place_in c.args.member) c.as_slice.ensures.value in
    let place = (placed c.args.member c.args.case.now.who.items c.requires.bidder).0 in
    let few = players_few c.args.case.now c.requires.case in
    let most = c.requires.case.facts.counts.1 in
    let each = c.requires.case.each in
    omega (arith, is, place, few, most, each)

pub returns-clause-high : goal.returns-clause-high
returns-clause-high c =
    let is : c.place_of.result ≡ place_in c.args.member c.args.case.now.who.items = c.place_of.ensures ∙ ap (place_in c.args.member) c.as_slice.ensures.value in
    let place = (placed c.args.member c.args.case.now.who.items c.requires.bidder).0 in
    let each = c.requires.case.each in
    omega (arith, is, place, each)
