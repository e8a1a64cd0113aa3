-- Why an estate's certificate prints the best division.
use Rattle.std.proofs.Common.{◌≡◌, ℕ, ℤ, pos, ◌+◌, ◌-◌, ◌<◌, ◌≤◌, List, length, map, drop, get_or, unsigned_abs, All, arith, refl, sym, subst, ◌∙◌, ◌≤ℤ◌}
use Rattle.std.proofs.lemmas.List.{get_or-map, length-drop, length-map, length-take-le}
use Rattle.bid_rules.specs.declared.goods.GoodsCase.{GoodsCase}
use Rattle.bid_rules.specs.Goods.{AreOwners, GoodsBest, IsAllocation, IsValidGoodsCase, in_search_order, owners_by_good, player_count, utilities}
use Rattle.bid_rules.specs.Pairs.{positives}
use Rattle.estate_bounds.specs.Counts.{IsCountLimit, IsShort}
use Rattle.estate_checker.specs.Judged.{AllRulesHold, IsEstateCertificate, PrintsBestEstate}
use Rattle.estate_checker.specs.Printed.{printed_answer, printed_case, printed_owners}
use Rattle.estate_checker.specs.Rules.{HasCase, HasOwners, HasShort, HasTree}
use Rattle.estate_checker.proofs.BodyRows.{owners_all, rows_long}
use Rattle.estate_judge.specs.declared.node.Node.{Node}
use Rattle.estate_judge.specs.Leaves.{KeepsRule}
use Rattle.estate_judge.specs.Nodes.{AreNodes, IsInner}
use Rattle.estate_texts.specs.Given.{GivenLine}
use Rattle.estate_texts.specs.Texts.{CanSayEstate, EstateView, owners_of, short_of, values_of}
use Rattle.prefix_trees.specs.Leaves.{AnyLeaf, HasLeaf}
use Rattle.prefix_trees.specs.Tree.{IsTree}
use Rattle.std.proofs.lemmas.Int.{ints}

-- what is known of trees, of counts and of owners
pub record EstateLaws : Type 0 where
  pub count : (case : GoodsCase) (players : List ℕ) (count : ℕ) → IsShort case players count → IsCountLimit case count
  pub best : (case : GoodsCase) (answer : List ℕ) (nodes : List Node) → IsValidGoodsCase case → IsAllocation case answer → IsCountLimit case (positives (utilities case answer))
      → IsTree IsInner AnyLeaf (player_count case) case.facts.goods nodes
      → ((number : ℕ) (owners : List ℕ) (above : List Node) (node : Node) → HasLeaf IsInner case nodes owners above node → KeepsRule case answer number owners above node) → GoodsBest case answer
  pub nodes : (players : ℕ) (marks : List ℕ) (lines : List GivenLine) (nodes others : List Node) → players ≤ 12 → AreNodes players marks lines nodes → AreNodes players marks lines others → nodes ≡ others
  pub allocation : (case : GoodsCase) (owners : List ℕ) → length owners ≡ case.facts.goods → AreOwners case owners → IsAllocation case (in_search_order case owners)
  pub again : (case : GoodsCase) (owners : List ℕ) → length owners ≡ case.facts.goods → owners_by_good case (in_search_order case owners) ≡ owners

-- there are as many players as the text counts
pub players_same : (view : EstateView) → CanSayEstate view → player_count (printed_case view) ≡ view.players
players_same view can =
    let long = rows_long view.players view.goods view.body can.body in
    let behind : length (drop 2 view.body) ≡ length view.body - 2 = length-drop 2 view.body in
    length-map (values_of view) _ ∙ length-take-le view.players (drop 2 view.body) (omega (arith, long, behind))

-- owners without a sign
owners_unsigned : (n : ℕ) (owners : List ℤ) → All (λ owner. (pos 1 ≤ℤ owner) × (owner ≤ℤ pos n)) owners → All (λ owner. (1 ≤ owner) × (owner ≤ n)) (map unsigned_abs owners)
owners_unsigned n owners h k d l =
    let count = length-map owners unsigned_abs in
    let within : k < length owners = omega (arith, count) in
    let range = h k (pos 0) within in
    let at : get_or (map unsigned_abs owners) k d ≡ unsigned_abs (get_or owners k (pos 0)) = get_or-map unsigned_abs owners k (pos 0) d within in
    (omega (arith, ints, range.0, at), omega (arith, ints, range.0, range.1, at))

-- the printed owners, one for each good
pub owners_long : (view : EstateView) → CanSayEstate view → length (printed_owners view) ≡ view.goods
owners_long view can = length-map (owners_of view) unsigned_abs ∙ owners_all view.players view.goods (2 + view.players) view.body can.body (omega arith)

pub owners_named : (view : EstateView) → CanSayEstate view → HasOwners view → AreOwners (printed_case view) (printed_owners view)
owners_named view can h =
    subst (λ n. All (λ owner. (1 ≤ owner) × (owner ≤ n)) (printed_owners view)) (sym (players_same view can)) (owners_unsigned view.players (owners_of view) h)

-- a rule on a tree holds of each leaf of the tree of another
leaf_keeps : EstateLaws → (view : EstateView) (number : ℕ) → view.players ≤ 12 → (tree : HasTree view 3) → HasTree view number → (owners : List ℕ) (above : List Node) (node : Node)
    → HasLeaf IsInner (printed_case view) tree.nodes owners above node → KeepsRule (printed_case view) (printed_answer view) number owners above node
leaf_keeps laws view number few tree h owners above node leads =
    let same : h.nodes ≡ tree.nodes = laws.nodes view.players view.marks view.given h.nodes tree.nodes few h.are_nodes tree.are_nodes in
    h.leaves owners above node (subst (λ (ns : List Node). HasLeaf IsInner (printed_case view) ns owners above node) (sym same) leads)

-- the rules on leaves are five
keeps_any : (case : GoodsCase) (answer : List ℕ) (number : ℕ) (owners : List ℕ) (above : List Node) (node : Node) → KeepsRule case answer 3 owners above node → KeepsRule case answer 6 owners above node
    → KeepsRule case answer 7 owners above node → KeepsRule case answer 8 owners above node → KeepsRule case answer 9 owners above node → KeepsRule case answer number owners above node
keeps_any case answer number owners above node shape closed whole own twin = record {
  at_end = λ e. shape.at_end refl;
  long = λ e. shape.long refl;
  closed = λ e. closed.closed refl;
  behind = λ e. whole.behind refl;
  own = λ e. own.own refl;
  twin = λ e. twin.twin refl;
}

-- the rules that hold of what a text says show that its division is the best one
pub best_view : EstateLaws → (view : EstateView) → CanSayEstate view → AllRulesHold view
    → IsValidGoodsCase (printed_case view) × GoodsBest (printed_case view) (printed_answer view) × (owners_by_good (printed_case view) (printed_answer view) ≡ printed_owners view)
best_view laws view can rules =
    let case = printed_case view in
    let answer = printed_answer view in
    let few : view.players ≤ 12 = can.players.1 in
    let first : HasCase view = rules 1 (omega arith) (omega arith) in
    let valid = first.printed.valid in
    let second : HasOwners view = rules 2 (omega arith) (omega arith) in
    let owned = owners_named view can second in
    let tree : HasTree view 3 = rules 3 (omega arith) (omega arith) in
    let short : HasShort view = rules 5 (omega arith) (omega arith) in
    let long = owners_long view can in
    let best = laws.best case answer tree.nodes valid (laws.allocation case (printed_owners view) long owned) (laws.count case (map unsigned_abs (short_of view)) (positives (utilities case answer)) short.short)
    tree.tree
    (λ number owners above node leads.
    keeps_any case answer number owners above node
    (leaf_keeps laws view 3 few tree tree owners above node leads)
    (leaf_keeps laws view 6 few tree (rules 6 (omega arith) (omega arith)) owners above node leads)
    (leaf_keeps laws view 7 few tree (rules 7 (omega arith) (omega arith)) owners above node leads)
    (leaf_keeps laws view 8 few tree (rules 8 (omega arith) (omega arith)) owners above node leads)
    (leaf_keeps laws view 9 few tree (rules 9 (omega arith) (omega arith)) owners above node leads)) in
    (valid, best, laws.again case (printed_owners view) long)

pub best_estate : EstateLaws → (bytes : List ℕ) → IsEstateCertificate bytes → PrintsBestEstate bytes
best_estate laws bytes h =
    let best = best_view laws h.view h.is_text.can h.rules in
    record { view = h.view; is_text = h.is_text; valid = best.0; best = best.1; owners = best.2 }
