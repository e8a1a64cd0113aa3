-- How the judge takes the lines of a certificate of goods: their order, and what it knows after each.
use Rattle.std.specs.Prelude.{◌≡◌, ℕ, pos, ◌≤◌, List, [], ◌∷◌, ◌++◌, length, map, All, ⊤}
use Rattle.bid_rules.specs.declared.limits.TheConstants.{MOST_GOODS, MOST_MEMBERS}
use Rattle.cert_reader.specs.Gathered.{Gathered, line_said}
use Rattle.cert_reader.specs.GoodsViews.{GoodsView}
use Rattle.cert_reader.specs.Text.{Marks, Said}
use Rattle.cert_reader.specs.Views.{goods_said, says}
use Rattle.goods_rules.specs.State.{IsState, StandsFor}
use Rattle.goods_rules.specs.declared.state.GoodsState.{GoodsState}
use Rattle.cert_checker.specs.FaresLines.{AreWritten, front_said}
use Rattle.cert_checker.specs.declared.goods.GoodsLines.{GoodsLines}
use Rattle.cert_checker.specs.declared.goods.GoodsLines.TheVariants.{Head, Tree}

-- what the lines between the kind and the tree say: how many players and goods, the limit, the member of each player, the points of each player, the owners,
-- and the number of steps
abbrev pub before_tree : GoodsView → List Said
before_tree view = says (pos (length view.who) ∷ []) ∷ says (pos view.goods ∷ []) ∷ says (view.limit ∷ []) ∷ says view.who
    ∷ (map says view.values ++ (says view.owners ∷ says (view.steps ∷ []) ∷ []))

-- a text of goods can say this: each list is as long as the counts say, and the numbers that are judged can be written
pub record IsWholeGoods (view : GoodsView) : Type 0 where
  pub players : length view.who ≤ MOST_MEMBERS
  pub goods : view.goods ≤ MOST_GOODS
  pub counted : AreWritten (pos view.goods ∷ [])
  pub limit : AreWritten (view.limit ∷ [])
  pub who : AreWritten view.who
  pub rows : length view.values ≡ length view.who
  pub columns : All (λ row. length row ≡ view.goods) view.values
  pub values : All AreWritten view.values
  pub each : length view.owners ≡ view.goods
  pub owners : AreWritten view.owners

-- after the lines said so far a text of goods goes on with these lines
pub record GoodsGoOn (said rest : List Said) : Type 0 where
  pub view : GoodsView
  pub whole : IsWholeGoods view
  pub is : goods_said view ≡ said ++ rest

-- the lines said so far are some lines and the marks of a tree, and the judge knows these marks in every text with these lines before the tree
pub record IsInTree (said : List Said) (state : GoodsState) : Type 0 where
  pub lines : List Gathered
  pub taken : List ℕ
  pub sound : IsState state
  pub is : said ≡ front_said (map line_said lines ++ Marks taken ∷ [])
  pub stands : (view : GoodsView) → IsWholeGoods view → before_tree view ≡ map line_said lines → StandsFor view taken state

-- the judge knows the lines said so far
abbrev pub IsAtGoods : List Said → GoodsLines → Type 0
IsAtGoods said (Head lines) = said ≡ front_said (map line_said lines.items)
IsAtGoods said (Tree state) = IsInTree said state

-- the judge has taken no mark of the tree
abbrev pub HasNoTree : GoodsLines → Type 0
HasNoTree (Head lines) = ⊤
HasNoTree (Tree state) = ⊥
