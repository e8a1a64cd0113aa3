use Rattle.std.proofs.Common.{arith, ◌≡◌, ◌+◌, ◌-◌, ◌<◌, ◌++◌, ◌∷◌, [], ℕ, List, suc, length, ap, ◌∙◌, sym, subst, true, false}
use Rattle.std.proofs.lemmas.List.{length_push}
use Rattle.bid_rules.specs.declared.goods.GoodsCase.{GoodsCase}
use Rattle.bid_rules.specs.Goods.{player_count}
use Rattle.cert_reader.specs.declared.marks.TheConstants.{INNER_NODE, LEFT_OUT}
use Rattle.nash_bounds.specs.LeftOut.{may_be_left}
use Rattle.certificates.specs.Marks.{canonical_marks}
use Rattle.certificates.specs.Puts.{Puts}
use Rattle.certificates.proofs.Puts.{puts_two}
use Rattle.certificates.proofs.TreeMarks.{children_marks, children_more, marks_left, marks_node}
use Rattle.certificates.proofs.marks.+put_tree.Goals as goal
use Rattle.certificates.proofs.marks.+put_tree.Goals.{then-open_child, else-open_child}

-- one child more after what is there
next_child : (case : GoodsCase) (answer : List ℕ) (k : ℕ) (owners : List ℕ) (n used : ℕ) (old now text : List ℕ) (m end : ℕ) (child : List ℕ)
    → Puts (INNER_NODE ∷ children_marks case answer k owners n) used old now m → Puts child m now text end → canonical_marks case answer k (owners ++ (n + 1) ∷ []) ≡ child
    → Puts (INNER_NODE ∷ children_marks case answer k owners (n + 1)) used old text end
next_child case answer k owners n used old now text m end child sofar here same =
    subst (λ (marks : List ℕ). Puts (INNER_NODE ∷ marks) used old text end)
    (ap (λ ms. children_marks case answer k owners n ++ ms) (sym same) ∙ sym (children_more case answer k owners n))
    (puts_two (INNER_NODE ∷ children_marks case answer k owners n) child used old now text m end sofar here)

pub put_tree-end-requires : goal.put_tree-end-requires
put_tree-end-requires t c =
    let case = c.args.case.now in
    let answer : List ℕ = c.args.answer.now.owners.items in
    let here : c.loop-k.node.owners.items ≡ c.args.node.now.owners.items = c.loop-k.invariant.owners in
    let child : c.open_child.new.self.owners.items ≡ c.loop-k.node.owners.items ++ (c.loop-k.k + 1) ∷ [] = c.open_child.ensures.owners c.if-open_child.true in
    let open_too : may_be_left case answer c.open_child.new.self.owners.items ≡ false = ap (may_be_left case answer) child ∙ c.open_child.ensures.open c.if-open_child.true in
    let a = ap length here in
    let b = ap length child in
    let n = length_push c.loop-k.node.owners.items (c.loop-k.k + 1) in
    let whole = c.if-len-case.false in
    let long = c.len.ensures.value in
    let short = c.requires.node.short in
    (omega (arith, a, b, n, whole, long, short), (c.requires.table, (c.requires.answer, (c.open_child.ensures.node c.if-open_child.true, open_too))))

pub loop-k-preserved : goal.loop-k-preserved
loop-k-preserved t c =
    let case = c.args.case.now in
    let owners : List ℕ = c.args.node.now.owners.items in
    let answer : List ℕ = c.args.answer.now.owners.items in
    let k : ℕ = case.facts.goods - (length owners + 1) in
    let owner : ℕ = c.loop-k.k + 1 in
    let longer : List ℕ = owners ++ owner ∷ [] in
    let here : c.loop-k.node.owners.items ≡ owners = c.loop-k.invariant.owners in
    let next : c.loop-k.node.owners.items ++ owner ∷ [] ≡ longer = ap (λ (xs : List ℕ). xs ++ owner ∷ []) here in
    elim c.if-open_child.branch [
      | then-open_child w ↦
          let below : List ℕ = c.open_child.new.self.owners.items in
          let child : below ≡ longer = c.open_child.ensures.owners w.if-open_child.true ∙ next in
          let long = length_push owners owner in
          let deep : case.facts.goods - length longer ≡ k = omega (arith, long) in
          let marks : List ℕ = canonical_marks case answer (case.facts.goods - length below) below in
          let same : canonical_marks case answer k longer ≡ marks =
          ap (λ (j : ℕ). canonical_marks case answer j longer) (sym deep) ∙ ap (λ (xs : List ℕ). canonical_marks case answer (case.facts.goods - length xs) xs) (sym child) in
          let put = next_child case answer k owners c.loop-k.k c.args.used c.args.text.now c.loop-k.text w.put_tree-end.new.text c.loop-k.end w.put_tree-end.result marks
          c.loop-k.invariant.marks w.put_tree-end.ensures.marks same in
          let all : List ℕ = INNER_NODE ∷ children_marks case answer k owners owner in
          record {
            owners = ap (λ (o : _). o.owners.items) w.node-is ∙ w.ascend.ensures owners owner (w.put_tree-end.ensures.owners ∙ child);
            marks = subst (λ (o : List ℕ). Puts all c.args.used c.args.text.now o c.if-open_child.end) (sym w.text-is)
                (subst (λ (n : ℕ). Puts all c.args.used c.args.text.now w.put_tree-end.new.text n) (sym w.end-is) put);
          }
      | else-open_child w ↦
          let left : may_be_left case answer longer ≡ true = ap (may_be_left case answer) (sym next) ∙ c.open_child.ensures.left w.if-open_child.false in
          let put = next_child case answer k owners c.loop-k.k c.args.used c.args.text.now c.loop-k.text w.put-end-else-open_child.new.text c.loop-k.end w.put-end-else-open_child.result (LEFT_OUT ∷ [])
          c.loop-k.invariant.marks w.put-end-else-open_child.ensures (marks_left case answer k longer left) in
          let all : List ℕ = INNER_NODE ∷ children_marks case answer k owners owner in
          record {
            owners = ap (λ (o : _). o.owners.items) w.node-is ∙ c.open_child.ensures.same w.if-open_child.false ∙ here;
            marks = subst (λ (o : List ℕ). Puts all c.args.used c.args.text.now o c.if-open_child.end) (sym w.text-is)
                (subst (λ (n : ℕ). Puts all c.args.used c.args.text.now w.put-end-else-open_child.new.text n) (sym w.end-is) put);
          }
    ]

pub returns-clause-marks : goal.returns-clause-marks
returns-clause-marks t c =
    let case = c.args.case.now in
    let owners : List ℕ = c.args.node.now.owners.items in
    let answer : List ℕ = c.args.answer.now.owners.items in
    let k : ℕ = case.facts.goods - (length owners + 1) in
    let short : length owners < case.facts.goods = (let a = c.if-len-case.false in let b = c.requires.node.short in let l = c.len.ensures.value in omega arith) in
    let end : c.loop-k.k ≡ player_count case = (let e = c.players-k-end.ensures.value in let l = c.loop-k-test.false in let u = c.loop-k.auto.k-end in omega arith) in
    let deep : case.facts.goods - length owners ≡ suc k = omega arith in
    let node = marks_node case answer (case.facts.goods - length owners) k owners deep c.requires.open in
    subst (λ (ms : List ℕ). Puts ms c.args.used c.args.text.now c.loop-k.text c.loop-k.end)
    (ap (λ (n : ℕ). INNER_NODE ∷ children_marks case answer k owners n) end ∙ sym node) c.loop-k.invariant.marks
