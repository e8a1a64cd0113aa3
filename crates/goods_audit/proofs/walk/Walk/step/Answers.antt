use Rattle.std.proofs.Common.{◌≡◌, ℕ, ◌<◌, List, ◌∷◌, length, true, false, arith, sym, ap, ◌∙◌, subst}
use Rattle.goods_audit.specs.Domination.{leaves_room}
use Rattle.goods_audit.specs.Paths.{later_ones, to_come}
use Rattle.goods_audit.specs.declared.paths.Path.{Path}
use Rattle.goods_audit.proofs.PathLists.{come_down, fewer_later}
use Rattle.goods_audit.proofs.WalkSteps.{come_whole, count_whole, seen_short, seen_shut, seen_whole}
use Rattle.goods_audit.proofs.walk.Walk.step.Goals as goal

pub returns-then-not-has_room-clause-fewer : goal.returns-then-not-has_room-clause-fewer
returns-then-not-has_room-clause-fewer c =
    let case = c.args.case.now in
    let prefix = c.args.self.now.path.owners.items in
    subst (λ (xs : List (List ℕ)). length xs < length (to_come case prefix)) (sym c.leave.ensures.next) (fewer_later case prefix c.requires.some)

pub returns-then-not-has_room-clause-goes : goal.returns-then-not-has_room-clause-goes
returns-then-not-has_room-clause-goes c owners whole long =
    let case = c.args.case.now in
    let prefix = c.args.self.now.path.owners.items in
    let shut : leaves_room case owners prefix ≡ false = sym (c.has_room.ensures owners prefix whole long c.requires.path.lanes) ∙ c.if-not-has_room.true in
    let seen = seen_shut c.longer_prefix_law.ensures.points c.longer_prefix_law.ensures.top case owners prefix (to_come case c.leave.new.self.owners.items) c.requires.some c.requires.path.short shut c.leave.ensures.next in
    let count = seen.0 in
    record { count = omega (arith, count); first = λ all h. seen.1 all c.args.self.now.first h }

pub returns-then-len-case-clause-fewer : goal.returns-then-len-case-clause-fewer
returns-then-len-case-clause-fewer c =
    let case = c.args.case.now in
    let prefix = c.args.self.now.path.owners.items in
    let next = to_come case c.descend.new.self.owners.items in
    let count = c.len.ensures.value in
    let test = c.if-len-case.true in
    let some = c.requires.case.some in
    let each = c.requires.case.each in
    let come : to_come case prefix ≡ prefix ∷ next =
    come_down case prefix c.requires.some (omega (arith, count, test)) (omega (arith, some, each)) ∙ ap (λ (xs : List ℕ). prefix ∷ to_come case xs) (sym c.descend.ensures.owners) in
    let long : length (to_come case prefix) ≡ length (prefix ∷ next) = ap length come in
    omega (arith, long)

pub returns-then-len-case-clause-goes : goal.returns-then-len-case-clause-goes
returns-then-len-case-clause-goes c owners whole long =
    let case = c.args.case.now in
    let prefix = c.args.self.now.path.owners.items in
    let next = to_come case c.descend.new.self.owners.items in
    let count = c.len.ensures.value in
    let test = c.if-len-case.true in
    let some = c.requires.case.some in
    let each = c.requires.case.each in
    let short : length prefix < case.facts.goods = omega (arith, count, test) in
    let come : to_come case prefix ≡ prefix ∷ next =
    come_down case prefix c.requires.some short (omega (arith, some, each)) ∙ ap (λ (xs : List ℕ). prefix ∷ to_come case xs) (sym c.descend.ensures.owners) in
    let room : leaves_room case owners prefix ≡ true = sym (c.has_room.ensures owners prefix whole long c.requires.path.lanes) ∙ c.if-not-has_room.false in
    let seen = seen_short case owners prefix next short room come in
    let one = seen.0 in
    record { count = omega (arith, one); first = λ all h. seen.1 all c.args.self.now.first h }

pub returns-clause-fewer : goal.returns-clause-fewer
returns-clause-fewer c =
    let case = c.args.case.now in
    let prefix = c.args.self.now.path.owners.items in
    let next : to_come case c.leave-2.new.self.owners.items ≡ later_ones case prefix = c.leave-2.ensures.next ∙ ap (λ (path : Path). later_ones case path.owners.items) c.keep.ensures.path in
    subst (λ (xs : List (List ℕ)). length xs < length (to_come case prefix)) (sym next) (fewer_later case prefix c.requires.some)

pub returns-clause-goes : goal.returns-clause-goes
returns-clause-goes c owners whole long =
    let case = c.args.case.now in
    let prefix = c.args.self.now.path.owners.items in
    let next = to_come case c.leave-2.new.self.owners.items in
    let is : next ≡ later_ones case prefix = c.leave-2.ensures.next ∙ ap (λ (path : Path). later_ones case path.owners.items) c.keep.ensures.path in
    let count = c.len.ensures.value in
    let test = c.if-len-case.false in
    let short = c.requires.path.short in
    let all_owned : length prefix ≡ case.facts.goods = omega (arith, count, test, short) in
    let come : to_come case prefix ≡ prefix ∷ next = come_whole case prefix c.requires.some all_owned ∙ ap (λ (xs : List (List ℕ)). prefix ∷ xs) (sym is) in
    let room : leaves_room case owners prefix ≡ true = sym (c.has_room.ensures owners prefix whole long c.requires.path.lanes) ∙ c.if-not-has_room.false in
    let one = count_whole case owners prefix next room come in
    let more = c.keep.ensures.openings in
    record {
      count = omega (arith, one, more);
      first = λ all h. seen_whole case owners prefix next all c.args.self.now.first c.keep.new.self.first all_owned room come c.keep.ensures.earlier c.keep.ensures.new h;
    }
