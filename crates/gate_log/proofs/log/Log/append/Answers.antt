use Rattle.std.proofs.Common.{◌≡◌, ◌+◌, [], ◌∷◌, ◌++◌, ℕ, length, inl, sym, ◌∙◌, ap, subst, arith, length-append}
use Rattle.std.specs.Int.{to_le_bytes, w32}
use Rattle.split_base.specs.Disk.{Tears}
use Rattle.split_lemmas.proofs.Moments.{joined, weaker}
use Rattle.gate_log.specs.Records.{Stands, place_after, IsBeforeOrAfter, MayBeAppending, behind_gate}
use Rattle.gate_log.specs.Log.{LogView}
use Rattle.gate_log.proofs.Crash.{first_leaves, first_done, second_leaves, second_done, length-le, place_push}
use Rattle.gate_log.proofs.Writes.{appended_by, tears_first, tears_second}
use Rattle.gate_log.proofs.log.Log.append.Goals as goal

pub returns-in_err-write_synced-clause-any_moment : goal.returns-in_err-write_synced-clause-any_moment
returns-in_err-write_synced-clause-any_moment g c honest secret bodies log =
    let p = c.self.inside.place in
    let n = length c.deref.result.now in
    let body = c.args.body.now in
    let images = g.D.Disk.images c.args.disk.now in
    let mid = g.D.Disk.images c.write_synced.new.disk in
    let at : p ≡ place_after bodies = ap (λ (v : LogView). v.place) c.self.view_is ∙ log.place in
    let first = first_leaves images mid c.args.self.now.version secret bodies body p at n log.each in
    weaker g.D.Disk.moment g.D.Disk.left_since c.args.disk.now c.write_synced.new.disk (Tears images (p + 1) n) (IsBeforeOrAfter c.args.self.now.version secret bodies body) (c.write_synced.ensures.any_moment honest) (λ f torn. inl (first f torn))

pub returns-in_err-write_synced-clause-after : goal.returns-in_err-write_synced-clause-after
returns-in_err-write_synced-clause-after g c honest secret bodies log f left =
    let p = c.self.inside.place in
    let n = length c.deref.result.now in
    let body = c.args.body.now in
    let images = g.D.Disk.images c.args.disk.now in
    let mid = g.D.Disk.images c.write_synced.new.disk in
    let at : p ≡ place_after bodies = ap (λ (v : LogView). v.place) c.self.view_is ∙ log.place in
    let first = first_leaves images mid c.args.self.now.version secret bodies body p at n log.each in
    inl (first f (c.write_synced.ensures.crash honest f left))

pub returns-in_err-write_synced-2-clause-any_moment : goal.returns-in_err-write_synced-2-clause-any_moment
returns-in_err-write_synced-2-clause-any_moment g c honest secret bodies log =
    let p = c.self.inside.place in
    let n = length c.deref.result.now in
    let body = c.args.body.now in
    let images = g.D.Disk.images c.args.disk.now in
    let mid = g.D.Disk.images c.write_synced.new.disk in
    let at : p ≡ place_after bodies = ap (λ (v : LogView). v.place) c.self.view_is ∙ log.place in
    let first = first_leaves images mid c.args.self.now.version secret bodies body p at n log.each in
    let is_piece : c.deref.result.now ≡ to_le_bytes w32 (length body) ++ body ++ 0 ∷ [] = c.deref.ensures.0 ∙ c.piece_of-behind.ensures in
    let staged = first_done images mid c.args.self.now.version secret bodies body p at (g.D.Disk.seen c.args.disk.now) (g.D.Disk.seen c.write_synced.new.disk) c.deref.result.now log.each (g.met.D.Disk.seen_is_image c.args.disk.now honest) is_piece
    (c.in_ok-write_synced.ensures.written honest) (c.in_ok-write_synced.ensures.durable honest) in
    let still = c.write_synced.ensures.honest.0 honest in
    let second = second_leaves images mid c.args.self.now.version secret bodies body p at c.requires.body staged in
    joined g.D.Disk.moment g.D.Disk.left_since c.args.disk.now c.write_synced.new.disk c.write_synced-2.new.disk (Tears images (p + 1) n) (Tears mid p 1) (IsBeforeOrAfter c.args.self.now.version secret bodies body)
    (c.write_synced.ensures.any_moment honest) (c.write_synced-2.ensures.any_moment still) (λ f torn. inl (first f torn)) second

pub returns-in_err-write_synced-2-clause-after : goal.returns-in_err-write_synced-2-clause-after
returns-in_err-write_synced-2-clause-after g c honest secret bodies log f left =
    let p = c.self.inside.place in
    let n = length c.deref.result.now in
    let body = c.args.body.now in
    let images = g.D.Disk.images c.args.disk.now in
    let mid = g.D.Disk.images c.write_synced.new.disk in
    let at : p ≡ place_after bodies = ap (λ (v : LogView). v.place) c.self.view_is ∙ log.place in
    let first = first_leaves images mid c.args.self.now.version secret bodies body p at n log.each in
    let is_piece : c.deref.result.now ≡ to_le_bytes w32 (length body) ++ body ++ 0 ∷ [] = c.deref.ensures.0 ∙ c.piece_of-behind.ensures in
    let staged = first_done images mid c.args.self.now.version secret bodies body p at (g.D.Disk.seen c.args.disk.now) (g.D.Disk.seen c.write_synced.new.disk) c.deref.result.now log.each (g.met.D.Disk.seen_is_image c.args.disk.now honest) is_piece
    (c.in_ok-write_synced.ensures.written honest) (c.in_ok-write_synced.ensures.durable honest) in
    let still = c.write_synced.ensures.honest.0 honest in
    let second = second_leaves images mid c.args.self.now.version secret bodies body p at c.requires.body staged in
    second f (c.write_synced-2.ensures.crash still f left)

pub returns-clause-any_moment : goal.returns-clause-any_moment
returns-clause-any_moment g c honest secret bodies log =
    let p = c.self.inside.place in
    let n = length c.deref.result.now in
    let body = c.args.body.now in
    let images = g.D.Disk.images c.args.disk.now in
    let mid = g.D.Disk.images c.write_synced.new.disk in
    let at : p ≡ place_after bodies = ap (λ (v : LogView). v.place) c.self.view_is ∙ log.place in
    let first = first_leaves images mid c.args.self.now.version secret bodies body p at n log.each in
    let is_piece : c.deref.result.now ≡ to_le_bytes w32 (length body) ++ body ++ 0 ∷ [] = c.deref.ensures.0 ∙ c.piece_of-behind.ensures in
    let staged = first_done images mid c.args.self.now.version secret bodies body p at (g.D.Disk.seen c.args.disk.now) (g.D.Disk.seen c.write_synced.new.disk) c.deref.result.now log.each (g.met.D.Disk.seen_is_image c.args.disk.now honest) is_piece
    (c.in_ok-write_synced.ensures.written honest) (c.in_ok-write_synced.ensures.durable honest) in
    let still = c.write_synced.ensures.honest.0 honest in
    let second = second_leaves images mid c.args.self.now.version secret bodies body p at c.requires.body staged in
    joined g.D.Disk.moment g.D.Disk.left_since c.args.disk.now c.write_synced.new.disk c.write_synced-2.new.disk (Tears images (p + 1) n) (Tears mid p 1) (IsBeforeOrAfter c.args.self.now.version secret bodies body)
    (c.write_synced.ensures.any_moment honest) (c.write_synced-2.ensures.any_moment still) (λ f torn. inl (first f torn)) second

pub returns-clause-after : goal.returns-clause-after
returns-clause-after g c honest secret bodies log f left =
    let p = c.self.inside.place in
    let n = length c.deref.result.now in
    let body = c.args.body.now in
    let images = g.D.Disk.images c.args.disk.now in
    let mid = g.D.Disk.images c.write_synced.new.disk in
    let at : p ≡ place_after bodies = ap (λ (v : LogView). v.place) c.self.view_is ∙ log.place in
    let first = first_leaves images mid c.args.self.now.version secret bodies body p at n log.each in
    let is_piece : c.deref.result.now ≡ to_le_bytes w32 (length body) ++ body ++ 0 ∷ [] = c.deref.ensures.0 ∙ c.piece_of-behind.ensures in
    let staged = first_done images mid c.args.self.now.version secret bodies body p at (g.D.Disk.seen c.args.disk.now) (g.D.Disk.seen c.write_synced.new.disk) c.deref.result.now log.each (g.met.D.Disk.seen_is_image c.args.disk.now honest) is_piece
    (c.in_ok-write_synced.ensures.written honest) (c.in_ok-write_synced.ensures.durable honest) in
    let still = c.write_synced.ensures.honest.0 honest in
    let second = second_leaves images mid c.args.self.now.version secret bodies body p at c.requires.body staged in
    second f (c.write_synced-2.ensures.crash still f left)

pub returns-clause-acknowledged : goal.returns-clause-acknowledged
returns-clause-acknowledged g c honest secret bodies log =
    let p = c.self.inside.place in
    let n = length c.deref.result.now in
    let body = c.args.body.now in
    let images = g.D.Disk.images c.args.disk.now in
    let mid = g.D.Disk.images c.write_synced.new.disk in
    let at : p ≡ place_after bodies = ap (λ (v : LogView). v.place) c.self.view_is ∙ log.place in
    let first = first_leaves images mid c.args.self.now.version secret bodies body p at n log.each in
    let is_piece : c.deref.result.now ≡ to_le_bytes w32 (length body) ++ body ++ 0 ∷ [] = c.deref.ensures.0 ∙ c.piece_of-behind.ensures in
    let staged = first_done images mid c.args.self.now.version secret bodies body p at (g.D.Disk.seen c.args.disk.now) (g.D.Disk.seen c.write_synced.new.disk) c.deref.result.now log.each (g.met.D.Disk.seen_is_image c.args.disk.now honest) is_piece
    (c.in_ok-write_synced.ensures.written honest) (c.in_ok-write_synced.ensures.durable honest) in
    let still = c.write_synced.ensures.honest.0 honest in
    let second = second_leaves images mid c.args.self.now.version secret bodies body p at c.requires.body staged in
    let version : c.self.inside.version ≡ c.args.self.now.version = ap (λ (v : LogView). v.version) c.self.view_is in
    let each = second_done images mid c.args.self.now.version secret bodies body p at (g.D.Disk.seen c.write_synced.new.disk) (g.D.Disk.seen c.write_synced-2.new.disk) (g.D.Disk.images c.write_synced-2.new.disk) c.requires.body staged
    (g.met.D.Disk.seen_is_image c.write_synced.new.disk still) (c.in_ok-write_synced-2.ensures.written still) (c.in_ok-write_synced-2.ensures.durable still) in
    record {
      each = λ f left. subst (λ (v : ℕ). Stands v secret (bodies ++ body ∷ []) f) (sym version) (each f left);
      place = omega (arith, at, place_push bodies body, c.len.ensures.value, c.piece_of-behind.ensures, length-append (to_le_bytes w32 (length body) ++ body) (0 ∷ []), length-append (to_le_bytes w32 (length body)) body, length-le (length body), ap length c.piece_of-behind.ensures);
    }

pub returns-in_err-write_synced-2-clause-writes : goal.returns-in_err-write_synced-2-clause-writes
returns-in_err-write_synced-2-clause-writes g c honest =
    let p = c.self.inside.place in
    let place = c.args.self.now.place in
    let body = c.args.body.now in
    let at : p ≡ place = ap (λ (v : LogView). v.place) c.self.view_is in
    let is : c.deref.result.now ≡ behind_gate body = c.deref.ensures.0 ∙ c.piece_of-behind.ensures in
    let images = g.D.Disk.images c.args.disk.now in
    let mid = g.D.Disk.images c.write_synced.new.disk in
    let old = g.D.Disk.seen c.args.disk.now in
    let staged = g.D.Disk.seen c.write_synced.new.disk in
    let still = c.write_synced.ensures.honest.0 honest in
    joined g.D.Disk.moment g.D.Disk.left_since c.args.disk.now c.write_synced.new.disk c.write_synced-2.new.disk (Tears images (p + 1) (length c.deref.result.now)) (Tears mid p 1) (MayBeAppending images place body old)
    (c.write_synced.ensures.any_moment honest) (c.write_synced-2.ensures.any_moment still) (tears_first p place at body c.deref.result.now is images old)
    (λ f. tears_second p place at body c.deref.result.now is images mid old staged f (c.in_ok-write_synced.ensures.written honest) (c.in_ok-write_synced.ensures.durable honest))

pub returns-clause-writes : goal.returns-clause-writes
returns-clause-writes g c honest =
    let p = c.self.inside.place in
    let place = c.args.self.now.place in
    let body = c.args.body.now in
    let at : p ≡ place = ap (λ (v : LogView). v.place) c.self.view_is in
    let is : c.deref.result.now ≡ behind_gate body = c.deref.ensures.0 ∙ c.piece_of-behind.ensures in
    let images = g.D.Disk.images c.args.disk.now in
    let mid = g.D.Disk.images c.write_synced.new.disk in
    let old = g.D.Disk.seen c.args.disk.now in
    let staged = g.D.Disk.seen c.write_synced.new.disk in
    let still = c.write_synced.ensures.honest.0 honest in
    joined g.D.Disk.moment g.D.Disk.left_since c.args.disk.now c.write_synced.new.disk c.write_synced-2.new.disk (Tears images (p + 1) (length c.deref.result.now)) (Tears mid p 1) (MayBeAppending images place body old)
    (c.write_synced.ensures.any_moment honest) (c.write_synced-2.ensures.any_moment still) (tears_first p place at body c.deref.result.now is images old)
    (λ f. tears_second p place at body c.deref.result.now is images mid old staged f (c.in_ok-write_synced.ensures.written honest) (c.in_ok-write_synced.ensures.durable honest))

pub returns-clause-written : goal.returns-clause-written
returns-clause-written g c honest =
    let p = c.self.inside.place in
    let place = c.args.self.now.place in
    let body = c.args.body.now in
    let at : p ≡ place = ap (λ (v : LogView). v.place) c.self.view_is in
    let is : c.deref.result.now ≡ behind_gate body = c.deref.ensures.0 ∙ c.piece_of-behind.ensures in
    let old = g.D.Disk.seen c.args.disk.now in
    let staged = g.D.Disk.seen c.write_synced.new.disk in
    let still = c.write_synced.ensures.honest.0 honest in
    appended_by p place at body c.deref.result.now is old staged (g.D.Disk.seen c.write_synced-2.new.disk) (c.in_ok-write_synced.ensures.written honest) (c.in_ok-write_synced-2.ensures.written still)
