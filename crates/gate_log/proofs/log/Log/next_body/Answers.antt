use Rattle.std.proofs.Common.{◌≡◌, ◌+◌, ℕ, List, [], ◌∷◌, ◌++◌, take, drop, sym, ap, subst, ◌∙◌}
use Rattle.gate_log.specs.Records.{Stands}
use Rattle.gate_log.specs.Faults.{IsFaultAfter}
use Rattle.gate_log.specs.Gate.{BeginsRecord, EndsEarly}
use Rattle.gate_log.specs.Log.{LogView, IsReading, with_ahead, past, with_gate_closed}
use Rattle.gate_log.proofs.Reading.{record_read, end_read, range_read, short_read}
use Rattle.gate_log.proofs.log.Log.next_body.Goals as goal

pub returns-in-Closed-clause-end : goal.returns-in-Closed-clause-end
returns-in-Closed-clause-end g c told_by secret bodies r shut =
    let file = g.D.Disk.seen c.args.disk.now in
    let log = c.args.self.now in
    let ahead = c.fill.new.self.ahead in
    let told = c.fill.ensures.told told_by r.size r.ahead in
    let (more, is) = c.in-Closed.ensures in
    let version : c.close.new.self.version ≡ log.version = ap (λ (v : LogView). v.version) (c.close.ensures ∙ ap with_gate_closed c.fill.ensures.same) in
    subst (λ (v : ℕ). Stands v secret bodies (g.D.Disk.seen c.fill.new.disk)) (sym version)
    (subst (Stands log.version secret bodies) (sym (c.fill.ensures.still told_by).1) (end_read file log secret bodies r ahead told more (sym (c.bytes.ensures ∙ ap (λ (v : LogView). v.ahead) c.self-2.view_is) ∙ is)))

pub returns-in-Record-clause-record : goal.returns-in-Record-clause-record
returns-in-Record-clause-record g c told_by secret bodies r opened =
    let file = g.D.Disk.seen c.args.disk.now in
    let log = c.args.self.now in
    let ahead = c.fill.new.self.ahead in
    let n = c.in-Record.length in
    let told = c.fill.ensures.told told_by r.size r.ahead in
    let is : c.pass.new.self ≡ past (with_ahead log ahead) n = c.pass.ensures ∙ ap (λ (v : LogView). past v n) c.fill.ensures.same in
    let body : c.replace.new.body.items ≡ take n (drop 5 ahead) = c.replace.ensures ∙ c.body_ahead.ensures in
    let read = record_read file log secret bodies r ahead told n (subst (λ (l : List ℕ). BeginsRecord l n) (c.bytes.ensures ∙ ap (λ (v : LogView). v.ahead) c.self-2.view_is) c.in-Record.ensures) in
    subst (λ (f : List ℕ). IsReading f c.pass.new.self secret (bodies ++ c.replace.new.body.items ∷ [])) (sym (c.fill.ensures.still told_by).1)
    (subst (λ (v : LogView). IsReading file v secret (bodies ++ c.replace.new.body.items ∷ [])) (sym is)
    (subst (λ (l : List ℕ). IsReading file (past (with_ahead log ahead) n) secret (bodies ++ l ∷ [])) (sym body) read))

pub returns-in-OutOfRange-clause-not_a_log : goal.returns-in-OutOfRange-clause-not_a_log
returns-in-OutOfRange-clause-not_a_log g c told_by secret bodies r place is =
    let file = g.D.Disk.seen c.args.disk.now in
    let log = c.args.self.now in
    let ahead = c.fill.new.self.ahead in
    let told = c.fill.ensures.told told_by r.size r.ahead in
    let (gate, more, opened, ahead_is, range) = c.in-OutOfRange.ensures in
    let at_log : c.fill.new.self.place ≡ log.place = ap (λ (v : LogView). v.place) c.fill.ensures.same in
    let told_place : c.place.result + 1 ≡ place = cc is in
    let at : log.place + 1 ≡ place = ap (λ (k : ℕ). k + 1) (sym (c.place.ensures.place ∙ at_log)) ∙ told_place in
    subst (λ (k : ℕ). IsFaultAfter log.version secret bodies k (g.D.Disk.seen c.fill.new.disk)) at
    (subst (IsFaultAfter log.version secret bodies (log.place + 1)) (sym (c.fill.ensures.still told_by).1) (range_read file log secret bodies r ahead told gate more opened (sym (c.bytes.ensures ∙ ap (λ (v : LogView). v.ahead) c.self-2.view_is) ∙ ahead_is) range))

pub returns-in-Short-clause-not_a_log : goal.returns-in-Short-clause-not_a_log
returns-in-Short-clause-not_a_log g c told_by secret bodies r place is =
    let file = g.D.Disk.seen c.args.disk.now in
    let log = c.args.self.now in
    let ahead = c.fill.new.self.ahead in
    let told = c.fill.ensures.told told_by r.size r.ahead in
    let far = c.in_ok-fill.ensures.far told_by r.size r.ahead in
    let at_log : c.fill.new.self.size ≡ log.size = ap (λ (v : LogView). v.size) c.fill.ensures.same in
    let told_place : c.size.result ≡ place = cc is in
    let at : log.size ≡ place = sym (c.size.ensures ∙ at_log) ∙ told_place in
    subst (λ (k : ℕ). IsFaultAfter log.version secret bodies k (g.D.Disk.seen c.fill.new.disk)) at
    (subst (IsFaultAfter log.version secret bodies log.size) (sym (c.fill.ensures.still told_by).1) (short_read file log secret bodies r ahead told (subst EndsEarly (c.bytes.ensures ∙ ap (λ (v : LogView). v.ahead) c.self-2.view_is) c.in-Short.ensures) far))
