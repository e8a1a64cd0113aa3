use Rattle.std.proofs.Common.{◌≡◌, inl, ℕ, List, [], length, take, drop, false, IsFalse, refl, rules, sym, ap, subst, ◌∙◌, arith}
use Rattle.gate_log.specs.Ahead.{bytes_of}
use Rattle.gate_log.specs.Faults.{IsHeaderFault}
use Rattle.gate_log.specs.Log.{LogView, IsReading, secret_in}
use Rattle.gate_log.proofs.Buffer.{first_piece}
use Rattle.gate_log.proofs.Reading.{header_read, header_fault}
use Rattle.gate_log.proofs.Unique.{no_header, one_fault}
use Rattle.gate_log.proofs.log.Log.start.Goals as goal

pub returns-in-Ok-clause-reading : goal.returns-in-Ok-clause-reading
returns-in-Ok-clause-reading g c tells =
    let bytes = c.bytes.result.now in
    let file = g.D.Disk.seen c.read_on.new.disk in
    let synced = (c.in_ok-sync.ensures.still tells).0 in
    let sized = (c.in_ok-size.ensures.still synced).0 in
    let same = (c.read_on.ensures.still sized).1 in
    let front : bytes ≡ take 16384 file =
    first_piece file (g.D.Disk.seen c.size.new.self) bytes (bytes_of c.new-ahead.result) (bytes_of c.read_on.new.self) c.new-ahead.ensures (c.in_ok-read_on.ensures.told sized) same c.bytes.ensures in
    let size : c.in_ok-size.size ≡ length file = c.in_ok-size.ensures.told synced ∙ sym (ap length (same ∙ (c.in_ok-size.ensures.still synced).1)) in
    let unknown : IsFalse false = search rules in
    let log : LogView = record { place = 49; version = c.in-Ok.version; at_end = false; size = c.in_ok-size.size; ahead = bytes_of c.pass.new.self } in
    let ahead : bytes_of c.pass.new.self ≡ drop 49 bytes = c.pass.ensures ∙ ap (λ (l : List ℕ). drop 49 l) (sym c.bytes.ensures) in
    let result = header_read file bytes 16384 c.in-Ok.version front c.in-Ok.ensures.ok log refl refl unknown size ahead in
    let secret : secret_in bytes ≡ c.read_secret-secret.result = sym (c.read_secret-secret.ensures ∙ ap secret_in (c.bytes-in-Ok.ensures ∙ sym c.bytes.ensures)) in
    subst (λ (s : List ℕ). IsReading file log s []) secret result

pub returns-in-Err-clause-not_a_log : goal.returns-in-Err-clause-not_a_log
returns-in-Err-clause-not_a_log g c tells place is =
    let bytes = c.bytes.result.now in
    let file = g.D.Disk.seen c.read_on.new.disk in
    let sized = (c.in_ok-size.ensures.still (c.in_ok-sync.ensures.still tells).0).0 in
    let same = (c.read_on.ensures.still sized).1 in
    let front : bytes ≡ take 16384 file =
    first_piece file (g.D.Disk.seen c.size.new.self) bytes (bytes_of c.new-ahead.result) (bytes_of c.read_on.new.self) c.new-ahead.ensures (c.in_ok-read_on.ensures.told sized) same c.bytes.ensures in
    let at : c.in-Err.place ≡ place = cc is in
    subst (λ (k : ℕ). IsHeaderFault k file) at (header_fault file bytes 16384 c.in-Err.place front (inl (omega arith)) c.in-Err.ensures.fault)

pub returns-in-Ok-clause-exactly : goal.returns-in-Ok-clause-exactly
returns-in-Ok-clause-exactly g c tells place fault =
    let reading = returns-in-Ok-clause-reading g c tells in
    let synced = c.in_ok-sync.ensures.still tells in
    let sized = c.in_ok-size.ensures.still synced.0 in
    let same : g.D.Disk.seen c.read_on.new.disk ≡ g.D.Disk.seen c.args.disk.now = (c.read_on.ensures.still sized.0).1 ∙ sized.1 ∙ synced.1 in
    no_header c.in-Ok.version place c.read_secret-secret.result [] (g.D.Disk.seen c.read_on.new.disk) reading.begins (subst (λ (file : List ℕ). IsHeaderFault place file) (sym same) fault)

pub returns-in-Err-clause-exactly : goal.returns-in-Err-clause-exactly
returns-in-Err-clause-exactly g c tells place fault =
    let found = returns-in-Err-clause-not_a_log g c tells c.in-Err.place refl in
    let synced = c.in_ok-sync.ensures.still tells in
    let sized = c.in_ok-size.ensures.still synced.0 in
    let same : g.D.Disk.seen c.read_on.new.disk ≡ g.D.Disk.seen c.args.disk.now = (c.read_on.ensures.still sized.0).1 ∙ sized.1 ∙ synced.1 in
    one_fault c.in-Err.place place (g.D.Disk.seen c.read_on.new.disk) (inl found) (inl (subst (λ (file : List ℕ). IsHeaderFault place file) (sym same) fault))
