use Rattle.std.proofs.Common.{inr, [], rules}
use Rattle.host_journal.specs.Journal.{IsReplaying}
use Rattle.host_journal.proofs.Kept.{made_of_none}
use Rattle.host_journal.proofs.Replay.{starts_empty}
use Rattle.host_journal.proofs.opening.read_host.Goals as goal

pub returns-in_err-replay-clause-not_a_log : goal.returns-in_err-replay-clause-not_a_log
returns-in_err-replay-clause-not_a_log g c tells place is =
    let file = g.D.Disk.seen c.start.new.disk in
    let r : IsReplaying file c.in_ok-log.log c.clear.new.self.content c.in_ok-log.secret [] = starts_empty file c.in_ok-log.log c.clear.new.self.content c.in_ok-log.secret (c.in_ok-log.ensures.reading tells) c.clear.ensures.content in
    inr (c.in_err-replay.ensures.not_a_log (c.in_ok-log.ensures.still tells).0 c.in_ok-log.secret [] r place (search rules))

pub returns-clause-whole : goal.returns-clause-whole
returns-clause-whole g c tells =
    let file = g.D.Disk.seen c.start.new.disk in
    let r : IsReplaying file c.in_ok-log.log c.clear.new.self.content c.in_ok-log.secret [] = starts_empty file c.in_ok-log.log c.clear.new.self.content c.in_ok-log.secret (c.in_ok-log.ensures.reading tells) c.clear.ensures.content in
    let (all, read) = c.in_ok-replay.ensures.whole (c.in_ok-log.ensures.still tells).0 c.in_ok-log.secret [] r in
    (c.in_ok-log.secret, all, read)

pub returns-clause-made : goal.returns-clause-made
returns-clause-made g c =
    let file = g.D.Disk.seen c.start.new.disk in
    let (all, made) = c.in_ok-replay.ensures.made c.in_ok-log.secret [] (made_of_none c.clear.new.self.content c.in_ok-log.secret c.clear.ensures.content) in (
      c.in_ok-log.secret,
      all,
      record {
        of_events = made.of_events;
        of_file = λ tells.
            let r : IsReplaying file c.in_ok-log.log c.clear.new.self.content c.in_ok-log.secret [] = starts_empty file c.in_ok-log.log c.clear.new.self.content c.in_ok-log.secret (c.in_ok-log.ensures.reading tells) c.clear.ensures.content in
            made.of_file (c.in_ok-log.ensures.still tells).0 r;
      },
    )
