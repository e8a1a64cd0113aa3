use Rattle.std.proofs.Common.{◌≡◌, List, ℕ, map, sym, subst, inl, inr, ⊎_elim, rules}
use Rattle.split_base.specs.Disk.{Rests}
use Rattle.split_lemmas.proofs.Moments.{joined, rests_leave}
use Rattle.host_journal.specs.Spelling.{spelling}
use Rattle.host_journal.specs.Journal.{HasEvents, HasOpened, HoldsEvents, HoldsFrom, HoldsOne, IsFirstFault, IsOpened, IsReplayed}
use Rattle.host_journal.proofs.Raised.{opened_done, rests_torn, rests_writes, then_torn, then_writes}
use Rattle.host_journal.proofs.FirstFaults.{tells_fault}
use Rattle.host_journal.proofs.Replay.{has_opened, log_of_read, still_one, opened_of}
use Rattle.host_journal.proofs.opening.open_in.Goals as goal

pub returns-in_err-end_opening-clause-any_moment : goal.returns-in_err-end_opening-clause-any_moment
returns-in_err-end_opening-clause-any_moment g c honest secret lists each =
    let (sec, events, r) = c.in_ok-log.ensures.whole (g.met.D.Disk.honest_tells c.args.disk.now honest) in
    let old = c.args.disk.now in
    let mid = c.read_host.new.disk in
    let file = g.D.Disk.seen mid in
    let log = c.in_ok-log.log in
    let h = c.read_host.new.host.content in
    let rests = c.read_host.ensures.rests honest in
    let still = c.read_host.ensures.honest.0 honest in
    let is_log = log_of_read file (g.D.Disk.images mid) log h sec events (c.in_ok-log.ensures.one honest) r in
    let here : HoldsOne secret lists file = subst (HoldsOne secret lists) (sym rests.same) (each (g.D.Disk.seen old) (g.met.D.Disk.seen_is_image old honest)) in
    let from = still_one c.journal_law.ensures.one_meaning file log h sec secret events lists r here in
    let first = rests_leave g.D.Disk.moment g.D.Disk.left_since g.D.Disk.seen g.D.Disk.images old mid (HoldsOne secret lists) rests (λ f left. g.met.D.Disk.only_now old f honest left) each in
    joined g.D.Disk.moment g.D.Disk.left_since old mid c.end_opening.new.disk (HoldsOne secret lists) (HoldsFrom log.version sec (map spelling events)) (HoldsOne secret lists) first
    (c.end_opening.ensures.any_moment still sec (map spelling events) is_log) (λ f p. p) from

pub returns-in_err-end_opening-clause-after : goal.returns-in_err-end_opening-clause-after
returns-in_err-end_opening-clause-after g c honest secret lists each f now =
    let (sec, events, r) = c.in_ok-log.ensures.whole (g.met.D.Disk.honest_tells c.args.disk.now honest) in
    let old = c.args.disk.now in
    let mid = c.read_host.new.disk in
    let file = g.D.Disk.seen mid in
    let log = c.in_ok-log.log in
    let h = c.read_host.new.host.content in
    let rests = c.read_host.ensures.rests honest in
    let still = c.read_host.ensures.honest.0 honest in
    let is_log = log_of_read file (g.D.Disk.images mid) log h sec events (c.in_ok-log.ensures.one honest) r in
    let here : HoldsOne secret lists file = subst (HoldsOne secret lists) (sym rests.same) (each (g.D.Disk.seen old) (g.met.D.Disk.seen_is_image old honest)) in
    let from = still_one c.journal_law.ensures.one_meaning file log h sec secret events lists r here in
    from f (c.end_opening.ensures.after still sec (map spelling events) is_log f now)

pub returns-clause-any_moment : goal.returns-clause-any_moment
returns-clause-any_moment g c honest secret lists each =
    let (sec, events, r) = c.in_ok-log.ensures.whole (g.met.D.Disk.honest_tells c.args.disk.now honest) in
    let old = c.args.disk.now in
    let mid = c.read_host.new.disk in
    let file = g.D.Disk.seen mid in
    let log = c.in_ok-log.log in
    let h = c.read_host.new.host.content in
    let rests = c.read_host.ensures.rests honest in
    let still = c.read_host.ensures.honest.0 honest in
    let is_log = log_of_read file (g.D.Disk.images mid) log h sec events (c.in_ok-log.ensures.one honest) r in
    let here : HoldsOne secret lists file = subst (HoldsOne secret lists) (sym rests.same) (each (g.D.Disk.seen old) (g.met.D.Disk.seen_is_image old honest)) in
    let from = still_one c.journal_law.ensures.one_meaning file log h sec secret events lists r here in
    let first = rests_leave g.D.Disk.moment g.D.Disk.left_since g.D.Disk.seen g.D.Disk.images old mid (HoldsOne secret lists) rests (λ f left. g.met.D.Disk.only_now old f honest left) each in
    joined g.D.Disk.moment g.D.Disk.left_since old mid c.end_opening.new.disk (HoldsOne secret lists) (HoldsFrom log.version sec (map spelling events)) (HoldsOne secret lists) first
    (c.end_opening.ensures.any_moment still sec (map spelling events) is_log) (λ f p. p) from

pub returns-clause-after : goal.returns-clause-after
returns-clause-after g c honest secret lists each f now =
    let (sec, events, r) = c.in_ok-log.ensures.whole (g.met.D.Disk.honest_tells c.args.disk.now honest) in
    let old = c.args.disk.now in
    let mid = c.read_host.new.disk in
    let file = g.D.Disk.seen mid in
    let log = c.in_ok-log.log in
    let h = c.read_host.new.host.content in
    let rests = c.read_host.ensures.rests honest in
    let still = c.read_host.ensures.honest.0 honest in
    let is_log = log_of_read file (g.D.Disk.images mid) log h sec events (c.in_ok-log.ensures.one honest) r in
    let here : HoldsOne secret lists file = subst (HoldsOne secret lists) (sym rests.same) (each (g.D.Disk.seen old) (g.met.D.Disk.seen_is_image old honest)) in
    let from = still_one c.journal_law.ensures.one_meaning file log h sec secret events lists r here in
    from f (c.end_opening.ensures.after still sec (map spelling events) is_log f now)

pub returns-clause-opened : goal.returns-clause-opened
returns-clause-opened g c honest =
    let (sec, events, r) = c.in_ok-log.ensures.whole (g.met.D.Disk.honest_tells c.args.disk.now honest) in
    let mid = c.read_host.new.disk in
    let new = c.end_opening.new.disk in
    let file = g.D.Disk.seen mid in
    let log = c.in_ok-log.log in
    let h = c.read_host.new.host.content in
    let raised = c.end_opening.new.log in
    let still = c.read_host.ensures.honest.0 honest in
    let is_log = log_of_read file (g.D.Disk.images mid) log h sec events (c.in_ok-log.ensures.one honest) r in
    let now = g.met.D.Disk.seen_is_image new (c.end_opening.ensures.honest.0 still) in
    let opened = opened_of file (g.D.Disk.seen new) (g.D.Disk.images new) log raised h sec events r c.in_ok-end_opening.ensures.version now (c.in_ok-end_opening.ensures.raised still sec (map spelling events) is_log) in
    rw c.end_opening.ensures.as_read (subst (λ (f : List ℕ). IsOpened f (g.D.Disk.seen new) (g.D.Disk.images new) raised h) (c.read_host.ensures.rests honest).same opened)

pub returns-clause-made : goal.returns-clause-made
returns-clause-made g c =
    let (sec, events, with) = c.in_ok-log.ensures.made in (
      sec,
      events,
      rw c.end_opening.ensures.as_read (record {
        of_events = with.of_events;
        of_file = record {
          read = λ tells. subst (λ (f : List ℕ). HoldsEvents sec events f) (c.read_host.ensures.still tells).1 (c.in_ok-log.log.version, (with.of_file tells).has);
          holds = λ honest.
              let mid = c.read_host.new.disk in
              let new = c.end_opening.new.disk in
              let file = g.D.Disk.seen mid in
              let log = c.in_ok-log.log in
              let h = c.read_host.new.host.content in
              let raised = c.end_opening.new.log in
              let still = c.read_host.ensures.honest.0 honest in
              let r : IsReplayed file log h sec events = with.of_file (g.met.D.Disk.honest_tells c.args.disk.now honest) in
              let is_log = log_of_read file (g.D.Disk.images mid) log h sec events (c.in_ok-log.ensures.one honest) r in
              let now = g.met.D.Disk.seen_is_image new (c.end_opening.ensures.honest.0 still) in
              let opened = has_opened file (g.D.Disk.seen new) (g.D.Disk.images new) log raised h sec events r c.in_ok-end_opening.ensures.version now (c.in_ok-end_opening.ensures.raised still sec (map spelling events) is_log) in
              subst (λ (f : List ℕ). HasOpened f (g.D.Disk.seen new) (g.D.Disk.images new) raised h sec events) (c.read_host.ensures.rests honest).same opened;
        };
      }),
    )

pub returns-clause-exactly : goal.returns-clause-exactly
returns-clause-exactly g c tells place fault =
    let (sec, events, with) = c.in_ok-log.ensures.made in
    let first = subst (λ (f : List ℕ). IsFirstFault place f) (sym (c.read_host.ensures.still tells).1) fault in
    c.events_law.ensures.no_fault c.in_ok-log.log.version place sec events (g.D.Disk.seen c.read_host.new.disk) (with.of_file tells).has first

pub returns-in_err-log-clause-exactly : goal.returns-in_err-log-clause-exactly
returns-in_err-log-clause-exactly g c tells place fault =
    let first = subst (λ (f : List ℕ). IsFirstFault place f) (sym (c.read_host.ensures.still tells).1) fault in
    tells_fault (g.D.Disk.seen c.read_host.new.disk) place c.events_law.ensures.one_fault c.from_residual.result (search rules) (λ at is. c.read_host.ensures.not_a_log tells at (search rules)) first

pub returns-in_err-end_opening-clause-exactly : goal.returns-in_err-end_opening-clause-exactly
returns-in_err-end_opening-clause-exactly g c tells place fault =
    let (sec, events, with) = c.in_ok-log.ensures.made in
    let first = subst (λ (f : List ℕ). IsFirstFault place f) (sym (c.read_host.ensures.still tells).1) fault in
    absurd (c.events_law.ensures.no_fault c.in_ok-log.log.version place sec events (g.D.Disk.seen c.read_host.new.disk) (with.of_file tells).has first)

pub returns-in_err-log-clause-writes : goal.returns-in_err-log-clause-writes
returns-in_err-log-clause-writes g c honest =
    let old = c.args.disk.now in
    rests_writes g.D.Disk.seen g.D.Disk.images g.D.Disk.moment g.D.Disk.left_since old c.read_host.new.disk (c.read_host.ensures.rests honest) (λ f left. g.met.D.Disk.only_now old f honest left)

pub returns-in_err-log-clause-torn : goal.returns-in_err-log-clause-torn
returns-in_err-log-clause-torn g c honest = rests_torn (g.D.Disk.images c.args.disk.now) (g.D.Disk.images c.read_host.new.disk) (c.read_host.ensures.rests honest).adds_none

pub returns-in_err-end_opening-clause-writes : goal.returns-in_err-end_opening-clause-writes
returns-in_err-end_opening-clause-writes g c honest =
    let old = c.args.disk.now in
    then_writes g.D.Disk.seen g.D.Disk.images g.D.Disk.moment g.D.Disk.left_since old c.read_host.new.disk c.end_opening.new.disk (c.read_host.ensures.rests honest) (λ f left. g.met.D.Disk.only_now old f honest left)
    (c.end_opening.ensures.writes (c.read_host.ensures.honest.0 honest))

pub returns-in_err-end_opening-clause-torn : goal.returns-in_err-end_opening-clause-torn
returns-in_err-end_opening-clause-torn g c honest =
    then_torn (g.D.Disk.images c.args.disk.now) (g.D.Disk.images c.read_host.new.disk) (g.D.Disk.images c.end_opening.new.disk) (c.read_host.ensures.rests honest).adds_none
    (c.end_opening.ensures.torn (c.read_host.ensures.honest.0 honest))

pub returns-clause-writes : goal.returns-clause-writes
returns-clause-writes g c honest =
    let old = c.args.disk.now in
    then_writes g.D.Disk.seen g.D.Disk.images g.D.Disk.moment g.D.Disk.left_since old c.read_host.new.disk c.end_opening.new.disk (c.read_host.ensures.rests honest) (λ f left. g.met.D.Disk.only_now old f honest left)
    (c.end_opening.ensures.writes (c.read_host.ensures.honest.0 honest))

pub returns-clause-torn : goal.returns-clause-torn
returns-clause-torn g c honest =
    then_torn (g.D.Disk.images c.args.disk.now) (g.D.Disk.images c.read_host.new.disk) (g.D.Disk.images c.end_opening.new.disk) (c.read_host.ensures.rests honest).adds_none
    (c.end_opening.ensures.torn (c.read_host.ensures.honest.0 honest))

pub returns-clause-done : goal.returns-clause-done
returns-clause-done g c honest =
    let (sec, events, r) = c.in_ok-log.ensures.whole (g.met.D.Disk.honest_tells c.args.disk.now honest) in
    opened_done g.D.Disk.seen g.D.Disk.moment c.args.disk.now c.read_host.new.disk c.end_opening.new.disk c.in_ok-log.log c.read_host.new.host.content sec events (c.read_host.ensures.rests honest).same (c.in_ok-log.ensures.tick honest) r
    (c.in_ok-end_opening.ensures.done (c.read_host.ensures.honest.0 honest))

pub returns-clause-raised_whole : goal.returns-clause-raised_whole
returns-clause-raised_whole g c honest =
    let (sec, events, r) = c.in_ok-log.ensures.whole (g.met.D.Disk.honest_tells c.args.disk.now honest) in
    let rests = c.read_host.ensures.rests honest in
    ⊎_elim
    (λ (one : c.in_ok-log.log.version ≡ 1). inr (sec, events, subst (HasEvents 1 sec events) rests.same (subst (λ (v : ℕ). HasEvents v sec events (g.D.Disk.seen c.read_host.new.disk)) one r.has)))
    (λ same. inl (subst (Rests g.D.Disk.seen g.D.Disk.images g.D.Disk.moment g.D.Disk.left_since c.args.disk.now) (sym same) rests))
    c.end_opening.ensures.changed
