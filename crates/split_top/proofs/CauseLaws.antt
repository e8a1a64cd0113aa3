-- What each status shows, from the ending and the text that goes with it.
use Rattle.std.proofs.Common.{◌≡◌, ◌⊎◌, ◌+◌, ◌-◌, ◌^◌, ◌<◌, ◌≤◌, ℕ, List, Result, Ok, Err, inl, inr, refl, sym, ⊎_elim, subst, arith}
use Rattle.std.proofs.lemmas.Bool.{cases_lt}
use Rattle.command_results.specs.Endings.{owed}
use Rattle.command_results.specs.ObjectUse.{HasNoFault, HasOneFault, HasWritten}
use Rattle.command_results.specs.declared.stop.Stop.{Stop}
use Rattle.command_results.specs.declared.stop.Stop.TheVariants.{Void, OverLimit, NotTwo, BrokenRule, BadWords, TooLong, BadCase, BrokenLine, BadReply, BadStatus, BadJournal, ReadFault, StoreFault, PortFault, NoMemory}
use Rattle.gate_log.specs.declared.fault.LogFault.{LogFault}
use Rattle.host_commands.specs.Files.{state_of}
use Rattle.host_journal.specs.States.{State}
use Rattle.serving.specs.Served.{LinkTells}
use Rattle.remote_check.specs.declared.request.Words.{Words}
use Rattle.split_base.specs.declared.clock.Clock.{Ghosts as ClockTells}
use Rattle.split_base.specs.declared.dial.Dial.{Ghosts as DialTells}
use Rattle.split_base.specs.declared.disk.Disk.{Ghosts as DiskTells}
use Rattle.split_base.specs.declared.port.Port.{Ghosts as PortTells}
use Rattle.split_base.specs.Faults.{HasRisen, counted}
use Rattle.split_top.specs.Audits.{faults_behind}
use Rattle.gate_log.specs.declared.fault.LogFault.TheVariants as fault
use Rattle.host_commands.specs.Files.{Dumps, FailedOnce, Makes, Opens, stop_of}
use Rattle.host_commands.specs.Serves.{RunEnds, Serves, ServesOpened}
use Rattle.input_commands.specs.declared.command.InputCommand.{InputCommand}
use Rattle.input_commands.specs.declared.command.InputCommand.TheVariants.{Solve, Report, Check, Weigh, Winner, CheckWinner}
use Rattle.input_commands.specs.Answers.{Answers}
use Rattle.remote_check.specs.declared.ends.FetchEnd.{FetchEnd}
use Rattle.remote_check.specs.declared.ends.FetchEnd.TheVariants as fetch
use Rattle.rule_verdicts.specs.declared.verdict.Verdict.{Verdict}
use Rattle.rule_verdicts.specs.declared.verdict.Verdict.TheVariants.{No, Yes}
use Rattle.split_top.specs.Audits.{Audits, fetch_ending}
use Rattle.split_top.specs.Causes.{HasCauses, TakesMemory}
use Rattle.split_top.specs.Commands.{AreNoRow, Names}
use Rattle.split_top.specs.Outside.{Outside, UsesNothing}
use Rattle.split_top.specs.Runs.{Came, Comes, Ran, OutsideTells}
use Rattle.split_top.specs.declared.command.Command.{Command}
use Rattle.split_top.specs.declared.command.Command.TheVariants.{Init, Serve, Dump, Trial, Audit, Read}

-- an ending without a text
abbrev ends : Stop → Result (List ℕ) Stop
ends stop = Err stop

-- which count a fault of the store shows: that of the disk
make_store : {D : Type 0} (d : DiskTells D) (disk after : D) (secret : List ℕ) → Makes d disk after secret (Err StoreFault) → FailedOnce (d.faults disk) (d.faults after)
make_store d disk after secret (Makes.made is count none says) = cc is
make_store d disk after secret (Makes.filled is count told says) = cc is
make_store d disk after secret (Makes.failed is once told says) = once

-- a file that could not be opened
open_store : {D : Type 0} (d : DiskTells D) (disk after : D) (why : LogFault) → Opens d disk after (Err why) → ends StoreFault ≡ ends (stop_of why) → FailedOnce (d.faults disk) (d.faults after)
open_store d disk after fault.Disk opens is = opens.failed refl
open_store d disk after (fault.NotALog place) opens is = cc is
open_store d disk after fault.NoMemory opens is = cc is

dump_store : {D : Type 0} (d : DiskTells D) (disk after : D) → Dumps d disk after (Err StoreFault) → FailedOnce (d.faults disk) (d.faults after)
dump_store d disk after (Dumps.dumped serving opens is) = cc is
dump_store d disk after (Dumps.no_rows serving opens is) = cc is
dump_store d disk after (Dumps.not_opened why opens is) = open_store d disk after why opens is

run_port : {P L : Type 0} (p : PortTells P L) (port after : P) (count number : ℕ) → RunEnds p port after count number (Err PortFault) → FailedOnce (p.faults port) (p.faults after)
run_port p port after count number (RunEnds.told is still most few) = cc is
run_port p port after count number (RunEnds.cut is once most) = once

run_store : {P L : Type 0} (p : PortTells P L) (port after : P) (count number : ℕ) → RunEnds p port after count number (Err StoreFault) → ⊥
run_store p port after count number (RunEnds.told is still most few) = cc is
run_store p port after count number (RunEnds.cut is once most) = cc is

-- a file that isn't opened is no fault of a port
not_port : (why : LogFault) → ends PortFault ≡ ends (stop_of why) → ⊥
not_port fault.Disk is = cc is
not_port (fault.NotALog place) is = cc is
not_port fault.NoMemory is = cc is

module _ {D P L C : Type 0} (d : DiskTells D) (p : PortTells P L) (links : LinkTells L) (c : ClockTells C) (disk after : D) (port port_after : P) (clock clock_after : C) (port_number count : ℕ) where
  opened_store : (w : D × State) → ServesOpened d p links c w after port port_after clock clock_after port_number count (Err StoreFault) → ⊥
  opened_store w (ServesOpened.deaf at asked none once is) = cc is
  opened_store w (ServesOpened.ran heard listens number runs ends) = run_store p heard port_after count number ends

  serve_store : Serves d p links c disk after port port_after clock clock_after port_number count (Err StoreFault) → FailedOnce (d.faults disk) (d.faults after)
  serve_store (Serves.no_routes same still asked is) = cc is
  serve_store (Serves.not_opened why opens still asked is) = open_store d disk after why opens is
  serve_store (Serves.opened serving between opens once served) = absurd (opened_store (between, state_of opens.opened) served)

  opened_port : (w : D × State) → ServesOpened d p links c w after port port_after clock clock_after port_number count (Err PortFault) → FailedOnce (p.faults port) (p.faults port_after)
  opened_port w (ServesOpened.deaf at asked none once is) = once
  opened_port w (ServesOpened.ran heard listens number runs ends) =
      subst (λ (n : ℕ). FailedOnce n (p.faults port_after)) listens.still (run_port p heard port_after count number ends)

  serve_port : Serves d p links c disk after port port_after clock clock_after port_number count (Err PortFault) → FailedOnce (p.faults port) (p.faults port_after)
  serve_port (Serves.no_routes same still asked is) = cc is
  serve_port (Serves.not_opened why opens still asked is) = absurd (not_port why is)
  serve_port (Serves.opened serving between opens once served) = opened_port (between, state_of opens.opened) served

-- no answer of a fetch is a fault of the store or of a read, or a lack of memory
no_store : (answer : Result Verdict FetchEnd) → ends StoreFault ≡ fetch_ending answer → ⊥
no_store (Ok Yes) is = cc is
no_store (Ok (No rule)) is = cc is
no_store (Err fetch.Reply) is = cc is
no_store (Err (fetch.Status code)) is = cc is
no_store (Err (fetch.NotText line)) is = cc is
no_store (Err fetch.TooLong) is = cc is
no_store (Err fetch.LinkFault) is = cc is

no_read : (answer : Result Verdict FetchEnd) → ends ReadFault ≡ fetch_ending answer → ⊥
no_read (Ok Yes) is = cc is
no_read (Ok (No rule)) is = cc is
no_read (Err fetch.Reply) is = cc is
no_read (Err (fetch.Status code)) is = cc is
no_read (Err (fetch.NotText line)) is = cc is
no_read (Err fetch.TooLong) is = cc is
no_read (Err fetch.LinkFault) is = cc is

no_memory : (answer : Result Verdict FetchEnd) → ends NoMemory ≡ fetch_ending answer → ⊥
no_memory (Ok Yes) is = cc is
no_memory (Ok (No rule)) is = cc is
no_memory (Err fetch.Reply) is = cc is
no_memory (Err (fetch.Status code)) is = cc is
no_memory (Err (fetch.NotText line)) is = cc is
no_memory (Err fetch.TooLong) is = cc is
no_memory (Err fetch.LinkFault) is = cc is

-- where it is a fault of the port, the link has failed, which the dialer counts
link_failed : (before after : ℕ) (answer : Result Verdict FetchEnd) → ends PortFault ≡ fetch_ending answer → after ≡ faults_behind before answer → after ≡ counted before
link_failed before after (Ok Yes) is count = cc is
link_failed before after (Ok (No rule)) is count = cc is
link_failed before after (Err fetch.Reply) is count = cc is
link_failed before after (Err (fetch.Status code)) is count = cc is
link_failed before after (Err (fetch.NotText line)) is count = cc is
link_failed before after (Err fetch.TooLong) is count = cc is
link_failed before after (Err fetch.LinkFault) is count = count

-- a count that goes up by one has risen
has_risen : (before after : ℕ) → (2 ^ 64 - 1 < before + 1) ⊎ (before + 1 ≤ 2 ^ 64 - 1) → after ≡ counted before → HasRisen before after
has_risen before after (inl full) count = inr (omega (arith, count, full))
has_risen before after (inr room) count = inl (omega (arith, count, room))

pub once_more : (before after : ℕ) → after ≡ counted before → FailedOnce before after
once_more before after count = (has_risen before after (cases_lt (2 ^ 64 - 1) (before + 1)) count, count)

-- what is told of files and ports in no other way
module _ (stop : Stop) (not_opened : (why : LogFault) → ends stop ≡ ends (stop_of why) → ⊥) where
  make_never : {D : Type 0} (d : DiskTells D) (disk after : D) (secret : List ℕ) → Makes d disk after secret (Err stop) → ⊥
  make_never d disk after secret (Makes.made is count none says) = cc is
  make_never d disk after secret (Makes.filled is count told says) = not_opened (fault.NotALog 0) is
  make_never d disk after secret (Makes.failed is once told says) = not_opened fault.Disk is

  dump_never : {D : Type 0} (d : DiskTells D) (disk after : D) → Dumps d disk after (Err stop) → ⊥
  dump_never d disk after (Dumps.dumped serving opens is) = cc is
  dump_never d disk after (Dumps.no_rows serving opens is) = not_opened fault.NoMemory is
  dump_never d disk after (Dumps.not_opened why opens is) = not_opened why is

  module _ (not_port : ends stop ≡ ends PortFault → ⊥) where
    run_never : {P L : Type 0} (p : PortTells P L) (port after : P) (count number : ℕ) → RunEnds p port after count number (Err stop) → ⊥
    run_never p port after count number (RunEnds.told is still most few) = cc is
    run_never p port after count number (RunEnds.cut is once most) = not_port is

    module _ {D P L C : Type 0} (d : DiskTells D) (p : PortTells P L) (links : LinkTells L) (c : ClockTells C) (disk after : D) (port port_after : P) (clock clock_after : C) (port_number count : ℕ) where
      opened_never : (w : D × State) → ServesOpened d p links c w after port port_after clock clock_after port_number count (Err stop) → ⊥
      opened_never w (ServesOpened.deaf at asked none once is) = not_port is
      opened_never w (ServesOpened.ran heard listens number runs ends) = run_never p heard port_after count number ends

      serve_never : Serves d p links c disk after port port_after clock clock_after port_number count (Err stop) → ⊥
      serve_never (Serves.no_routes same still asked is) = not_opened fault.NoMemory is
      serve_never (Serves.not_opened why opens still asked is) = not_opened why is
      serve_never (Serves.opened serving between opens once served) = opened_never (between, state_of opens.opened) served

-- a file that isn't opened is no fault of a read, or of a port
file_not_read : (why : LogFault) → ends ReadFault ≡ ends (stop_of why) → ⊥
file_not_read fault.Disk is = cc is
file_not_read (fault.NotALog place) is = cc is
file_not_read fault.NoMemory is = cc is

module _ {L X : Type 0} (x : DialTells X L) (tells : LinkTells L) (before after : X) (port : ℕ) (asked : Words) where
  audit_port : Audits x tells before after port asked (Err PortFault) → FailedOnce (x.faults before) (x.faults after)
  audit_port (once, inl none) = once_more (x.faults before) (x.faults after) none.fault
  audit_port (once, inr fetched) = once_more (x.faults before) (x.faults after) (link_failed (x.faults before) (x.faults after) fetched.answer fetched.is fetched.fault)

  audit_not : (stop : Stop) → (ends stop ≡ ends PortFault → ⊥) → ((answer : Result Verdict FetchEnd) → ends stop ≡ fetch_ending answer → ⊥) → Audits x tells before after port asked (Err stop) → ⊥
  audit_not stop dial fetch (once, inl none) = dial none.is
  audit_not stop dial fetch (once, inr fetched) = fetch fetched.answer fetched.is

-- what reads an input answers no fault of the store or of a port
no_answer : (command : InputCommand) (bytes : List ℕ) → Answers command bytes (Err StoreFault) ⊎ Answers command bytes (Err PortFault) → ⊥
no_answer (Solve workers) bytes (inl h) = h.2
no_answer (Solve workers) bytes (inr h) = h.2
no_answer (Report workers) bytes (inl h) = h.2
no_answer (Report workers) bytes (inr h) = h.2
no_answer Check bytes (inl h) = h
no_answer Check bytes (inr h) = h
no_answer Weigh bytes (inl h) = h.2.2
no_answer Weigh bytes (inr h) = h.2.2
no_answer Winner bytes (inl h) = h.2
no_answer Winner bytes (inr h) = h.2
no_answer CheckWinner bytes (inl h) = h
no_answer CheckWinner bytes (inr h) = h

no_memory_made : {D : Type 0} (d : DiskTells D) (disk after : D) (secret : List ℕ) → Makes d disk after secret (Err NoMemory) → ⊥
no_memory_made d disk after secret (Makes.made is count none says) = cc is
no_memory_made d disk after secret (Makes.filled is count told says) = cc is
no_memory_made d disk after secret (Makes.failed is once told says) = cc is

-- nor bad words
no_bad_words : (why : LogFault) → ends BadWords ≡ ends (stop_of why) → ⊥
no_bad_words fault.Disk is = cc is
no_bad_words (fault.NotALog place) is = cc is
no_bad_words fault.NoMemory is = cc is

no_fetch_words : (answer : Result Verdict FetchEnd) → ends BadWords ≡ fetch_ending answer → ⊥
no_fetch_words (Ok Yes) is = cc is
no_fetch_words (Ok (No rule)) is = cc is
no_fetch_words (Err fetch.Reply) is = cc is
no_fetch_words (Err (fetch.Status code)) is = cc is
no_fetch_words (Err (fetch.NotText line)) is = cc is
no_fetch_words (Err fetch.TooLong) is = cc is
no_fetch_words (Err fetch.LinkFault) is = cc is

no_answer_words : (command : InputCommand) (bytes : List ℕ) → Answers command bytes (Err BadWords) → ⊥
no_answer_words (Solve workers) bytes h = h.2
no_answer_words (Report workers) bytes h = h.2
no_answer_words Check bytes h = h
no_answer_words Weigh bytes h = h.2.2
no_answer_words Winner bytes h = h.2
no_answer_words CheckWinner bytes h = h

module _ {D P L C X M : Type 0} (tells : OutsideTells D P L C X M) (outside : Outside D P C X) where
  -- a fault of the store shows in the disk's count
  store_of : (command : Command) → Came tells outside command (Err StoreFault) → FailedOnce (tells.disk.faults outside.disk) (tells.disk.faults outside.disk_now)
  store_of (Init secret) h = make_store tells.disk outside.disk outside.disk_now secret h.1
  store_of (Serve port workers count) h =
      serve_store tells.disk tells.port tells.links tells.clock outside.disk outside.disk_now outside.port outside.port_now outside.clock outside.clock_now port count h.1
  store_of Dump h = dump_store tells.disk outside.disk outside.disk_now h.1
  store_of (Trial number workers) h = absurd h.1
  store_of (Audit port asked) h = absurd (audit_not tells.dialer tells.dialled outside.dialer outside.dialer_now port asked StoreFault (λ e. cc e) no_store h.1)
  store_of (Read reads) h = absurd (no_answer reads h.1.0 (inl h.1.2))

  -- a fault of a port in the port's or the dialer's
  port_of : (command : Command) → Came tells outside command (Err PortFault)
      → FailedOnce (tells.port.faults outside.port) (tells.port.faults outside.port_now) ⊎ FailedOnce (tells.dialer.faults outside.dialer) (tells.dialer.faults outside.dialer_now)
  port_of (Init secret) h = absurd (make_never PortFault not_port tells.disk outside.disk outside.disk_now secret h.1)
  port_of (Serve port workers count) h =
      inl (serve_port tells.disk tells.port tells.links tells.clock outside.disk outside.disk_now outside.port outside.port_now outside.clock outside.clock_now port count h.1)
  port_of Dump h = absurd (dump_never PortFault not_port tells.disk outside.disk outside.disk_now h.1)
  port_of (Trial number workers) h = absurd h.1
  port_of (Audit port asked) h = inr (audit_port tells.dialer tells.dialled outside.dialer outside.dialer_now port asked h.1)
  port_of (Read reads) h = absurd (no_answer reads h.1.0 (inr h.1.2))

  -- a fault of a read in the input's
  read_of : (command : Command) → Came tells outside command (Err ReadFault) → HasOneFault outside.input
  read_of (Init secret) h = absurd (make_never ReadFault file_not_read tells.disk outside.disk outside.disk_now secret h.1)
  read_of (Serve port workers count) h = absurd (serve_never ReadFault file_not_read (λ e. cc e) tells.disk tells.port tells.links tells.clock outside.disk outside.disk_now outside.port outside.port_now outside.clock outside.clock_now port count h.1)
  read_of Dump h = absurd (dump_never ReadFault file_not_read tells.disk outside.disk outside.disk_now h.1)
  read_of (Trial number workers) h = absurd h.1
  read_of (Audit port asked) h = absurd (audit_not tells.dialer tells.dialled outside.dialer outside.dialer_now port asked ReadFault (λ e. cc e) no_read h.1)
  read_of (Read reads) h = h.1.0

  -- and memory runs out only in a command that takes some
  memory_of : (command : Command) → Came tells outside command (Err NoMemory) → TakesMemory command
  memory_of (Init secret) h = absurd (no_memory_made tells.disk outside.disk outside.disk_now secret h.1)
  memory_of (Serve port workers count) h = tt
  memory_of Dump h = tt
  memory_of (Trial number workers) h = tt
  memory_of (Audit port asked) h = absurd (audit_not tells.dialer tells.dialled outside.dialer outside.dialer_now port asked NoMemory (λ e. cc e) no_memory h.1)
  memory_of (Read reads) h = h.1.0

  never_bad : (command : Command) → Came tells outside command (Err BadWords) → ⊥
  never_bad (Init secret) h = make_never BadWords no_bad_words tells.disk outside.disk outside.disk_now secret h.1
  never_bad (Serve port workers count) h =
      serve_never BadWords no_bad_words (λ e. cc e) tells.disk tells.port tells.links tells.clock outside.disk outside.disk_now outside.port outside.port_now outside.clock outside.clock_now port count h.1
  never_bad Dump h = dump_never BadWords no_bad_words tells.disk outside.disk outside.disk_now h.1
  never_bad (Trial number workers) h = h.1
  never_bad (Audit port asked) h = audit_not tells.dialer tells.dialled outside.dialer outside.dialer_now port asked BadWords (λ e. cc e) no_fetch_words h.1
  never_bad (Read reads) h = no_answer_words reads h.1.0 h.1.2

  module _ (words : List (List ℕ)) where
    abbrev Wrote : Result (List ℕ) Stop → Type 0
    Wrote ending = HasWritten outside.output (owed ending).text × HasNoFault outside.output

    -- an ending that comes of words that are a row is that of their command
    row_of : (stop : Stop) → (ends stop ≡ ends BadWords → ⊥) → Comes tells outside words (Err stop) → (command : Command) × Names words command × Came tells outside command (Err stop)
    row_of stop other (inl none) = absurd (other none.2)
    row_of stop other (inr row) = row

    none_of : Comes tells outside words (Err BadWords) → AreNoRow words × UsesNothing outside
    none_of (inl none) = (none.0, none.1)
    none_of (inr row) = absurd (never_bad row.0 row.2)

    -- an ending that came licenses its status
    came : (ending : Result (List ℕ) Stop) → Comes tells outside words ending → Wrote ending → HasCauses tells outside words (owed ending).status
    came (Ok text) comes wrote = (Ok text, refl, comes, wrote.0, wrote.1)
    came (Err (Void missing)) comes wrote = (Err (Void missing), refl, comes, wrote.0, wrote.1)
    came (Err (OverLimit limit)) comes wrote = (Err (OverLimit limit), refl, comes, wrote.0, wrote.1)
    came (Err NotTwo) comes wrote = (Err NotTwo, refl, comes, wrote.0, wrote.1)
    came (Err (BrokenRule rule)) comes wrote = (Err (BrokenRule rule), refl, comes, wrote.0, wrote.1)
    came (Err BadWords) comes wrote = let none = none_of comes in ((Err BadWords, refl, comes, wrote.0, wrote.1), none.0, none.1)
    came (Err TooLong) comes wrote = (Err TooLong, refl, comes, wrote.0, wrote.1)
    came (Err (BadCase fault)) comes wrote = (Err (BadCase fault), refl, comes, wrote.0, wrote.1)
    came (Err (BrokenLine number)) comes wrote = (Err (BrokenLine number), refl, comes, wrote.0, wrote.1)
    came (Err BadReply) comes wrote = (Err BadReply, refl, comes, wrote.0, wrote.1)
    came (Err (BadStatus code)) comes wrote = (Err (BadStatus code), refl, comes, wrote.0, wrote.1)
    came (Err (BadJournal place)) comes wrote =
        let row = row_of (BadJournal place) (λ e. cc e) comes in ((Err (BadJournal place), refl, comes, wrote.0, wrote.1), (row.0, row.1, (place, row.2)))
    came (Err ReadFault) comes wrote = let row = row_of ReadFault (λ e. cc e) comes in ((Err ReadFault, refl, comes, wrote.0, wrote.1), read_of row.0 row.2)
    came (Err StoreFault) comes wrote = let row = row_of StoreFault (λ e. cc e) comes in ((Err StoreFault, refl, comes, wrote.0, wrote.1), store_of row.0 row.2)
    came (Err PortFault) comes wrote = let row = row_of PortFault (λ e. cc e) comes in ((Err PortFault, refl, comes, wrote.0, wrote.1), port_of row.0 row.2)
    came (Err NoMemory) comes wrote = let row = row_of NoMemory (λ e. cc e) comes in ((Err NoMemory, refl, comes, wrote.0, wrote.1), (row.0, row.1, memory_of row.0 row.2))

    -- each status comes only by its cause
    pub has_causes : (status : ℕ) → Ran tells outside words status → HasCauses tells outside words status
    has_causes status (ending, comes, ends) = ⊎_elim
        (λ w. subst (HasCauses tells outside words) (sym w.0) (came ending comes (w.1, w.2)))
        (λ w. subst (HasCauses tells outside words) (sym w.0) w.1)
        ends
