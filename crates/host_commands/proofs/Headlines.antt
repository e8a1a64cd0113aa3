-- The main theorem, from the laws of whole runs.
use Rattle.std.proofs.Common.{◌≡◌, ◌⊎◌, ℕ, ◌≤◌, zero, suc, List, [], ◌∷◌, Option, None, Some, Result, Ok, refl, sym, ap, ◌∙◌, subst, inl, inr, ⊎_elim, le_trans, take, map, append-nil, Contains, IsNone, IsTrue, option_map, rules}
use Rattle.command_results.specs.declared.stop.Stop.{Stop}
use Rattle.gate_log.specs.declared.fault.LogFault.TheVariants as fault
use Rattle.gate_log.specs.Records.{Stands}
use Rattle.host_journal.specs.Journal.{AreKept, HasEvents}
use Rattle.host_journal.specs.Spelling.{spelling}
use Rattle.host_journal.specs.declared.serving.Serving.{Serving}
use Rattle.host_journal.specs.States.{HasState, IsFile, IsFileOf, Passes, State, lists_of}
use Rattle.serving.specs.Exchanges.{Answered, Exchange, IsExchange}
use Rattle.serving.specs.Ports.{GivesBack, HandsOut, PortServed}
use Rattle.serving.specs.Served.{LinkTells}
use Rattle.sealed_core.specs.declared.commands.What.{What}
use Rattle.sealed_core.specs.declared.events.Event.{Event}
use Rattle.sealed_core.specs.Host.{EventView, event_view}
use Rattle.serving.specs.Serving.{StandsAt, host_service}
use Rattle.serving_laws.specs.Accepting.{Accepts}
use Rattle.serving_laws.specs.Crashes.{Acknowledges, IsFileOfOne, Since}
use Rattle.serving_laws.specs.Handling.{AreHandled}
use Rattle.serving_laws.specs.Heard.{Taken, TakesSteps, WaitsByStep}
use Rattle.serving_laws.specs.Integrity.{KeepsIntegrity}
use Rattle.split_base.specs.Clocks.{ClockRun}
use Rattle.split_base.specs.declared.clock.Clock.{Ghosts as ClockSide}
use Rattle.split_base.specs.declared.disk.Disk.{Ghosts}
use Rattle.split_base.specs.declared.port.Port.{Ghosts as PortSide}
use Rattle.split_base.specs.Disk.{Each}
use Rattle.host_commands.specs.Files.{Opens, state_of}
use Rattle.host_commands.specs.Headline.{HasHeadline, HasNoRun, Headline, HoldsState}
use Rattle.host_commands.specs.Publishing.{AsksFor, Publishes}
use Rattle.host_commands.specs.Serves.{HasNoLink, IsOpened, IsUnopened, RunEnds, Runs, Serves, ServesOpened, served_line}
use Rattle.host_commands.proofs.Links.{Afterwards, Exchanges, Joined, every_step, links_answered, one_machine}
use Rattle.host_commands.proofs.Published.{CaseLaws, publishes}
use Rattle.host_commands.proofs.Sound.{IsSound, sound_response, sound_state}

-- the laws of runs
pub record RunLaws {D : Type 0} (d : Ghosts D) : Type 0 where
  pub seen : (disk : D) → d.is_honest disk → d.images disk (d.seen disk)
  pub one_meaning : (v other : ℕ) (secret word : List ℕ) (events others : List EventView) (file : List ℕ) → HasEvents v secret events file → HasEvents other word others file
      → (v ≡ other) × (secret ≡ word) × (events ≡ others)
  pub files : (serving : Serving) (disk : D) (s : State) → HasState d serving disk s → d.is_honest disk → Each (d.images disk) (IsFile s)
  pub exchanges : Exchanges (host_service d)
  pub joined : Joined (host_service d)
  pub afterwards : Afterwards (host_service d)
  pub crash : (w : D × State) (run : List (Exchange (D × State))) (new : D × State) → Answered (host_service d) w run new → d.is_honest w.0 → Each (d.images w.0) (IsFile w.1) → Since d new.0 w run
  pub acknowledged : (w : D × State) (run : List (Exchange (D × State))) (new : D × State) → Answered (host_service d) w run new → d.is_honest w.0 → Each (d.images w.0) (IsFile w.1) → Acknowledges d new.0 w run
  pub accepted : (w : D × State) (run : List (Exchange (D × State))) (new : D × State) → Answered (host_service d) w run new → d.is_honest w.0 → Accepts run w.1 new.1
  pub integrity : (w : D × State) (run : List (Exchange (D × State))) (new : D × State) → Answered (host_service d) w run new → d.is_honest w.0 → w.1.waiting ≡ None → KeepsIntegrity run w.1 new.1
  pub handled : (w : D × State) (run : List (Exchange (D × State))) (new : D × State) → Answered (host_service d) w run new
      → (states : List State) × AreHandled d run states × (d.is_honest w.0 → WaitsByStep w.1 → (steps : List Taken) × TakesSteps run states steps)

-- an image of a journal whose log is of version 2
ready_file : {D : Type 0} (d : Ghosts D) (serving : Serving) (disk : D) (s : State) (waiting : Option EventView) (given : Option Event) → option_map event_view given ≡ waiting → waiting ≡ None
    → (IsNone given → IsTrue serving.log.at_end × (serving.log.version ≡ 2)) → IsFileOf (d.images disk) serving.log serving.host.content s.secret s.kept waiting
    → Each (d.images disk) (HasEvents 2 s.secret s.kept)
ready_file d serving disk s None None same none ready journal file now =
    let two = (ready (search rules)).1 in
    record {
      stands = subst (λ (v : ℕ). Stands v s.secret (map spelling s.kept) file) two (journal.is_log.each file now);
      kept = subst (λ (v : ℕ). AreKept v s.secret s.kept) two journal.kept;
    }
ready_file d serving disk s None (Some e) same none ready journal file now = absurd (cc)
ready_file d serving disk s (Some e) given same none ready journal file now = absurd (cc)

-- what a crash since an earlier moment might have left it might have left before the run, or it is a file of one of its states
before_run : {D : Type 0} (d : Ghosts D) (w : D × State) (run : List (Exchange (D × State))) (new : D × State) → Answered (host_service d) w run new → d.is_honest w.0 → (t : ℕ) → t ≤ d.moment w.0
    → (file : List ℕ) → d.left_since new.0 t file → d.left_since w.0 t file ⊎ IsFileOfOne w.1 run file
before_run {D} d w [] new same honest t early file left = inl (subst (λ (x : D × State). d.left_since x.0 t file) same left)
before_run {D} d w (x ∷ later) new (at, step, rest) honest t early file left =
    let passes : Passes d w.0 w.1 x.after.0 x.after.1 = subst (λ (y : D × State). Passes d y.0 y.1 x.after.0 x.after.1) at step.responds.1 in
    let leaves = passes.any_moment honest in
    ⊎_elim
    (λ after. ⊎_elim (λ start. inl start) (λ either. ⊎_elim (λ is. inr (inl is)) (λ is. inr (inr (first_of x.after.1 later file is))) either) (leaves.before t file early after))
    (λ one. inr (inr one)) (before_run d x.after later new rest (passes.honest.0 honest) t (le_trans early leaves.later) file left)
  where
    first_of : {D : Type 0} (s : State) (others : List (Exchange (D × State))) (file : List ℕ) → IsFile s file → IsFileOfOne s others file
    first_of s [] file is = is
    first_of s (y ∷ others) file is = inl is

-- nothing was handed out or given back
hands_none : {L : Type 0} (come come_now : Option (List L)) → come_now ≡ come → HandsOut come [] come_now
hands_none None now same = tt
hands_none (Some links) now same = (links, refl, same)

gives_none : {L : Type 0} (places : ℕ) (back back_now : Option (List L)) → back_now ≡ back → GivesBack back (take places []) back_now
gives_none places None now same = tt
gives_none zero (Some links) now same = same ∙ ap Some (sym (append-nil links))
gives_none (suc places) (Some links) now same = same ∙ ap Some (sym (append-nil links))

module _ {D P L C : Type 0} (d : Ghosts D) (p : PortSide P L) (tells : LinkTells L) (c : ClockSide C) (laws : RunLaws d) (case_laws : CaseLaws) (disk after : D) (port port_after : P) (clock clock_after : C) where
  module _ (serving : Serving) (between : D) (opens : Opens d disk between (Ok serving)) (number : ℕ) (runs : Runs d p tells c (between, state_of opens.opened) after port port_after clock clock_after number) where
    -- the events with which the machine begins
    begins : d.is_honest disk → (s : State) → Each (d.images disk) (IsFile s) → (opens.opened.secret ≡ s.secret) × Contains (lists_of s.kept s.waiting) opens.opened.kept
    begins h s each =
        let (events, among, (other, holds)) = each (d.seen disk) (laws.seen disk h) in
        let (v, has) = (opens.opened.file h).before in
        let one = laws.one_meaning v other opens.opened.secret s.secret opens.opened.kept events (d.seen disk) has holds in
        (one.1, subst (λ (l : List EventView). Contains (lists_of s.kept s.waiting) l) (sym one.2) among)

    -- the disk is left with a file of the last state
    holds : HoldsState d after runs.served.new.1
    holds =
        let stands = runs.served.serving.1 in record {
          may_apply = stands.host.may_apply;
          next = stands.next;
          file = laws.files runs.serving after runs.served.new.1 stands;
          ready = λ h none. ready_file d runs.serving after runs.served.new.1 runs.served.new.1.waiting runs.serving.waiting stands.waiting none runs.serving.ready (stands.file h);
        }

    -- no event waits where the file was opened
    none_waits : WaitsByStep (state_of opens.opened)
    none_waits e some = absurd (cc)

    headline : Headline d p tells c disk (between, state_of opens.opened) after port port_after clock clock_after number
    headline =
        let served = runs.served in
        let (run, written) = links_answered (host_service d) laws.exchanges laws.joined laws.afterwards tells served.links served.answers (between, state_of opens.opened) served.new served.run in
        let machine = one_machine (host_service d) laws.exchanges laws.joined laws.afterwards tells served.links served.answers (between, state_of opens.opened) run served.new written in
        let (states, handled, takes) = laws.handled (between, state_of opens.opened) run served.new machine in
        record {
          links = served.links;
          answers = served.answers;
          count = served.number;
          handed = served.handed;
          given = served.given;
          moments = served.clock;
          run = run;
          ended = served.new;
          machine = machine;
          written = written;
          ready = refl;
          read = opens.opened.read;
          found = opens.opened.file;
          begins = begins;
          serving = runs.serving;
          stands = served.serving;
          holds = holds;
          states = states;
          handled = handled;
          taken = λ h. takes (opens.honest.0 h) none_waits;
          integrity = λ h. laws.integrity (between, state_of opens.opened) run served.new machine (opens.honest.0 h) refl;
          accepted = λ h. laws.accepted (between, state_of opens.opened) run served.new machine (opens.honest.0 h);
          published = every_step (host_service d) (λ (w : D × State). IsSound w.1)
              (λ (x : Exchange (D × State)). (asked : What) → AsksFor x asked → x.due.said.status ≡ 200 → Publishes x asked)
              (λ x step sound. sound_response d x step.responds.0 sound)
              (λ x step sound asked asks success. publishes case_laws d x (sound_state x.after.1 (sound_response d x step.responds.0 sound)) asked success asks step.responds.0)
              (between, state_of opens.opened) run served.new machine opens.opened.stands.host.may_apply;
          crash = λ h. laws.crash (between, state_of opens.opened) run served.new machine (opens.honest.0 h) (laws.files serving between (state_of opens.opened) opens.opened.stands (opens.honest.0 h));
          any_moment = λ h s each file left.
              let leaves = opens.any_moment h s each in
              ⊎_elim (λ start. inl (leaves.each file start)) (λ one. inr one)
              (before_run d (between, state_of opens.opened) run served.new machine (opens.honest.0 h) (d.moment disk) leaves.later file left);
          acknowledged = λ h. laws.acknowledged (between, state_of opens.opened) run served.new machine (opens.honest.0 h)
              (laws.files serving between (state_of opens.opened) opens.opened.stands (opens.honest.0 h));
        }

  -- a port that failed to listen has handed out no link
  deaf_runs : (serving : Serving) (between : D) (opens : Opens d disk between (Ok serving)) → after ≡ between → clock_after ≡ clock → HasNoLink p port port_after
      → Runs d p tells c (between, state_of opens.opened) after port port_after clock clock_after 0
  deaf_runs serving between opens still mute none = record {
    serving = serving;
    served = record {
      links = [];
      answers = [];
      new = (between, state_of opens.opened);
      number = refl;
      handed = hands_none (p.to_come port) (p.to_come port_after) none.come;
      given = gives_none (p.places port) (p.given_back port) (p.given_back port_after) none.back;
      clock = mute;
      serving = (sym still, subst (λ (x : D). HasState d serving x (state_of opens.opened)) (sym still) opens.opened.stands);
      run = (refl, refl);
    };
  }

  abbrev RanFrom : Serving → D × State → ℕ → Option (List L) → Option (List L) → ℕ → Type 0
  RanFrom serving w number links given free = PortServed (host_service d) tells links (p.to_come port_after) given (p.given_back port_after) free
      (ClockRun c.gives c.faults clock clock_after) (StandsAt d serving after) w number

  -- a port that listens has handed out none yet
  heard_runs : (serving : Serving) (between : D) (opens : Opens d disk between (Ok serving)) (heard : P) → HasNoLink p port heard → (number : ℕ)
      → Runs d p tells c (between, state_of opens.opened) after heard port_after clock clock_after number → Runs d p tells c (between, state_of opens.opened) after port port_after clock clock_after number
  heard_runs serving between opens heard none number runs = record {
    serving = runs.serving;
    served = subst (λ (free : ℕ). RanFrom runs.serving (between, state_of opens.opened) number (p.to_come port) (p.given_back port) free) none.places
        (subst (λ (given : Option (List L)). RanFrom runs.serving (between, state_of opens.opened) number (p.to_come port) given (p.places heard)) none.back
        (subst (λ (links : Option (List L)). RanFrom runs.serving (between, state_of opens.opened) number links (p.given_back heard) (p.places heard)) none.come runs.served));
  }

  pub told_headline : (port_number count : ℕ) (text : List ℕ) → Serves d p tells c disk after port port_after clock clock_after port_number count (Ok text)
      → (number : ℕ) × (text ≡ served_line number) × IsOpened p port_number port port_after count number (Ok text) × HasHeadline d p tells c disk after port port_after clock clock_after number
  told_headline port_number count text (Serves.no_routes still quiet mute is) = absurd (cc)
  told_headline port_number count text (Serves.not_opened why opens quiet mute is) = absurd (cc)
  told_headline port_number count text (Serves.opened serving between opens asked (ServesOpened.deaf still mute none failed is)) = absurd (cc)
  told_headline port_number count text (Serves.opened serving between opens asked (ServesOpened.ran heard listens number runs (RunEnds.told is faults most few))) =
      let one : text ≡ served_line number = cc in
      (number, one, IsOpened.ran heard listens (RunEnds.told is faults most few), ((between, state_of opens.opened), headline serving between opens number (heard_runs serving between opens heard listens.none number runs)))
  told_headline port_number count text (Serves.opened serving between opens asked (ServesOpened.ran heard listens number runs (RunEnds.cut is failed most))) = absurd (cc)

  pub any_headline : (port_number count : ℕ) (ending : Result (List ℕ) Stop) → Serves d p tells c disk after port port_after clock clock_after port_number count ending
      → (IsUnopened ending × HasNoRun port port_after clock clock_after)
      ⊎ ((number : ℕ) × IsOpened p port_number port port_after count number ending × HasHeadline d p tells c disk after port port_after clock clock_after number)
  any_headline port_number count ending (Serves.no_routes still quiet mute is) = inl ((fault.NoMemory, is), (quiet, mute))
  any_headline port_number count ending (Serves.not_opened why opens quiet mute is) = inl ((why, is), (quiet, mute))
  any_headline port_number count ending (Serves.opened serving between opens asked (ServesOpened.deaf still mute none failed is)) =
      inr (0, IsOpened.deaf is failed none refl, ((between, state_of opens.opened), headline serving between opens 0 (deaf_runs serving between opens still mute none)))
  any_headline port_number count ending (Serves.opened serving between opens asked (ServesOpened.ran heard listens number runs ends)) =
      inr (number, IsOpened.ran heard listens ends, ((between, state_of opens.opened), headline serving between opens number (heard_runs serving between opens heard listens.none number runs)))
