-- Two runs over the same links write the same.
use Rattle.std.proofs.Common.{◌≡◌, ℕ, suc, ◌<◌, ◌≤◌, List, [], ◌∷◌, ◌++◌, length, Option, None, Some, Result, Ok, refl, sym, ap, ◌∙◌, subst, inl, ⊎_elim, append_assoc, arith, le_refl, le_trans}
use Rattle.std.proofs.lemmas.Bool.{cases_lt}
use Rattle.std.specs.Io.KnownBytes.{Appends}
use Rattle.command_results.specs.declared.stop.Stop.{Stop}
use Rattle.split_base.specs.declared.clock.Clock.{Ghosts as ClockSide}
use Rattle.split_base.specs.declared.disk.Disk.{Ghosts}
use Rattle.split_base.specs.declared.port.Port.{Ghosts as PortSide}
use Rattle.split_base.specs.Faults.{HasRisen}
use Rattle.split_http.specs.Turns.{IsToldAs}
use Rattle.host_journal.specs.Calls.{IsFound}
use Rattle.host_journal.specs.Journal.{HasEvents}
use Rattle.host_journal.specs.States.{State}
use Rattle.sealed_core.specs.Host.{EventView}
use Rattle.serving.specs.declared.limits.TheConstants.{MAX_REQUESTS}
use Rattle.serving.specs.Ends.{Ending}
use Rattle.serving.specs.Exchanges.{Answered, Exchange}
use Rattle.serving.specs.Ports.{PortRun}
use Rattle.serving.specs.Runs.{LinkRun}
use Rattle.serving.specs.Served.{HaveCome, LinkTells}
use Rattle.serving.specs.Serving.{host_service}
use Rattle.serving_laws.specs.Writing.{IsDone, OneState}
use Rattle.host_commands.specs.Files.{state_of}
use Rattle.host_commands.specs.Links.{LinksAnswered, requests_of}
use Rattle.host_commands.specs.SameRuns.{AllDone, AllGotAlike, AllStartAlike, AreDone, HasServed}
use Rattle.host_commands.specs.Serves.{RunEnds, Serves, ServesOpened, served_line}
use Rattle.host_commands.proofs.Links.{Afterwards, Exchanges, Joined, link_answered, links_done, one_machine}

-- a count that has not risen over two calls has risen in neither
still_both : (a b c : ℕ) → a ≤ b → b ≤ c → (HasRisen a c → ⊥) → (HasRisen a b → ⊥) × (HasRisen b c → ⊥)
still_both a b c one two still = ⊎_elim (λ (less : a < c). absurd (still (inl less))) (λ (most : c ≤ a).
    let first : b ≡ c = omega (arith, one, two, most) in
    let second : b ≡ a = omega (arith, one, two, most) in
    (λ up. still (subst (λ n. HasRisen a n) first up), λ up. still (subst (λ n. HasRisen n c) second up))) (cases_lt a c)

-- known bytes that grow are those before, and the new ones
grown : (old new : Option (List ℕ)) (known bytes : List ℕ) → old ≡ Some known → Appends old new bytes → new ≡ Some (known ++ bytes)
grown old new known bytes is appends = known_grown new known bytes (subst (λ (o : Option (List ℕ)). Appends o new bytes) is appends)
  where
    known_grown : (new : Option (List ℕ)) (known bytes : List ℕ) → Appends (Some known) new bytes → new ≡ Some (known ++ bytes)
    known_grown None known bytes appends = absurd appends
    known_grown (Some more) known bytes appends = ap Some appends

-- bytes that are told are these
told_is : (told : Option (List ℕ)) (input known : List ℕ) → told ≡ Some known → IsToldAs told input → input ≡ known
told_is told input known is so = subst (λ (o : Option (List ℕ)). IsToldAs o input) is so

-- all bytes came of a link that ended with no failed call
all_came : (end : Ending) (ahead left : Option (List ℕ)) (come : List ℕ) → IsDone end → HaveCome end ahead left come → IsToldAs ahead come
all_came Ending.ended ahead left come done so = so
all_came Ending.cut ahead left come done so = so
all_came Ending.read_fault ahead left come done so = absurd done
all_came Ending.write_fault ahead left come done so = absurd done
all_came Ending.memory ahead left come done so = absurd done

module _ {D : Type 0} (d : Ghosts D) where
  -- the count of the disk never falls
  faults_grow : (w : D × State) (run : List (Exchange (D × State))) (new : D × State) → Answered (host_service d) w run new → d.faults w.0 ≤ d.faults new.0
  faults_grow w [] new same = subst (λ (x : D × State). d.faults w.0 ≤ d.faults x.0) (sym same) (le_refl (d.faults w.0))
  faults_grow w (x ∷ run) new (at, is, rest) =
      le_trans (subst (λ (y : D × State). d.faults y.0 ≤ d.faults x.after.0) at is.responds.1.count) (faults_grow x.after run new rest)

  -- a link at two hosts of one state gets the same
  abbrev pub LinksAlike : Type 0
  LinksAlike = (all : List ℕ) (answers others more besides : List (Option ℕ)) (w v : D × State) (out told : List ℕ) (new after : D × State) (end stop : Ending) → OneState w v
      → answers ++ more ≡ others ++ besides → IsDone end → IsDone stop → (HasRisen (d.faults w.0) (d.faults new.0) → ⊥) → (HasRisen (d.faults v.0) (d.faults after.0) → ⊥)
      → LinkRun (host_service d) MAX_REQUESTS all answers w out new end → LinkRun (host_service d) MAX_REQUESTS all others v told after stop
      → (out ≡ told) × OneState new after × (end ≡ stop) × (answers ≡ others)

  module _ {L : Type 0} (tells : LinkTells L) (exchanges : Exchanges (host_service d)) (joined : Joined (host_service d)) (afterwards : Afterwards (host_service d)) (alike : LinksAlike) where
    pub all_alike : (links others : List (L × L)) (answers answers' more more' : List (Option ℕ)) (w v : D × State) (requests requests' : List (Exchange (D × State))) (new after : D × State)
        → (one : LinksAnswered (host_service d) tells links answers w requests new) → (two : LinksAnswered (host_service d) tells others answers' v requests' after)
        → AllStartAlike tells links others → OneState w v → answers ++ more ≡ answers' ++ more' → (HasRisen (d.faults w.0) (d.faults new.0) → ⊥) → (HasRisen (d.faults v.0) (d.faults after.0) → ⊥)
        → AllDone (host_service d) tells links answers w requests new one → AllDone (host_service d) tells others answers' v requests' after two
        → AllGotAlike tells links others × OneState new after × (answers ≡ answers')
    all_alike [] [] answers answers' more more' w v requests requests' new after (none, empty, same) (none', empty', same') starts state clock still still' done done' =
        (tt, subst (λ (x : D × State). OneState x after) (sym same) (subst (λ (y : D × State). OneState w y) (sym same') state), none ∙ sym none')
    all_alike [] (m ∷ others) answers answers' more more' w v requests requests' new after one two starts state clock still still' done done' = absurd starts
    all_alike (l ∷ links) [] answers answers' more more' w v requests requests' new after one two starts state clock still still' done done' = absurd starts
    all_alike (l ∷ links) (m ∷ others) answers answers' more more' w v requests requests' new after (now, later, here, behind, mid, is, all, first, rest) (now', later', here', behind', mid', is', all', first', rest')
        (start, starts) state clock still still' (done, dones) (done', dones') =
        let ahead : first.input ≡ start.ahead = told_is (tells.left l.0) first.input start.ahead start.left (all_came first.ending (tells.left l.0) (tells.left l.1) first.input done first.told) in
        let ahead' : first'.input ≡ start.ahead = told_is (tells.left m.0) first'.input start.ahead start.left_other (all_came first'.ending (tells.left m.0) (tells.left m.1) first'.input done' first'.told) in
        let run = subst (λ (input : List ℕ). LinkRun (host_service d) MAX_REQUESTS input now w first.out mid first.ending) ahead first.run in
        let run' = subst (λ (input : List ℕ). LinkRun (host_service d) MAX_REQUESTS input now' v first'.out mid' first'.ending) ahead' first'.run in
        let parts = still_both (d.faults w.0) (d.faults mid.0) (d.faults new.0)
        (faults_grow w (requests_of first.link) mid (link_answered (host_service d) exchanges joined afterwards first.input now w first.out mid first.ending first.link))
        (faults_grow mid behind new (one_machine (host_service d) exchanges joined afterwards tells links later mid behind new rest)) still in
        let parts' = still_both (d.faults v.0) (d.faults mid'.0) (d.faults after.0)
        (faults_grow v (requests_of first'.link) mid' (link_answered (host_service d) exchanges joined afterwards first'.input now' v first'.out mid' first'.ending first'.link))
        (faults_grow mid' behind' after (one_machine (host_service d) exchanges joined afterwards tells others later' mid' behind' after rest')) still' in
        let clocks : now ++ (later ++ more) ≡ now' ++ (later' ++ more') =
        sym (append_assoc now later more) ∙ ap (λ (a : List (Option ℕ)). a ++ more) (sym is) ∙ clock ∙ ap (λ (a : List (Option ℕ)). a ++ more') is' ∙ append_assoc now' later' more' in
        let so = alike start.ahead now now' (later ++ more) (later' ++ more') w v first.out first'.out mid mid' first.ending first'.ending state clocks done done' parts.0 parts'.0 run run' in
        let now_is : now ≡ now' = so.3 in
        let behind_clocks : later ++ more ≡ later' ++ more' = cancel now (later ++ more) (later' ++ more') (clocks ∙ ap (λ (a : List (Option ℕ)). a ++ (later' ++ more')) (sym now_is)) in
        let goes = all_alike links others later later' more more' mid mid' behind behind' new after rest rest' starts so.1 behind_clocks parts.1 parts'.1 dones dones' in
        let wrote : tells.written l.1 ≡ tells.written m.1 =
        grown (tells.written l.0) (tells.written l.1) start.behind first.out start.written first.wrote ∙ ap (λ (b : List ℕ). Some (start.behind ++ b)) so.0
        ∙ sym (grown (tells.written m.0) (tells.written m.1) start.behind first'.out start.written_other first'.wrote) in
        ((wrote, goes.0), goes.1, is ∙ (λ i. now_is i ++ goes.2 i) ∙ sym is')
      where
        cancel : {A : Type 0} (front xs ys : List A) → front ++ xs ≡ front ++ ys → xs ≡ ys
        cancel [] xs ys same = same
        cancel (x ∷ front) xs ys same = cancel front xs ys (cc)

-- what a file means, it means alone
abbrev pub OneMeaning : Type 0
OneMeaning = (v other : ℕ) (secret word : List ℕ) (events others : List EventView) (file : List ℕ) → HasEvents v secret events file → HasEvents other word others file
    → (v ≡ other) × (secret ≡ word) × (events ≡ others)

one_state : (s t : State) → s.waiting ≡ None → t.waiting ≡ None → s.secret ≡ t.secret → s.kept ≡ t.kept → s ≡ t
one_state s t ready ready' secret kept = λ i. record { secret = secret i; kept = kept i; waiting = (ready ∙ sym ready') i }

-- two files of the same bytes are opened as one state
pub opened_alike : {D : Type 0} (d : Ghosts D) → OneMeaning → (disk other : D) (begun start : D × State) → d.seen disk ≡ d.seen other → begun.1.waiting ≡ None → start.1.waiting ≡ None
    → IsFound d disk begun.0 begun.1.secret begun.1.kept → IsFound d other start.0 start.1.secret start.1.kept → OneState begun start
opened_alike d one_meaning disk other begun start seen ready ready' found found' =
    let (v, holds) = found.before in
    let (other_v, other_holds) = found'.before in
    let here : HasEvents other_v start.1.secret start.1.kept (d.seen disk) = subst (λ (file : List ℕ). HasEvents other_v start.1.secret start.1.kept file) (sym seen) other_holds in
    let meaning = one_meaning v other_v begun.1.secret start.1.secret begun.1.kept start.1.kept (d.seen disk) holds here in
    (one_state begun.1 start.1 ready ready' meaning.1 meaning.2, ready, holds.kept.may_apply)

-- the ending that tells a number of links
abbrev says : ℕ → Result (List ℕ) Stop
says number = Ok (served_line number)

-- as many links as others
as_many : {L : Type 0} (tells : LinkTells L) (links others : List (L × L)) → AllStartAlike tells links others → length links ≡ length others
as_many tells [] [] starts = refl
as_many tells [] (m ∷ others) starts = absurd starts
as_many tells (l ∷ links) [] starts = absurd starts
as_many tells (l ∷ links) (m ∷ others) starts = ap suc (as_many tells links others starts.1)

module _ {D P L C : Type 0} (d : Ghosts D) (p : PortSide P L) (tells : LinkTells L) (c : ClockSide C) where
  -- a call of `serve_port` that served these links, and told their number
  record Served (disk : D) (ending : Result (List ℕ) Stop) (links : List (L × L)) (answers : List (Option ℕ)) : Type 0 where
    begun : D × State
    new : D × State
    ready : begun.1.waiting ≡ None
    found : d.is_honest disk → IsFound d disk begun.0 begun.1.secret begun.1.kept
    run : PortRun (host_service d) tells links answers begun new
    done : AreDone (host_service d) tells links answers begun new run
    still : HasRisen (d.faults begun.0) (d.faults new.0) → ⊥
    told : ending ≡ says (length links)

  module _ (disk after : D) (port port_after : P) (clock clock_after : C) (port_number count : ℕ) (ending : Result (List ℕ) Stop) (links : List (L × L)) (answers : List (Option ℕ)) where
    served : (serves : Serves d p tells c disk after port port_after clock clock_after port_number count ending) → HasServed serves links answers → Served disk ending links answers
    served (Serves.no_routes still quiet mute is) never = absurd never
    served (Serves.not_opened why opens quiet mute is) never = absurd never
    served (Serves.opened serving between opens asked (ServesOpened.deaf still mute none failed is)) never = absurd never
    served (Serves.opened serving between opens asked (ServesOpened.ran heard listens number runs (RunEnds.cut is failed most))) never = absurd never
    served (Serves.opened serving between opens asked (ServesOpened.ran heard listens number runs (RunEnds.told is same most few))) (these, at, calm, done) =
        let ran = runs.served in
        let last : d.faults ran.new.0 ≡ d.faults after = ap (λ (x : D). d.faults x) ran.serving.0 in
        let first : d.faults between ≡ d.faults disk = opens.faults in
        let all : Served disk ending ran.links ran.answers = record {
          begun = (between, state_of opens.opened);
          new = ran.new;
          ready = refl;
          found = opens.opened.file;
          run = ran.run;
          done = done;
          still = λ up. calm (subst (λ (n : ℕ). HasRisen n (d.faults after)) first (subst (λ (n : ℕ). HasRisen (d.faults between) n) last up));
          told = is ∙ ap says (sym ran.number);
        } in
        subst (λ (ls : List (L × L)). Served disk ending ls answers) (sym these) (subst (λ (turns : List (Option ℕ)). Served disk ending ran.links turns) (sym at) all)

  module _ (one_meaning : OneMeaning) (exchanges : Exchanges (host_service d)) (joined : Joined (host_service d)) (afterwards : Afterwards (host_service d)) (alike : LinksAlike d) where
    served_alike : (disk other : D) (ending another : Result (List ℕ) Stop) (links others : List (L × L)) (answers turns more besides : List (Option ℕ))
        → Served disk ending links answers → Served other another others turns → d.is_honest disk → d.is_honest other → d.seen disk ≡ d.seen other
        → AllStartAlike tells links others → answers ++ more ≡ turns ++ besides → AllGotAlike tells links others × (ending ≡ another)
    served_alike disk other ending another links others answers turns more besides one two honest honest' seen starts clocks =
        let state = opened_alike d one_meaning disk other one.begun two.begun seen one.ready two.ready (one.found honest) (two.found honest') in
        let (requests, written, done) = links_done (host_service d) exchanges joined afterwards tells links answers one.begun one.new one.run one.done in
        let (requests', written', done') = links_done (host_service d) exchanges joined afterwards tells others turns two.begun two.new two.run two.done in
        let so = all_alike d tells exchanges joined afterwards alike links others answers turns more besides one.begun two.begun requests requests' one.new two.new written written'
        starts state clocks one.still two.still done done' in
        (so.0, one.told ∙ ap says (as_many tells links others starts) ∙ sym two.told)

    pub calls_alike : (disk other after last : D) (port port_after twin twin_after : P) (clock clock_after watch watch_after : C) (port_number twin_number count most : ℕ) (ending another : Result (List ℕ) Stop)
        → (one : Serves d p tells c disk after port port_after clock clock_after port_number count ending) → (two : Serves d p tells c other last twin twin_after watch watch_after twin_number most another)
        → d.is_honest disk → d.is_honest other → d.seen disk ≡ d.seen other
        → (links others : List (L × L)) (answers turns more besides : List (Option ℕ)) → HasServed one links answers → HasServed two others turns
        → AllStartAlike tells links others → answers ++ more ≡ turns ++ besides → AllGotAlike tells links others × (ending ≡ another)
    calls_alike disk other after last port port_after twin twin_after clock clock_after watch watch_after port_number twin_number count most ending another one two honest honest' seen
        links others answers turns more besides has has' starts clocks =
        served_alike disk other ending another links others answers turns more besides
        (served disk after port port_after clock clock_after port_number count ending links answers one has)
        (served other last twin twin_after watch watch_after twin_number most another others turns two has')
        honest honest' seen starts clocks
