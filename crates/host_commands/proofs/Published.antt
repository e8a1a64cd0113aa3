-- What is published in a reply with status 200.
use Rattle.std.proofs.Common.{◌≡◌, ◌⊎◌, ℕ, ◌==◌, max, Bool, true, false, List, [], ◌∷◌, ◌++◌, length, All, IfSome, IsTrue, is_some, if◌then◌else◌, Option, None, Some, option_map, Result, Ok, Err, refl, sym, ap, ◌∙◌, subst, inl, inr, true≢false}
use Rattle.bid_rules.specs.declared.bids.Bid.{Bid}
use Rattle.bid_rules.specs.declared.bids.Facts.{Facts}
use Rattle.bid_rules.specs.declared.cases.Case.{Case}
use Rattle.bid_rules.specs.declared.cases.Case.TheVariants as case
use Rattle.bid_rules.specs.Facts.{IsCheckedBid, IsCheckedFacts, IsValidCase, case_of, member_count}
use Rattle.cert_checker.specs.Judged.{IsCertificate, PrintsBest}
use Rattle.certificates.specs.Canonical.{IsCanonical}
use Rattle.certificates.specs.declared.division.Division.{Division}
use Rattle.certificates.specs.declared.division.Division.TheVariants as divided
use Rattle.certificates.specs.Division.{IsDivisionOf}
use Rattle.host_journal.specs.States.{State, host_in}
use Rattle.serving.specs.Exchanges.{Exchange}
use Rattle.reply_texts.specs.Contents.{ContentView, refusal_told}
use Rattle.publications.specs.Publications.{IsPublication, TellsBest, TellsEnd, case_data, refusal_of_fault}
use Rattle.reply_texts.specs.declared.refusals.ServiceRefusal.{ServiceRefusal}
use Rattle.reply_texts.specs.declared.refusals.ServiceRefusal.TheVariants as service
use Rattle.reply_texts.specs.Refusals.{is_refusal_status, refusal_row, service_row}
use Rattle.reply_texts.specs.Replies.{status_of, text_of}
use Rattle.requests.specs.Cases.{Responds, Settles, Steps}
use Rattle.requests.specs.Commands.{command_of}
use Rattle.requests.specs.Replies.{Replies, Shows}
use Rattle.sealed_core.specs.declared.commands.Ask.TheVariants as asks
use Rattle.sealed_core.specs.declared.commands.What.{What}
use Rattle.sealed_core.specs.declared.commands.What.TheVariants as what
use Rattle.sealed_core.specs.declared.replies.Refusal.{Refusal}
use Rattle.sealed_core.specs.declared.replies.Refusal.TheVariants as refusal
use Rattle.sealed_core.specs.declared.replies.Reply.{Reply}
use Rattle.sealed_core.specs.declared.replies.Reply.TheVariants as reply
use Rattle.sealed_core.specs.Host.{AreCheckedInstances, Closed, EventView, HostView, InstanceView, IsCheckedInstance, apply, instance_at}
use Rattle.sealed_core.specs.Runs.{host_of}
use Rattle.sealed_core.specs.Sealed.{with_event, host_after, is_closed, is_shut}
use Rattle.sealed_core.specs.Step.{Answer, CommandView, To, answer_ask, answer_to, caller_of, is_over, refused, says, standing_of, step}
use Rattle.split_base.specs.declared.disk.Disk.{Ghosts}
use Rattle.split_http.specs.declared.head.Verb.{Verb}
use Rattle.split_http.specs.declared.routes.Place.{Place}
use Rattle.split_http.specs.declared.routes.Place.TheVariants as place
use Rattle.split_http.specs.declared.routes.Route.{Route}
use Rattle.split_http.specs.Places.{Endpoint, IsRouted, endpoint_of}
use Rattle.split_json.specs.Reading.{CaseData, IsReady}
use Rattle.split_solve.specs.declared.solving.SolveFault.{SolveFault}
use Rattle.split_solve.specs.declared.solving.SolveFault.TheVariants as fault
use Rattle.split_solve.specs.Solving.{IsSolved}
use Rattle.host_commands.specs.Publishing.{AsksFor, IsBestDivision, IsOfDivision, Publishes, TellsBestOf}
use Rattle.host_commands.proofs.Sound.{sound_found}

-- a refusal has another status than 200
abbrev pub AreRefusals : Type 0
AreRefusals = (r : Refusal) → IsTrue (is_refusal_status (refusal_row r).0)

not_row : AreRefusals → (status : ℕ) (r : Refusal) → status ≡ (refusal_row r).0 → status ≡ 200 → ⊥
not_row refusals status r is success = true≢false (sym (subst (λ (n : ℕ). IsTrue (is_refusal_status n)) (sym is ∙ success) (refusals r)))

not_refused : (status : ℕ) (r : ServiceRefusal) → ((service_row r).status == 200) ≡ false → status ≡ (service_row r).status → status ≡ 200 → ⊥
not_refused status r other is success = true≢false (sym (ap (λ (n : ℕ). n == 200) (sym is ∙ success)) ∙ other)

said_other : (said : ContentView) (r : ServiceRefusal) → ((service_row r).status == 200) ≡ false → said ≡ refusal_told r → said.status ≡ 200 → ⊥
said_other said r other is success = not_refused said.status r other (ap (λ (s : ContentView). s.status) is) success

-- who asks for what is published is told it or refused
abbrev ToldOrRefused : ℕ → What → Reply → Type 0
ToldOrRefused id asked r = (r ≡ reply.Publish id asked) ⊎ ((why : Refusal) × (r ≡ reply.Refused why))

either_answer : (b : Bool) (x y : Answer) (P : Reply → Type 0) → P x.reply → P y.reply → P (if b then x else y).reply
either_answer true x y P p q = p
either_answer false x y P p q = q

told_or_refused : (now id : ℕ) (asked : What) (caller : Result (InstanceView × ℕ) Refusal) → ToldOrRefused id asked (answer_to now id (asks.Publish asked) caller).reply
told_or_refused now id asked (Err why) = inr (why, refl)
told_or_refused now id asked (Ok caller) =
    either_answer (is_over now caller.0)
    (record { event = Some (Closed now id); reply = (answer_ask now id caller.1 (standing_of caller.0 caller.1 true) (asks.Publish asked)).reply })
    (answer_ask now id caller.1 (standing_of caller.0 caller.1 caller.0.closed) (asks.Publish asked)) (ToldOrRefused id asked) (inl refl)
    (either_answer caller.0.closed (says (reply.Publish id asked)) (refused refusal.NotClosed) (ToldOrRefused id asked) (inl refl) (inr (refusal.NotClosed, refl)))

-- what is shown with status 200 is published
shows_published : AreRefusals → (h : HostView) (r : Reply) (told : ContentView) (id : ℕ) (asked : What) → ToldOrRefused id asked r → told.status ≡ 200 → Shows h r told
    → (i : InstanceView) × (r ≡ reply.Publish id asked) × (instance_at h id ≡ Some i) × IsPublication (case_data i) asked told
shows_published refusals h r told id asked (inl is) success (Shows.own bytes text shown) =
    let none : None ≡ Some bytes = sym (ap (text_of h) is) ∙ text in absurd (true≢false (sym (ap is_some none)))
shows_published refusals h r told id asked (inr (why, is)) success (Shows.own bytes text shown) =
    absurd (not_row refusals told.status why (ap (λ (x : ContentView). x.status) shown ∙ ap status_of is) success)
shows_published refusals h r told id asked (inl is) success (Shows.published other another i same found so) =
    let one : reply.Publish other another ≡ reply.Publish id asked = sym same ∙ is in
    let id_is : other ≡ id = cc in
    let asked_is : another ≡ asked = cc in
    (i, is, subst (λ (n : ℕ). instance_at h n ≡ Some i) id_is found, subst (λ (a : What). IsPublication (case_data i) a told) asked_is so)
shows_published refusals h r told id asked (inr (why, is)) success (Shows.published other another i same found so) =
    let one : reply.Publish other another ≡ reply.Refused why = sym same ∙ is in absurd (cc)

-- a step that has such a reply leaves the host of which it tells
abbrev TellsOf : State → ℕ → What → ContentView → Type 0
TellsOf new id asked said =
    (told : ContentView) × (i : InstanceView) × (instance_at (host_in new) id ≡ Some i) × (i.closed ≡ true) × (said ≡ told) × (told.status ≡ 200) × IsPublication (case_data i) asked told

module _ (refusals : AreRefusals) (one_more : (secret : List ℕ) (events : List EventView) (e : EventView) → host_of secret (events ++ e ∷ []) ≡ apply (host_of secret events) e)
    (shut : (h : HostView) (t id : ℕ) (command : CommandView) (asked : What) → (step h t command).reply ≡ reply.Publish id asked → is_closed (host_after h t command) id ≡ true) where
  step_tells : (h : HostView) (moment : ℕ) (command : CommandView) (new : State) (said : ContentView) (told : ContentView) (id : ℕ) (key : Option (List ℕ)) (asked : What)
      → command ≡ To id key (asks.Publish asked) → said.status ≡ 200 → said ≡ told → host_after h moment command ≡ host_in new → Replies h moment command told → TellsOf new id asked said
  step_tells h moment command new said told id key asked is success so leaves replies =
      let told_200 : told.status ≡ 200 = sym (ap (λ (x : ContentView). x.status) so) ∙ success in
      let either = subst (λ (c : CommandView). ToldOrRefused id asked (step h moment c).reply) (sym is) (told_or_refused (max moment h.moment) id asked (caller_of h id key)) in
      let (i, published, found, publication) = shows_published refusals (host_after h moment command) (step h moment command).reply told id asked either told_200 replies in
      (told, i, subst (λ (g : HostView). instance_at g id ≡ Some i) leaves found, sym (ap is_shut found) ∙ shut h moment id command asked published, so, told_200, publication)

  steps_tell : {D : Type 0} (d : Ghosts D) (disk after : D) (moment : ℕ) (command : CommandView) (s new : State) (said : ContentView) (id : ℕ) (key : Option (List ℕ)) (asked : What)
      → command ≡ To id key (asks.Publish asked) → said.status ≡ 200 → Steps d disk after moment command s new said → TellsOf new id asked said
  steps_tell d disk after moment command s new said id key asked is success (Steps.no_event told none still replies same so) =
      step_tells (host_in s) moment command new said told id key asked is success so (ap (with_event (host_in s)) none ∙ ap host_in (sym same)) replies
  steps_tell d disk after moment command s new said id key asked is success (Steps.kept told e event can faults appended replies same so) =
      step_tells (host_in s) moment command new said told id key asked is success so (ap (with_event (host_in s)) event ∙ sym (one_more s.secret s.kept e) ∙ ap host_in (sym same)) replies
  steps_tell d disk after moment command s new said id key asked is success (Steps.failed e event faults same so) = absurd (said_other said service.StoreFault refl so success)
  steps_tell d disk after moment command s new said id key asked is success (Steps.memory other what published still same so) =
      absurd (not_refused said.status service.Memory refl (ap (λ (x : ContentView). x.status) so) success)

-- a request that goes no further has another status
settles_other : {D : Type 0} (d : Ghosts D) (disk after : D) (s new : State) (said : ContentView) → said.status ≡ 200 → Settles d disk after s new (Some said) → ⊥
settles_other d disk after s new said success (Settles.ready none still same is) = absurd (cc)
settles_other d disk after s new said success (Settles.store_fault e waits faults torn same is) = let one : said ≡ refusal_told service.StoreFault = cc in said_other said service.StoreFault refl one success
settles_other d disk after s new said success (Settles.damaged e place waits faults first never same is) =
    let one : said ≡ refusal_told (service.StoreDamaged place) = cc in said_other said (service.StoreDamaged place) refl one success
settles_other d disk after s new said success (Settles.opened e secret kept waits faults settled can same is) = absurd (cc)

-- a request has one place, and that says what it asks for
one_place : (verb : Verb) (path : Option (List ℕ)) (a b : Route) → IsRouted verb path (Ok a) → IsRouted verb path (Ok b) → a.place ≡ b.place
one_place verb path a b (bytes, p, (allow, e, v), i) (other, q, (allows, f, w), j) =
    let path_is : Some bytes ≡ Some other = sym p ∙ q in
    let same : bytes ≡ other = cc in
    let both = sym e ∙ ap endpoint_of same ∙ f in
    let one : Some a.place ≡ Some b.place = ap (option_map (λ (x : Endpoint). x.0)) both in
    cc

asks_at : (p : Place) (id other : ℕ) (key : Option (List ℕ)) (body : List ℕ) (asked : What) → command_of p id key body ≡ To id key (asks.Publish asked) → command_of p other key body ≡ To other key (asks.Publish asked)
asks_at place.Instances id other key body asked is = absurd (cc)
asks_at place.Instance id other key body asked is = absurd (cc)
asks_at place.Bids id other key body asked is = absurd (cc)
asks_at place.Bid id other key body asked is = absurd (cc)
asks_at place.Withdraw id other key body asked is = absurd (cc)
asks_at place.Close id other key body asked is = absurd (cc)
asks_at place.Division id other key body asked is = let one : what.Division ≡ asked = cc in ap (λ (a : What). To other key (asks.Publish a)) one
asks_at place.Certificate id other key body asked is = let one : what.Certificate ≡ asked = cc in ap (λ (a : What). To other key (asks.Publish a)) one
asks_at place.Report id other key body asked is = let one : what.Report ≡ asked = cc in ap (λ (a : What). To other key (asks.Publish a)) one
asks_at place.Audit id other key body asked is = let one : what.Audit ≡ asked = cc in ap (λ (a : What). To other key (asks.Publish a)) one
asks_at place.Winner id other key body asked is = let one : what.Winner ≡ asked = cc in ap (λ (a : What). To other key (asks.Publish a)) one

best_division : (one : Case) (division : Division) → IsDivisionOf one division → IsBestDivision one division
best_division (case.Rent one) (divided.Rent division) is = is.best
best_division (case.Rent one) (divided.Goods division) is = absurd is
best_division (case.Rent one) (divided.Fares division) is = absurd is
best_division (case.Goods one) (divided.Rent division) is = absurd is
best_division (case.Goods one) (divided.Goods division) is = is.best
best_division (case.Goods one) (divided.Fares division) is = absurd is
best_division (case.Fares one) (divided.Rent division) is = absurd is
best_division (case.Fares one) (divided.Goods division) is = absurd is
best_division (case.Fares one) (divided.Fares division) is = is.best

-- the laws of cases and certificates
pub record CaseLaws : Type 0 where
  pub refusals : AreRefusals
  pub valid : (facts : Facts) (bids : List (Option Bid)) (one : Case) → IsCheckedFacts facts → length bids ≡ member_count facts → All (λ bid. IfSome bid (IsCheckedBid facts)) bids
      → case_of facts bids ≡ Ok one → IsValidCase one
  pub certificate : (one : Case) (text : List ℕ) → IsValidCase one → IsCanonical one text → IsCertificate text
  pub prints : (bytes : List ℕ) → IsCertificate bytes → PrintsBest bytes
  pub ready : (i : InstanceView) → IsCheckedInstance i → IsReady (case_data i)
  pub one_told : (given : CaseData) (asked : What) (told other : ContentView) → IsReady given → IsPublication given asked told → IsPublication given asked other → told ≡ other
  pub one_more : (secret : List ℕ) (events : List EventView) (e : EventView) → host_of secret (events ++ e ∷ []) ≡ apply (host_of secret events) e
  pub shut : (h : HostView) (t id : ℕ) (command : CommandView) (asked : What) → (step h t command).reply ≡ reply.Publish id asked → is_closed (host_after h t command) id ≡ true

module _ (laws : CaseLaws) where
  module _ (i : InstanceView) (sound : IsCheckedInstance i) (told : ContentView) (success : told.status ≡ 200) where
    valid_one : (one : Case) → case_of i.creation.facts i.bids ≡ Ok one → IsValidCase one
    valid_one one is = laws.valid i.creation.facts i.bids one sound.creation.facts (sound.bids ∙ sound.creation.member_names) sound.checked is

    end_tells : (asked : What) (end : Result (Case × Division) SolveFault) → IsSolved i.creation.facts i.bids end → TellsEnd asked (case_data i) end told → TellsBestOf i asked told
    end_tells asked (Ok (one, division)) (of_bids, solver) text = record {
      one = one;
      division = division;
      of_bids = of_bids;
      valid = valid_one one of_bids;
      best = best_division one division solver;
      solver = solver;
      text = text;
      certificate = λ bytes canonical. let is = laws.certificate one bytes (valid_one one of_bids) canonical in (is, laws.prints bytes is);
    }
    end_tells asked (Err (fault.Void missing)) solved text =
        absurd (not_refused told.status (refusal_of_fault (fault.Void missing)) refl (ap (λ (x : ContentView). x.status) text) success)
    end_tells asked (Err (fault.OverLimit limit)) solved text =
        absurd (not_refused told.status (refusal_of_fault (fault.OverLimit limit)) refl (ap (λ (x : ContentView). x.status) text) success)
    end_tells asked (Err fault.NoMemory) solved text = absurd text

    best_tells : (asked : What) → TellsBest asked (case_data i) told → TellsBestOf i asked told
    best_tells asked (end, solved, text) = end_tells asked end solved text

    tells_best : (asked : What) → IsPublication (case_data i) asked told → IsOfDivision asked → TellsBestOf i asked told
    tells_best what.Division is of_division = best_tells what.Division is
    tells_best what.Certificate is of_division = best_tells what.Certificate is
    tells_best what.Report is of_division = best_tells what.Report is
    tells_best what.Audit is of_division = absurd of_division
    tells_best what.Winner is of_division = absurd of_division

  module _ {D : Type 0} (d : Ghosts D) (x : Exchange (D × State)) (sound : AreCheckedInstances (host_in x.after.1).instances) (asked : What) (success : x.due.said.status ≡ 200) where
    told_publishes : (route : Route) → IsRouted x.head.verb x.head.path (Ok route) → TellsOf x.after.1 route.id asked x.due.said → Publishes x asked
    told_publishes route routed (told, i, found, closed, said, told_200, publication) =
        let own = sound_found (host_in x.after.1) route.id i sound found in
        record {
          route = route;
          i = i;
          told = told;
          routed = routed;
          stands = found;
          closed = closed;
          said = said;
          published = publication;
          best = tells_best i own told told_200 asked publication;
          one = λ other also. laws.one_told (case_data i) asked other told (laws.ready i own) also publication;
        }

    pub publishes : AsksFor x asked → Responds d x.before.0 x.after.0 x.head x.body x.moment x.before.1 x.after.1 x.due.said → Publishes x asked
    publishes asks (Responds.no_route routed still same so) = absurd (said_other x.due.said service.NoRoute refl so success)
    publishes asks (Responds.method allow routed still same so) = absurd (not_refused x.due.said.status service.Method refl (ap (λ (s : ContentView). s.status) so) success)
    publishes asks (Responds.at_once route routed settles) = absurd (settles_other d x.before.0 x.after.0 x.before.1 x.after.1 x.due.said success settles)
    publishes (route, routed, command) (Responds.stepped other between settled led settles one steps two) =
        let place_is = one_place x.head.verb x.head.path route other routed led in
        let asked_there : command_of other.place other.id x.head.key x.body ≡ To other.id x.head.key (asks.Publish asked) =
        subst (λ (p : Place). command_of p other.id x.head.key x.body ≡ To other.id x.head.key (asks.Publish asked)) place_is
        (asks_at route.place route.id other.id x.head.key x.body asked command) in
        told_publishes other led
        (steps_tell laws.refusals laws.one_more laws.shut d between x.after.0 x.moment (command_of other.place other.id x.head.key x.body) settled x.after.1 x.due.said other.id x.head.key asked asked_there success steps)
    publishes asks (Responds.memory way led reads still same so) = absurd (not_refused x.due.said.status service.Memory refl (ap (λ (s : ContentView). s.status) so) success)
