-- From the run of a port to the requests of its links.
use Rattle.std.proofs.Common.{ℕ, List, [], ◌∷◌, ◌++◌, Option, refl, sym, subst}
use Rattle.serving.specs.declared.limits.TheConstants.{MAX_REQUESTS}
use Rattle.serving.specs.Ends.{Ending}
use Rattle.serving.specs.Exchanges.{Answered, EndsLink, Exchange, IsExchange, LinkExchanges}
use Rattle.serving.specs.Ports.{PortRun}
use Rattle.serving.specs.Runs.{LinkRun, Service}
use Rattle.serving.specs.Served.{LinkTells}
use Rattle.serving_laws.specs.Last.{EndsAfter}
use Rattle.host_commands.specs.Links.{Every, LinksAnswered, last_request, requests_of}
use Rattle.host_commands.specs.SameRuns.{AllDone, AreDone}

-- the run of a link is a list of its requests, and requests after others are one list with them
abbrev pub Exchanges : {W : Type 0} → Service W → Type 0
Exchanges {W} service = (n : ℕ) (all : List ℕ) (answers : List (Option ℕ)) (w : W) (out : List ℕ) (new : W) (end : Ending) → LinkRun service n all answers w out new end
    → LinkExchanges service all answers w out new end

-- it ended by what came last after these requests
abbrev pub Afterwards : {W : Type 0} → Service W → Type 0
Afterwards {W} service = (all : List ℕ) (answers : List (Option ℕ)) (w : W) (out : List ℕ) (new : W) (end : Ending) (link : LinkExchanges service all answers w out new end)
    → EndsAfter link.exchanges service all answers w out new end

abbrev pub Joined : {W : Type 0} → Service W → Type 0
Joined {W} service = (w : W) (first : List (Exchange W)) (between : W) (second : List (Exchange W)) (new : W) → Answered service w first between → Answered service between second new
    → Answered service w (first ++ second) new

module _ {W : Type 0} (service : Service W) where
  -- each request of a run is a step, from a world of which this is so as it is of the first
  pub every_step : (Good : W → Type 0) (P : Exchange W → Type 0) → ((x : Exchange W) → IsExchange service x → Good x.before → Good x.after) → ((x : Exchange W) → IsExchange service x → Good x.before → P x)
      → (w : W) (run : List (Exchange W)) (new : W) → Answered service w run new → Good w → Every P run
  every_step Good P goes is w [] new answered good = tt
  every_step Good P goes is w (x ∷ later) new (at, step, rest) good =
      let here : Good x.before = subst Good (sym at) good in
      (is x step here, every_step Good P goes is x.after later new rest (goes x step here))

  last_answered : (w : W) (rest : List ℕ) (answers : List (Option ℕ)) (out : List ℕ) (new : W) (end : Ending) (ends : EndsLink service w rest answers out new end) → Answered service w (last_request ends) new
  last_answered w rest answers out new end (EndsLink.replied left e input clock at is still got how) = (at, is, still)
  last_answered w rest answers out new end (EndsLink.refused left answer refusal bodiless bytes why clock still are how) = still
  last_answered w rest answers out new end (EndsLink.quiet stops still) = still

  module _ (exchanges : Exchanges service) (joined : Joined service) (afterwards : Afterwards service) where
    pub link_answered : (all : List ℕ) (answers : List (Option ℕ)) (w : W) (out : List ℕ) (new : W) (end : Ending) (link : LinkExchanges service all answers w out new end) → Answered service w (requests_of link) new
    link_answered all answers w out new end link =
        joined w link.exchanges link.mid (last_request link.ends) new link.answered (last_answered link.mid link.rest link.late link.behind new end link.ends)

    module _ {L : Type 0} (tells : LinkTells L) where
      pub links_answered : (links : List (L × L)) (answers : List (Option ℕ)) (w new : W) → PortRun service tells links answers w new
          → (run : List (Exchange W)) × LinksAnswered service tells links answers w run new
      links_answered [] answers w new (none, same) = ([], (none, refl, same))
      links_answered (l ∷ links) answers w new (now, later, mid, is, served, rest) =
          let link = exchanges MAX_REQUESTS served.input now w served.out mid served.ending served.run in
          let (behind, others) = links_answered links later mid new rest in (
            requests_of link ++ behind,
            (
              now,
              later,
              requests_of link,
              behind,
              mid,
              is,
              refl,
              record {
                input = served.input;
                out = served.out;
                ending = served.ending;
                told = served.told;
                wrote = served.wrote;
                counts = served.counts;
                run = served.run;
                link = link;
                ends = afterwards served.input now w served.out mid served.ending link;
                all = refl;
              },
              others,
            ),
          )

      -- where no call failed on any of the links, and memory sufficed, it is so of their requests
      pub links_done : (links : List (L × L)) (answers : List (Option ℕ)) (w new : W) (run : PortRun service tells links answers w new) → AreDone service tells links answers w new run
          → (requests : List (Exchange W)) × (written : LinksAnswered service tells links answers w requests new) × AllDone service tells links answers w requests new written
      unfolding links_answered
      links_done links answers w new run done =
          let written = links_answered links answers w new run in
          (written.0, written.1, each links answers w new run done)
        where
          each : (links : List (L × L)) (answers : List (Option ℕ)) (w new : W) (run : PortRun service tells links answers w new) → AreDone service tells links answers w new run
              → AllDone service tells links answers w (links_answered links answers w new run).0 new (links_answered links answers w new run).1
          each [] answers w new run done = tt
          each (l ∷ links) answers w new (now, later, mid, is, one, rest) (here, others) = (here, each links later mid new rest others)

      -- the requests of all links are answered one after the other
      pub one_machine : (links : List (L × L)) (answers : List (Option ℕ)) (w : W) (run : List (Exchange W)) (new : W) → LinksAnswered service tells links answers w run new → Answered service w run new
      one_machine [] answers w run new (none, empty, same) = subst (λ (r : List (Exchange W)). Answered service w r new) (sym empty) same
      one_machine (l ∷ links) answers w run new (now, later, here, behind, mid, is, all, first, others) =
          subst (λ (r : List (Exchange W)). Answered service w r new) (sym all)
          (joined w here mid behind new
          (subst (λ (r : List (Exchange W)). Answered service w r mid) (sym first.all) (link_answered first.input now w first.out mid first.ending first.link))
          (one_machine links later mid behind new others))
