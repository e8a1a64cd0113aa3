-- The certificates of a run are those of which the law of one reply speaks.
use Rattle.std.proofs.Common.{◌≡◌, ℕ, List, [], ◌∷◌, ◌++◌, ap, ◌∙◌}
use Rattle.bid_rules.specs.declared.cases.Case.{Case}
use Rattle.bid_rules.specs.Facts.{IsValidCase}
use Rattle.certificates.specs.Canonical.{IsCanonical}
use Rattle.host_commands.specs.Links.{Every}
use Rattle.host_commands.specs.Publishing.{AsksFor, Publishes}
use Rattle.host_journal.specs.States.{State}
use Rattle.serving.specs.Dues.{AreBytes, DueView, Manner, is_head}
use Rattle.serving.specs.Exchanges.{Answered, Exchange, IsExchange}
use Rattle.serving.specs.Runs.{Service}
use Rattle.sealed_core.specs.declared.commands.What.{What}
use Rattle.sealed_core.specs.declared.commands.What.TheVariants as what
use Rattle.split_http.specs.declared.head.Verb.TheVariants as verb
use Rattle.program_laws.specs.Brought.{IsToBring}
use Rattle.program_laws.specs.Certificates.{IsOfCertificates}
use Rattle.reply_texts.specs.Contents.{ContentView}

-- what the law of one reply says
abbrev pub SaysOfReplies : (List ℕ → Type 0) → Type 0
SaysOfReplies so =
    (case : Case) (due : DueView) (bytes rest text : List ℕ) → IsValidCase case → IsCanonical case text → IsToBring due text → AreBytes due bytes
    → so (bytes ++ rest)

module _ {D : Type 0} (so : List ℕ → Type 0) (service : Service (D × State)) where
  one_certificate : SaysOfReplies so → (x : Exchange (D × State)) → Publishes x what.Certificate → IsExchange service x → x.head.verb ≡ verb.Get
      → (rest : List ℕ) → so (x.bytes ++ rest)
  one_certificate law x published is get rest =
      let best = published.best tt in
      law best.one x.due x.bytes rest published.told.text best.valid best.text.1
      (record {
        status = ap (λ (said : ContentView). said.status) published.said ∙ ap (λ (said : ContentView). said.status) best.text.0;
        allow = ap (λ (said : ContentView). said.allow) published.said ∙ ap (λ (said : ContentView). said.allow) best.text.0;
        whole = ap (λ (manner : Manner). manner.bodiless) is.manner.1 ∙ ap is_head get;
        is_text = ap (λ (said : ContentView). said.text) published.said;
      })
      is.are_bytes

  -- so of each request of a run
  pub every_certificate : SaysOfReplies so → (w : D × State) (run : List (Exchange (D × State))) (new : D × State) → Answered service w run new
      → Every (λ x. (asked : What) → AsksFor x asked → x.due.said.status ≡ 200 → Publishes x asked) run → Every (IsOfCertificates so) run
  every_certificate law w [] new answered published = tt
  every_certificate law w (x ∷ run) new answered published = (
    λ asks done get rest. one_certificate law x (published.0 what.Certificate asks done) answered.1 get rest,
    every_certificate law x.after run new answered.2 published.1,
  )
