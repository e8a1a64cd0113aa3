-- A request at the host's world.
use Rattle.std.proofs.Common.{◌≡◌, ℕ, List, refl, sym, subst}
use Rattle.split_base.specs.declared.disk.Disk.{Ghosts}
use Rattle.host_journal.specs.Calls.{ReachesState}
use Rattle.host_journal.specs.States.{Passes, State}
use Rattle.host_journal.specs.declared.serving.Serving.{Serving}
use Rattle.requests.specs.Cases.{Responds}
use Rattle.split_http.specs.declared.head.Head.{Head}
use Rattle.serving.specs.Serving.{StandsAt, host_service}
use Rattle.reply_texts.specs.Contents.{ContentView}

-- the new world, which the serving has, and the response that led to it
pub responded : {D : Type 0} (d : Ghosts D) (serving : Serving) (disk after : D) (w : D × State) (head : Head) (body given : List ℕ) (moment : ℕ) (said : ContentView) → w.0 ≡ disk → given ≡ body
    → ReachesState d serving disk after w.1 (λ new. Responds d disk after head given moment w.1 new said)
    → (new : D × State) × StandsAt d serving after new × (host_service d).responds head body moment w new said
responded {D} d serving disk after w head body given moment said at same leads = (
  (after, leads.new),
  (refl, leads.stands),
  (
    subst (λ (b : List ℕ). Responds d w.0 after head b moment w.1 leads.new said) same (subst (λ (x : D). Responds d x after head given moment w.1 leads.new said) (sym at) leads.is),
    subst (λ (x : D). Passes d x w.1 after leads.new) (sym at) leads.passes,
  ),
)
