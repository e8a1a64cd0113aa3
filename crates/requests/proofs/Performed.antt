-- A command that was answered, as the request that it is.
use Rattle.std.proofs.Common.{◌≡◌, ℕ, List, Ok, subst}
use Rattle.split_base.specs.declared.disk.Disk.{Ghosts}
use Rattle.host_journal.specs.States.{State}
use Rattle.sealed_core.specs.Step.{CommandView}
use Rattle.split_http.specs.declared.head.Head.{Head}
use Rattle.split_http.specs.declared.routes.Route.{Route}
use Rattle.split_http.specs.Places.{IsRouted}
use Rattle.requests.specs.Cases.{Responds, Steps}
use Rattle.requests.specs.Commands.{command_of}
use Rattle.requests.specs.Keeping.{Performs}
use Rattle.reply_texts.specs.Contents.{ContentView}

pub performed_responds : {D : Type 0} (d : Ghosts D) (disk after : D) (head : Head) (body : List ℕ) (moment : ℕ) (s new : State) (said : ContentView) (route : Route)
    → IsRouted head.verb head.path (Ok route) → (command : CommandView) → command ≡ command_of route.place route.id head.key body → Performs d disk after moment command s new said
    → Responds d disk after head body moment s new said
performed_responds d disk after head body moment s new said route routed command is (Performs.at_once settles) = Responds.at_once route routed settles
performed_responds d disk after head body moment s new said route routed command is (Performs.stepped between settled settles one steps two) =
    Responds.stepped route between settled routed settles one (subst (λ (k : CommandView). Steps d between after moment k settled new said) is steps) two
