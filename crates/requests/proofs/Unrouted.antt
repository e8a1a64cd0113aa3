-- A request that leads nowhere.
use Rattle.std.proofs.Common.{◌≡◌, ℕ, List, Err, refl}
use Rattle.split_base.specs.declared.disk.Disk.{Ghosts}
use Rattle.host_journal.specs.States.{State}
use Rattle.split_http.specs.declared.head.Head.{Head}
use Rattle.split_http.specs.declared.routes.RouteFault.{RouteFault}
use Rattle.split_http.specs.declared.routes.RouteFault.TheVariants.{NoRoute, Method}
use Rattle.split_http.specs.Places.{IsRouted}
use Rattle.requests.specs.Cases.{Responds}
use Rattle.requests.specs.Keeping.{unrouted_said}
use Rattle.reply_texts.specs.Contents.{ContentView}

pub unrouted_responds : {D : Type 0} (d : Ghosts D) (disk : D) (head : Head) (body : List ℕ) (moment : ℕ) (s : State) (fault : RouteFault) (said : ContentView)
    → IsRouted head.verb head.path (Err fault) → said ≡ unrouted_said fault → Responds d disk disk head body moment s s said
unrouted_responds d disk head body moment s NoRoute said routed says = Responds.no_route routed refl refl says
unrouted_responds d disk head body moment s (Method allow) said routed says = Responds.method allow routed refl refl says
