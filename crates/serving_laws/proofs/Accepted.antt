-- Each event is made by a request of the run.
use Rattle.std.proofs.Common.{◌≡◌, ℕ, List, [], ◌∷◌, ◌++◌, Option, Some, None, sym, ap, ◌∙◌, subst, ⊎_elim, inl, inr, append_assoc, append-nil, Contains, Ok}
use Rattle.std.proofs.lemmas.List.Elements.{Contains-append_left, Contains-push}
use Rattle.split_base.specs.declared.disk.Disk.{Ghosts}
use Rattle.host_journal.specs.States.{State, ready_with}
use Rattle.serving.specs.Exchanges.{Answered, Exchange}
use Rattle.requests.specs.Cases.{Responds, Settles, Steps}
use Rattle.requests.specs.Commands.{command_of}
use Rattle.sealed_core.specs.Host.{EventView}
use Rattle.serving.specs.Serving.{host_service}
use Rattle.split_http.specs.declared.routes.Route.{Route}
use Rattle.split_http.specs.Places.{IsRouted}
use Rattle.serving_laws.specs.Accepting.{Accepts, AreMade, IsMade}
use Rattle.serving_laws.proofs.Chains.{passes_first, responds_first}
use Rattle.reply_texts.specs.Contents.{ContentView}

module _ {W : Type 0} (run : List (Exchange W)) (first : State) where
  -- what came of one state by requests of the run
  record Comes (s new : State) : Type 0 where
    secret : new.secret ≡ s.secret
    more : List EventView
    kept : new.kept ≡ s.kept ++ more
    made : AreMade run first s.secret s.kept more
    waits : (event : EventView) → new.waiting ≡ Some event → IsMade run first new.secret new.kept event

  abbrev Waits : State → Type 0
  Waits s = (event : EventView) → s.waiting ≡ Some event → IsMade run first s.secret s.kept event

  made_join : (secret : List ℕ) (kept a b : List EventView) → AreMade run first secret kept a → AreMade run first secret (kept ++ a) b → AreMade run first secret kept (a ++ b)
  made_join secret kept [] b p q = subst (λ (l : List EventView). AreMade run first secret l b) (append-nil kept) q
  made_join secret kept (e ∷ a) b p q = (p.0, made_join secret (kept ++ e ∷ []) a b p.1 (subst (λ (l : List EventView). AreMade run first secret l b) (sym (append_assoc kept (e ∷ []) a)) q))

  comes_none : (s new : State) → new ≡ s → Waits s → Comes s new
  comes_none s new is waits = record {
    secret = ap (λ (x : State). x.secret) is;
    more = [];
    kept = ap (λ (x : State). x.kept) is ∙ sym (append-nil s.kept);
    made = tt;
    waits = subst Waits (sym is) waits;
  }

  comes_join : (a b c : State) → Comes a b → Comes b c → Comes a c
  comes_join a b c p q = record {
    secret = q.secret ∙ p.secret;
    more = p.more ++ q.more;
    kept = q.kept ∙ ap (λ (l : List EventView). l ++ q.more) p.kept ∙ append_assoc a.kept p.more q.more;
    made = made_join a.secret a.kept p.more q.more p.made
        (subst (λ (x : List ℕ). AreMade run first x (a.kept ++ p.more) q.more) p.secret (subst (λ (l : List EventView). AreMade run first b.secret l q.more) p.kept q.made));
    waits = q.waits;
  }

  ready_waits : (secret : List ℕ) (kept : List EventView) → Waits (ready_with secret kept)
  ready_waits secret kept e is = absurd (cc)

  settles_come : {D : Type 0} (d : Ghosts D) (disk after : D) (s new : State) (result : Option ContentView) → d.is_honest disk → Waits s → Settles d disk after s new result → Comes s new
  settles_come d disk after s new result honest waits (Settles.ready a b is c) = comes_none s new is waits
  settles_come d disk after s new result honest waits (Settles.store_fault e a up torn is c) = comes_none s new is waits
  settles_come d disk after s new result honest waits (Settles.damaged e place a same first never is c) = comes_none s new is waits
  settles_come d disk after s new result honest waits (Settles.opened e secret kept a same told can is c) =
      let settled = told.settled honest in
      let one : new.secret ≡ s.secret = ap (λ (x : State). x.secret) is ∙ settled.secret_stays in
      let ready : Waits new = subst Waits (sym is) (ready_waits secret kept) in
      ⊎_elim
      (λ (still : kept ≡ s.kept). record { secret = one; more = []; kept = ap (λ (x : State). x.kept) is ∙ still ∙ sym (append-nil s.kept); made = tt; waits = ready })
      (λ (grown : kept ≡ s.kept ++ e ∷ []). record { secret = one; more = e ∷ []; kept = ap (λ (x : State). x.kept) is ∙ grown; made = (waits e a, tt); waits = ready })
      settled.either

  module _ (x : Exchange W) (among : Contains run x) (route : Route) (routed : IsRouted x.head.verb x.head.path (Ok route)) where
    steps_come : {D : Type 0} (d : Ghosts D) (disk after : D) (s new : State) (said : ContentView) → Waits s
        → Steps d disk after x.moment (command_of route.place route.id x.head.key x.body) s new said → Comes s new
    steps_come d disk after s new said waits (Steps.no_event told a b r is c) = comes_none s new is waits
    steps_come d disk after s new said waits (Steps.kept told e a can same appended r is c) = record {
      secret = ap (λ (y : State). y.secret) is;
      more = e ∷ [];
      kept = ap (λ (y : State). y.kept) is;
      made = (inl (x, among, (route, routed, a)), tt);
      waits = subst Waits (sym is) (ready_waits s.secret (s.kept ++ e ∷ []));
    }
    steps_come d disk after s new said waits (Steps.failed e a up is c) = record {
      secret = ap (λ (y : State). y.secret) is;
      more = [];
      kept = ap (λ (y : State). y.kept) is ∙ sym (append-nil s.kept);
      made = tt;
      waits = subst Waits (sym is) (λ f same. let one : e ≡ f = cc in subst (IsMade run first s.secret s.kept) one (inl (x, among, (route, routed, a))));
    }
    steps_come d disk after s new said waits (Steps.memory id what p a is b) = comes_none s new is waits

  responds_come : {D : Type 0} (d : Ghosts D) (x : Exchange W) → Contains run x → (disk after : D) (s new : State) (said : ContentView) → d.is_honest disk → Waits s
      → Responds d disk after x.head x.body x.moment s new said → Comes s new
  responds_come d x among disk after s new said honest waits (Responds.no_route a b is c) = comes_none s new is waits
  responds_come d x among disk after s new said honest waits (Responds.method allow a b is c) = comes_none s new is waits
  responds_come d x among disk after s new said honest waits (Responds.at_once route a settles) = settles_come d disk after s new (Some said) honest waits settles
  responds_come d x among disk after s new said honest waits (Responds.stepped route between settled a settles one steps two) =
      let begun = settles_come d disk between s settled None honest waits settles in
      comes_join s settled new begun (steps_come x among route a d between after settled new said begun.waits steps)
  responds_come d x among disk after s new said honest waits (Responds.memory way led reads a is b) = comes_none s new is waits

-- the requests of which these are the last
run_comes : {D : Type 0} (d : Ghosts D) (before : List (Exchange (D × State))) (first : State) (w : D × State) (run : List (Exchange (D × State))) (new : D × State) → Answered (host_service d) w run new
    → d.is_honest w.0 → Waits (before ++ run) first w.1 → Comes (before ++ run) first w.1 new.1
run_comes {D} d before first w [] new same honest waits = comes_none (before ++ []) first w.1 new.1 (ap (λ (y : D × State). y.1) same) waits
run_comes {D} d before first w (e ∷ later) new run honest waits =
    let whole = before ++ e ∷ later in
    let again : (before ++ e ∷ []) ++ later ≡ whole = append_assoc before (e ∷ []) later in
    let among : Contains whole e = subst (λ (l : List (Exchange (D × State))). Contains l e) again (Contains-append_left (before ++ e ∷ []) later e (Contains-push before e)) in
    let begun = responds_come whole first d e among w.0 e.after.0 w.1 e.after.1 e.due.said honest waits (responds_first d w e later new run) in
    let waits_on = subst (λ (l : List (Exchange (D × State))). Waits l first e.after.1) (sym again) begun.waits in
    let rest = run_comes d (before ++ e ∷ []) first e.after later new run.2 ((passes_first d w e later new run).honest.0 honest) waits_on in
    comes_join whole first w.1 e.after.1 new.1 begun (subst (λ (l : List (Exchange (D × State))). Comes l first e.after.1 new.1) again rest)

pub accepts : {D : Type 0} (d : Ghosts D) (w : D × State) (run : List (Exchange (D × State))) (new : D × State) → Answered (host_service d) w run new → d.is_honest w.0 → Accepts run w.1 new.1
accepts d w run new answered honest =
    let c = run_comes d [] w.1 w run new answered honest (λ event is. inr is) in
    record { secret = c.secret; more = c.more; kept = c.kept; made = c.made; waits = c.waits }
