-- A whole run: the links that a port handed out, in order, under one service.
use Rattle.std.specs.Prelude.{◌≡◌, ℕ, ◌<◌, List, [], ◌∷◌, ◌++◌, length, map, take, ⊤, Option, Some, None}
use Rattle.std.specs.Io.KnownBytes.{Appends}
use Rattle.split_base.specs.Ports.{TakesBack}
use Rattle.serving.specs.declared.limits.TheConstants.{MAX_REQUESTS}
use Rattle.serving.specs.Ends.{Ending}
use Rattle.serving.specs.Runs.{LinkRun, Service}
use Rattle.serving.specs.Served.{CountsEnd, HaveCome, LinkTells, link_view}

-- these were handed out, the first of those to come
abbrev pub HandsOut : {L : Type 0} → Option (List L) → List L → Option (List L) → Type 0
HandsOut None begun new = ⊤
HandsOut {L} (Some links) begun new = (rest : List L) × (links ≡ begun ++ rest) × (new ≡ Some rest)

-- these were given back, in order
abbrev pub GivesBack : {L : Type 0} → Option (List L) → List L → Option (List L) → Type 0
GivesBack None ended new = ⊤
GivesBack (Some links) ended new = new ≡ Some (links ++ ended)

-- One link, as it was handed out and as it was given back: the run over the bytes that came of it, and on each side its count, which tells the
-- failed call that ended it and no other; and where it counts them, that no write was empty.
pub record LinkServed {L W : Type 0} (service : Service W) (tells : LinkTells L) (begun ended : L) (answers : List (Option ℕ)) (w new : W) : Type 0 where
  pub input : List ℕ
  pub out : List ℕ
  pub ending : Ending
  pub told : HaveCome ending (tells.left begun) (tells.left ended) input
  pub wrote : Appends (tells.written begun) (tells.written ended) out
  pub counts : CountsEnd (link_view tells begun) (link_view tells ended) ending
  pub run : LinkRun service MAX_REQUESTS input answers w out new ending

-- a link was served and given back, or dropped if there was no place for it
pub record LinkGone {L W : Type 0} (service : Service W) (tells : LinkTells L) (begun : L) (back back_now : Option (List L)) (places : ℕ)
    (asked : List (Option ℕ) → Type 0) (stands : W → Type 0) (w : W) : Type 0 where
  pub ended : L
  pub answers : List (Option ℕ)
  pub new : W
  pub clock : asked answers
  pub serving : stands new
  pub served : LinkServed service tells begun ended answers w new
  pub given : 0 < places → TakesBack back back_now ended
  pub dropped : places ≡ 0 → back_now ≡ back

-- The links in order, each from the world that the one before it left.
abbrev pub PortRun : {L W : Type 0} → Service W → LinkTells L → List (L × L) → List (Option ℕ) → W → W → Type 0
PortRun service tells [] answers w new = (answers ≡ []) × (new ≡ w)
PortRun {L} {W} service tells (l ∷ links) answers w new =
    (now later : List (Option ℕ)) × (mid : W) × (answers ≡ now ++ later) × LinkServed service tells l.0 l.1 now w mid × PortRun service tells links later mid new

-- links: each as it was handed out, and as it was when it was done with; as many of them were given back as there were places
pub record PortServed {L W : Type 0} (service : Service W) (tells : LinkTells L) (come come_now back back_now : Option (List L)) (places : ℕ)
    (asked : List (Option ℕ) → Type 0) (stands : W → Type 0) (w : W) (count : ℕ) : Type 0 where
  pub links : List (L × L)
  pub answers : List (Option ℕ)
  pub new : W
  pub number : length links ≡ count
  pub handed : HandsOut come (map (λ l. l.0) links) come_now
  pub given : GivesBack back (take places (map (λ l. l.1) links)) back_now
  pub clock : asked answers
  pub serving : stands new
  pub run : PortRun service tells links answers w new
