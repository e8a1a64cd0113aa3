-- For the law over a whole run of `serve`: the links that it gets from its port, in order, with the requests that were answered on them.
use Rattle.std.specs.Prelude.{◌≡◌, ℕ, List, [], ◌∷◌, ◌++◌, Option}
use Rattle.std.specs.Io.KnownBytes.{Appends}
use Rattle.serving.specs.declared.limits.TheConstants.{MAX_REQUESTS}
use Rattle.serving.specs.Ends.{Ending}
use Rattle.serving.specs.Exchanges.{EndsLink, Exchange, LinkExchanges}
use Rattle.serving.specs.Runs.{LinkRun, Service}
use Rattle.serving.specs.Served.{CountsEnd, HaveCome, LinkTells, link_view}
use Rattle.serving_laws.specs.Last.{EndsAfter}

-- this holds of each of them
abbrev pub Every : {A : Type 0} → (A → Type 0) → List A → Type 0
Every P [] = Unit {0}
Every P (x ∷ xs) = P x × Every P xs

-- the last request of a link, if it was answered: after its reply, or a first part of it, the link ended
abbrev pub last_request : {W : Type 0} {service : Service W} {w : W} {rest : List ℕ} {answers : List (Option ℕ)} {out : List ℕ} {new : W} {end : Ending}
    → EndsLink service w rest answers out new end → List (Exchange W)
last_request (EndsLink.replied left e input clock at is still got how) = e ∷ []
last_request (EndsLink.refused left answer refusal bodiless bytes why clock still are how) = []
last_request (EndsLink.quiet stops still) = []

-- all requests of a link that were answered, in order
abbrev pub requests_of : {W : Type 0} {service : Service W} {all : List ℕ} {answers : List (Option ℕ)} {w : W} {out : List ℕ} {new : W} {end : Ending}
    → LinkExchanges service all answers w out new end → List (Exchange W)
requests_of link = link.exchanges ++ last_request link.ends

-- One link, as it was handed out and as it was given back. At most `MAX_REQUESTS` requests were read from the bytes that came of it. It got the bytes
-- of their replies, each after the interim line if its head asked for one, and each whole but the last, which a failed write may tear. Then something
-- came last, and the link ended by it. On each side its count shows the failed call that ended it, and no other; and, if it counts empty writes, that
-- there were none.
pub record LinkAnswered {L W : Type 0} (service : Service W) (tells : LinkTells L) (begun ended : L) (answers : List (Option ℕ)) (w : W) (requests : List (Exchange W)) (new : W) : Type 0 where
  pub input : List ℕ
  pub out : List ℕ
  pub ending : Ending
  pub told : HaveCome ending (tells.left begun) (tells.left ended) input
  pub wrote : Appends (tells.written begun) (tells.written ended) out
  pub counts : CountsEnd (link_view tells begun) (link_view tells ended) ending
  pub run : LinkRun service MAX_REQUESTS input answers w out new ending
  pub link : LinkExchanges service input answers w out new ending
  pub ends : EndsAfter link.exchanges service input answers w out new ending
  pub all : requests ≡ requests_of link

-- The links in order, each from the world that the one before it left. The requests of all of them are these, in order.
abbrev pub LinksAnswered : {L W : Type 0} → Service W → LinkTells L → List (L × L) → List (Option ℕ) → W → List (Exchange W) → W → Type 0
LinksAnswered service tells [] answers w requests new = (answers ≡ []) × (requests ≡ []) × (new ≡ w)
LinksAnswered {L} {W} service tells (l ∷ links) answers w requests new =
    (now later : List (Option ℕ)) × (here behind : List (Exchange W)) × (mid : W) × (answers ≡ now ++ later) × (requests ≡ here ++ behind)
    × LinkAnswered service tells l.0 l.1 now w here mid × LinksAnswered service tells links later mid behind new
