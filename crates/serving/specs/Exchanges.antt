-- How a link was served, head by head in order: the requests that were answered, each with its one reply, and how the link ended after them.
use Rattle.std.specs.Prelude.{◌≡◌, ◌⊎◌, ℕ, Bool, true, false, List, [], ◌∷◌, ◌++◌, length, Option, Some, None}
use Rattle.split_http.specs.declared.head.Head.{Head}
use Rattle.split_http.specs.Turns.{interim_of}
use Rattle.serving.specs.declared.refusals.HeadRefusal.{HeadRefusal}
use Rattle.serving.specs.Dues.{AreBytes, DueView, IsPartOf, closes, closing, manner_of}
use Rattle.serving.specs.Ends.{Ending}
use Rattle.serving.specs.Runs.{Refuses, SaysHead, Service, Stops, end_of}

-- one request that was answered: its head with the head's text, its body, the moment at which it came, the worlds before and after it, the
-- reply with its bytes, and what the link got of the interim line and the reply
pub record Exchange (W : Type 0) : Type 0 where
  pub text : List ℕ
  pub head : Head
  pub body : List ℕ
  pub moment : ℕ
  pub before : W
  pub after : W
  pub due : DueView
  pub bytes : List ℕ
  pub got : List ℕ

-- it is one step of the service, with the reply that is due
pub record IsExchange {W : Type 0} (service : Service W) (e : Exchange W) : Type 0 where
  pub says : SaysHead e.text e.head
  pub accepted : e.head.refused ≡ None
  pub size : length e.body ≡ e.head.length
  pub responds : service.responds e.head e.body e.moment e.before e.after e.due.said
  pub manner : (last : Bool) × (e.due.manner ≡ manner_of last e.head e.moment)
  pub are_bytes : AreBytes e.due e.bytes

-- the link got all of it
abbrev pub IsWhole : {W : Type 0} → Exchange W → Type 0
IsWhole e = e.got ≡ interim_of e.head.expects ++ e.bytes

-- the link got the interim line and a first part of the reply, and some of the reply is missing
abbrev pub IsTorn : {W : Type 0} → Exchange W → Type 0
IsTorn e = (part : List ℕ) × IsPartOf e.bytes part × (e.got ≡ interim_of e.head.expects ++ part)

-- the link got all of each of them, and went on
abbrev pub AreWhole : {W : Type 0} → List (Exchange W) → Type 0
AreWhole [] = Unit {0}
AreWhole (e ∷ later) = IsWhole e × (closes e.due ≡ false) × AreWhole later

-- each request led on from the world that the one before it left
abbrev pub Answered : {W : Type 0} → Service W → W → List (Exchange W) → W → Type 0
Answered service w [] new = new ≡ w
Answered service w (e ∷ later) new = (e.before ≡ w) × IsExchange service e × Answered service e.after later new

-- the bytes of the requests, one after the other
abbrev pub input_of : {W : Type 0} → List (Exchange W) → List ℕ
input_of [] = []
input_of (e ∷ later) = (e.text ++ e.body) ++ input_of later

-- the answers that the clock gave to them
abbrev pub moments_of : {W : Type 0} → List (Exchange W) → List (Option ℕ)
moments_of [] = []
moments_of (e ∷ later) = Some e.moment ∷ moments_of later

-- what the link got of their replies
abbrev pub written_of : {W : Type 0} → List (Exchange W) → List ℕ
written_of [] = []
written_of (e ∷ later) = e.got ++ written_of later

-- the reply to a head that is refused
abbrev pub refused_due : {W : Type 0} → Service W → HeadRefusal → Option ℕ → Bool → DueView
refused_due service refusal answer bodiless = record { said = service.refuses refusal; manner = closing answer bodiless }

-- the bytes were written and the link ended after them, or a first part of them was written and then a write failed
abbrev pub EndsWith : DueView → List ℕ → List ℕ → Ending → Type 0
EndsWith due bytes out end = ((out ≡ bytes) × (end ≡ end_of due)) ⊎ (IsPartOf bytes out × (end ≡ Ending.write_fault))

-- How a link ends after requests whose replies were written and closed nothing. The last may be one more request; otherwise what is left gets no
-- reply, or its head is refused.
pub data EndsLink {W : Type 0} (service : Service W) (w : W) (rest : List ℕ) (answers : List (Option ℕ)) (out : List ℕ) (new : W) (end : Ending) : Type 0 where
  replied : (left : List ℕ) (e : Exchange W) → rest ≡ (e.text ++ e.body) ++ left → answers ≡ Some e.moment ∷ [] → e.before ≡ w → IsExchange service e → new ≡ e.after → out ≡ e.got
      → (IsWhole e × (closes e.due ≡ true) × (end ≡ end_of e.due)) ⊎ (IsTorn e × (end ≡ Ending.write_fault)) → EndsLink service w rest answers out new end
  refused : (left : List ℕ) (answer : Option ℕ) (refusal : HeadRefusal) (bodiless : Bool) (bytes : List ℕ) → Refuses rest left answer refusal bodiless → answers ≡ answer ∷ [] → new ≡ w
      → AreBytes (refused_due service refusal answer bodiless) bytes → EndsWith (refused_due service refusal answer bodiless) bytes out end → EndsLink service w rest answers out new end
  quiet : Stops rest answers out end → new ≡ w → EndsLink service w rest answers out new end

-- The run of a link: requests that were answered and after which the link went on, and its end.
pub record LinkExchanges {W : Type 0} (service : Service W) (all : List ℕ) (answers : List (Option ℕ)) (w : W) (out : List ℕ) (new : W) (end : Ending) : Type 0 where
  pub exchanges : List (Exchange W)
  pub rest : List ℕ
  pub late : List (Option ℕ)
  pub behind : List ℕ
  pub mid : W
  pub input : all ≡ input_of exchanges ++ rest
  pub clock : answers ≡ moments_of exchanges ++ late
  pub wrote : out ≡ written_of exchanges ++ behind
  pub answered : Answered service w exchanges mid
  pub whole : AreWhole exchanges
  pub ends : EndsLink service mid rest late behind new end
