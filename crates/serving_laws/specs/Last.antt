-- For laws about whole runs of the host over a link: what came last on the link, and how that ends it.
use Rattle.std.specs.Prelude.{◌≡◌, ℕ, ◌<◌, Bool, true, false, List, [], ◌∷◌, ◌++◌, length, Option, Some, None}
use Rattle.split_http.specs.declared.head.Head.{Head}
use Rattle.split_http.specs.Turns.{MayBecomeHead, interim_of}
use Rattle.serving.specs.declared.ends.LinkEnd.{LinkEnd}
use Rattle.serving.specs.declared.refusals.HeadRefusal.{HeadRefusal}
use Rattle.serving.specs.Dues.{AreBytes, DueView, IsPartOf, closes}
use Rattle.serving.specs.Ends.{Ending, end_as}
use Rattle.serving.specs.Exchanges.{Answered, AreWhole, Exchange, IsExchange, IsTorn, IsWhole, input_of, moments_of, refused_due, written_of}
use Rattle.serving.specs.Runs.{Refuses, SaysHead, Service, end_of}

-- What comes last on a link: no byte is left where a head would begin; the input ends within a body; a reply is written and closes the connection; a
-- read fails; or a write does.
pub data Last : Type 0 where
  nothing_left : Last
  body_cut : Last
  reply : DueView → Last
  read_failed : Last
  write_failed : Last

-- how the link ends because of that
abbrev pub ending_by : Last → Ending
ending_by Last.nothing_left = Ending.ended
ending_by Last.body_cut = Ending.cut
ending_by (Last.reply due) = end_of due
ending_by Last.read_failed = Ending.read_fault
ending_by Last.write_failed = Ending.write_fault

-- how the link ends because of that, as it is reported
abbrev pub end_by : Last → LinkEnd
end_by last = end_as (ending_by last)

-- the last thing was a reply that doesn't say that memory ran out
abbrev pub IsPlainReply : Last → Type 0
IsPlainReply last = (due : DueView) × (last ≡ Last.reply due) × (due.said.memory ≡ false)

-- the last thing was the reply that memory ran out
abbrev pub IsMemoryReply : Last → Type 0
IsMemoryReply last = (due : DueView) × (last ≡ Last.reply due) × (due.said.memory ≡ true)

-- the bytes begin with a head that isn't refused, which came at a moment; after it these are left
pub record BeginsBody (all : List ℕ) (answers : List (Option ℕ)) (head : Head) (left : List ℕ) : Type 0 where
  pub text : List ℕ
  pub moment : ℕ
  pub bytes : all ≡ text ++ left
  pub says : SaysHead text head
  pub accepted : head.refused ≡ None
  pub asked : answers ≡ Some moment ∷ []

-- a request with its reply, the first of the bytes
pub record IsFirst {W : Type 0} (service : Service W) (e : Exchange W) (w : W) (all : List ℕ) (answers : List (Option ℕ)) (out : List ℕ) (new : W) : Type 0 where
  pub left : List ℕ
  pub bytes : all ≡ (e.text ++ e.body) ++ left
  pub asked : answers ≡ Some e.moment ∷ []
  pub before : e.before ≡ w
  pub is : IsExchange service e
  pub after : new ≡ e.after
  pub got : out ≡ e.got

-- a head that is refused, the first of the bytes, with its reply of these bytes: it changes nothing
pub record IsRefusedFirst {W : Type 0} (service : Service W) (due : DueView) (bytes : List ℕ) (w : W) (all : List ℕ) (answers : List (Option ℕ)) (new : W) : Type 0 where
  pub left : List ℕ
  pub answer : Option ℕ
  pub refusal : HeadRefusal
  pub bodiless : Bool
  pub refuses : Refuses all left answer refusal bodiless
  pub asked : answers ≡ answer ∷ []
  pub is : due ≡ refused_due service refusal answer bodiless
  pub are_bytes : AreBytes due bytes
  pub still : new ≡ w

-- the reply that was written whole: to a request, after its interim line, or to a head that is refused
pub data IsWritten {W : Type 0} (service : Service W) (due : DueView) (w : W) (all : List ℕ) (answers : List (Option ℕ)) (out : List ℕ) (new : W) : Type 0 where
  replied : (e : Exchange W) → IsFirst service e w all answers out new → IsWhole e → due ≡ e.due → IsWritten service due w all answers out new
  refused : IsRefusedFirst service due out w all answers new → IsWritten service due w all answers out new

-- the read that failed: while the parser asked for more of the bytes that had come, or before the whole body of a head had come
pub data FailsReading (all : List ℕ) (answers : List (Option ℕ)) (out : List ℕ) : Type 0 where
  in_head : MayBecomeHead all → answers ≡ [] → out ≡ [] → FailsReading all answers out
  in_body : (head : Head) (come : List ℕ) → BeginsBody all answers head come → length come < head.length → out ≡ interim_of head.expects → FailsReading all answers out

-- the write that failed, of which a first part was written: that of an interim line, of the reply to a request, or of one to a refused head
pub data FailsWriting {W : Type 0} (service : Service W) (w : W) (all : List ℕ) (answers : List (Option ℕ)) (out : List ℕ) (new : W) : Type 0 where
  in_interim : (head : Head) (left : List ℕ) → BeginsBody all answers head left → head.expects ≡ true → IsPartOf (interim_of head.expects) out → new ≡ w → FailsWriting service w all answers out new
  in_reply : (e : Exchange W) → IsFirst service e w all answers out new → IsTorn e → FailsWriting service w all answers out new
  in_refusal : (due : DueView) (bytes : List ℕ) → IsRefusedFirst service due bytes w all answers new → IsPartOf bytes out → FailsWriting service w all answers out new

-- this came last, over the bytes that were left
abbrev pub CameLast : {W : Type 0} → Service W → Last → W → List ℕ → List (Option ℕ) → List ℕ → W → Type 0
CameLast service Last.nothing_left w all answers out new = (all ≡ []) × (answers ≡ []) × (out ≡ []) × (new ≡ w)
CameLast service Last.body_cut w all answers out new =
    (head : Head) × (left : List ℕ) × BeginsBody all answers head left × (length left < head.length) × (out ≡ interim_of head.expects) × (new ≡ w)
CameLast service (Last.reply due) w all answers out new = (closes due ≡ true) × IsWritten service due w all answers out new
CameLast service Last.read_failed w all answers out new = FailsReading all answers out × (new ≡ w)
CameLast service Last.write_failed w all answers out new = FailsWriting service w all answers out new

-- The run of a link: requests that were answered and after which it went on, and what came last, by which it ends.
pub record LinkEnds {W : Type 0} (service : Service W) (all : List ℕ) (answers : List (Option ℕ)) (w : W) (out : List ℕ) (new : W) (end : Ending) : Type 0 where
  pub exchanges : List (Exchange W)
  pub rest : List ℕ
  pub late : List (Option ℕ)
  pub behind : List ℕ
  pub mid : W
  pub last : Last
  pub input : all ≡ input_of exchanges ++ rest
  pub clock : answers ≡ moments_of exchanges ++ late
  pub wrote : out ≡ written_of exchanges ++ behind
  pub answered : Answered service w exchanges mid
  pub whole : AreWhole exchanges
  pub came : CameLast service last mid rest late behind new
  pub ends : end ≡ ending_by last

-- after these requests, of which the link got the replies, something came last, and the link ended by it
abbrev pub EndsAfter : {W : Type 0} → List (Exchange W) → Service W → List ℕ → List (Option ℕ) → W → List ℕ → W → Ending → Type 0
EndsAfter exchanges service all answers w out new end = (ends : LinkEnds service all answers w out new end) × (ends.exchanges ≡ exchanges)
