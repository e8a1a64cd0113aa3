-- The run of a link: one service, asked by the heads of the link in order.
use Rattle.std.specs.Prelude.{◌≡◌, ◌⊎◌, ℕ, zero, suc, ◌<◌, ◌==◌, Bool, true, false, List, [], ◌∷◌, ◌++◌, length, Option, Some, None, if◌then◌else◌}
use Rattle.httparse.specs.Grammar.{RequestHead, print_request}
use Rattle.split_http.specs.declared.head.Head.{Head}
use Rattle.split_http.specs.declared.head.Verb.{Verb}
use Rattle.split_http.specs.Heads.{IsHead, IsHeadOf, text_of}
use Rattle.split_http.specs.Turns.{HasHeadOf, IsBad, MayBecomeHead, interim_of}
use Rattle.serving.specs.declared.refusals.HeadRefusal.{HeadRefusal}
use Rattle.serving.specs.declared.refusals.HeadRefusal.TheVariants as refusals
use Rattle.serving.specs.Dues.{AreBytes, DueView, IsPartOf, closes, closing, is_head, manner_of}
use Rattle.serving.specs.Ends.{Ending}
use Rattle.reply_texts.specs.Contents.{ContentView}

-- What a service says: to a head that is refused, and to a head with its body at a moment, from one state of the world to another.
pub record Service (W : Type 0) : Type 1 where
  pub refuses : HeadRefusal → ContentView
  pub responds : Head → List ℕ → ℕ → W → W → ContentView → Type 0

-- a run over what is left: bytes, clock answers, world, bytes written, world after, and the ending
abbrev pub Run : Type 0 → Type 1
Run W = List ℕ → List (Option ℕ) → W → List ℕ → W → Ending → Type 0

-- the text is that head, which says this
abbrev pub SaysHead : List ℕ → Head → Type 0
SaysHead text head = (h : RequestHead) × IsHead h × IsHeadOf (text_of h) head × (text ≡ print_request h)

-- Why the bytes that are left get a reply that closes the connection, at an answer of the clock, before any body is read: they begin with no
-- head; the clock failed; what the head says is refused; or there was no memory, for the head, which is still there, or for its body, of one byte or more. And
-- whether the reply is bodiless, as one to HEAD is. The rest is left then.
pub data Refuses (all rest : List ℕ) (answer : Option ℕ) (refusal : HeadRefusal) (bodiless : Bool) : Type 0 where
  bad_head : IsBad all → refusal ≡ refusals.BadHead → bodiless ≡ false → Refuses all rest answer refusal bodiless
  clock_fault : (text : List ℕ) (head : Head) → all ≡ text ++ rest → SaysHead text head → answer ≡ None → refusal ≡ refusals.ClockFault → bodiless ≡ is_head head.verb
      → Refuses all rest answer refusal bodiless
  stated : (text : List ℕ) (head : Head) (moment row : ℕ) → all ≡ text ++ rest → SaysHead text head → answer ≡ Some moment → head.refused ≡ Some row → refusal ≡ refusals.Stated row
      → bodiless ≡ is_head head.verb → Refuses all rest answer refusal bodiless
  body_memory : (text : List ℕ) (head : Head) (moment : ℕ) → all ≡ text ++ rest → SaysHead text head → answer ≡ Some moment → head.refused ≡ None → 0 < head.length → refusal ≡ refusals.Memory
      → bodiless ≡ is_head head.verb → Refuses all rest answer refusal bodiless
  head_memory : (verb : Verb) → HasHeadOf verb all → refusal ≡ refusals.Memory → bodiless ≡ is_head verb → Refuses all rest answer refusal bodiless

-- the bytes begin with a request: a head that isn't refused, with its body
pub record Asks (all rest : List ℕ) (head : Head) (body : List ℕ) : Type 0 where
  pub text : List ℕ
  pub bytes : all ≡ text ++ (body ++ rest)
  pub says : SaysHead text head
  pub accepted : head.refused ≡ None
  pub size : length body ≡ head.length

-- A reply, and the world after it: to a head that is refused, which changes nothing; or to a request, after the interim line if that is due.
pub data Replies {W : Type 0} (service : Service W) (last : Bool) (all rest : List ℕ) (answer : Option ℕ) (w : W) (interim : List ℕ) (new : W) (due : DueView) : Type 0 where
  refused : (refusal : HeadRefusal) (bodiless : Bool) → Refuses all rest answer refusal bodiless → interim ≡ [] → new ≡ w
      → due ≡ record { said = service.refuses refusal; manner = closing answer bodiless } → Replies service last all rest answer w interim new due
  answered : (head : Head) (body : List ℕ) (moment : ℕ) (said : ContentView) → Asks all rest head body → answer ≡ Some moment → interim ≡ interim_of head.expects
      → service.responds head body moment w new said → due ≡ record { said = said; manner = manner_of last head moment } → Replies service last all rest answer w interim new due

-- The bytes after a head that isn't refused, and no reply to it: they end within its body; a write of the interim line, which is due, failed,
-- and a first part of it was written; or a read failed after the whole line, and the bytes that had come are less than the body.
pub data BodyStops (head : Head) (all out : List ℕ) (end : Ending) : Type 0 where
  cut_off : length all < head.length → out ≡ interim_of head.expects → end ≡ Ending.cut → BodyStops head all out end
  interim_fault : head.expects ≡ true → IsPartOf (interim_of head.expects) out → end ≡ Ending.write_fault → BodyStops head all out end
  body_fault : length all < head.length → out ≡ interim_of head.expects → end ≡ Ending.read_fault → BodyStops head all out end

-- A link that ends with no reply begun: nothing is left; a read failed while the parser asked for more of the bytes that had come; or it ends
-- after a head.
pub data Stops (all : List ℕ) (answers : List (Option ℕ)) (out : List ℕ) (end : Ending) : Type 0 where
  nothing : all ≡ [] → answers ≡ [] → out ≡ [] → end ≡ Ending.ended → Stops all answers out end
  head_fault : MayBecomeHead all → answers ≡ [] → out ≡ [] → end ≡ Ending.read_fault → Stops all answers out end
  behind_head : (text rest : List ℕ) (head : Head) (moment : ℕ) → all ≡ text ++ rest → SaysHead text head → head.refused ≡ None
      → answers ≡ Some moment ∷ [] → BodyStops head rest out end → Stops all answers out end

-- how a link ends after its last reply
abbrev pub end_of : DueView → Ending
end_of due = if due.said.memory then Ending.memory else Ending.ended

-- A reply that is due, and what comes after it: if a write failed, a first part of the reply; otherwise all of it, and then the end or the run of the
-- rest.
pub data After {W : Type 0} (more : Run W) (rest : List ℕ) (answers : List (Option ℕ)) (w : W) (due : DueView) (out : List ℕ) (new : W) (end : Ending) : Type 0 where
  torn : (bytes : List ℕ) → answers ≡ [] → AreBytes due bytes → IsPartOf bytes out → new ≡ w → end ≡ Ending.write_fault → After more rest answers w due out new end
  over : closes due ≡ true → answers ≡ [] → AreBytes due out → new ≡ w → end ≡ end_of due → After more rest answers w due out new end
  on : (bytes later : List ℕ) → closes due ≡ false → AreBytes due bytes → out ≡ bytes ++ later → more rest answers w later new end → After more rest answers w due out new end

-- A head with its reply, and what comes after it.
pub record Heads {W : Type 0} (service : Service W) (more : Run W) (last : Bool) (all : List ℕ) (answers : List (Option ℕ)) (w : W) (out : List ℕ) (new : W) (end : Ending) : Type 0 where
  pub rest : List ℕ
  pub answer : Option ℕ
  pub later : List (Option ℕ)
  pub interim : List ℕ
  pub tail : List ℕ
  pub mid : W
  pub due : DueView
  pub asked : answers ≡ answer ∷ later
  pub wrote : out ≡ interim ++ tail
  pub replies : Replies service last all rest answer w interim mid due
  pub after : After more rest later mid due tail new end

-- The run of a link that may still make n requests. The last of them closes it, so that it never goes on after that one.
abbrev pub LinkRun : {W : Type 0} → Service W → ℕ → Run W
LinkRun service zero all answers w out new end = ⊥
LinkRun service (suc n) all answers w out new end = (Stops all answers out end × (new ≡ w)) ⊎ Heads service (LinkRun service n) (n == 0) all answers w out new end

-- nothing goes on
abbrev pub Never : {W : Type 0} → Run W
Never all answers w out new end = ⊥

-- the last head of a link
abbrev pub LastHead : {W : Type 0} → Service W → Bool → Run W
LastHead service last all answers w out new end = (Stops all answers out end × (new ≡ w)) ⊎ Heads service Never last all answers w out new end
