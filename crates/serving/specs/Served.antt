-- What each step in the serving of a link says, if the link's bytes are told: what came, what was written, and whether the link goes on or ends.
use Rattle.std.specs.Prelude.{◌≡◌, ◌⊎◌, ℕ, Bool, true, false, List, [], ◌∷◌, ◌++◌, Option, Some, None}
use Rattle.std.specs.Io.KnownBytes.{Appends, Consumes, prepend_known}
use Rattle.split_base.specs.declared.streams.Sink.{Ghosts as SinkSide}
use Rattle.split_base.specs.declared.streams.Source.{Ghosts as SourceSide}
use Rattle.split_http.specs.declared.head.Head.{Head}
use Rattle.split_http.specs.Turns.{IsToldAs, interim_of}
use Rattle.serving.specs.declared.ends.LinkEnd.{LinkEnd}
use Rattle.serving.specs.declared.ends.LinkEnd.TheVariants as ends
use Rattle.serving.specs.declared.refusals.HeadRefusal.{HeadRefusal}
use Rattle.serving.specs.Dues.{AreBytes, DueView, IsPartOf, closes}
use Rattle.serving.specs.Ends.{Ending, end_as, reads_after, writes_after}
use Rattle.serving.specs.Runs.{Asks, LastHead, LinkRun, Refuses, Replies, Run, Service, Stops, end_of}

-- how a type of links tells the bytes that are left and those that were written, how many reads and how many writes have failed, how many
-- writes were empty, and how many reads gave nothing
pub record LinkTells (L : Type 0) : Type 0 where
  pub left : L → Option (List ℕ)
  pub written : L → Option (List ℕ)
  pub reads : L → ℕ
  pub writes : L → ℕ
  pub empties : L → ℕ
  pub ends : L → ℕ

-- by what the two sides of a link reveal
abbrev pub tells_of : {L : Type 0} → SourceSide L → SinkSide L → LinkTells L
tells_of source sink = record { left = source.left; written = sink.written; reads = source.faults; writes = sink.faults; empties = sink.empty_writes; ends = source.empty_reads }

-- a link at a moment: the bytes to come, those that were written, and its counts of failed reads, failed writes and empty writes
pub record LinkView : Type 0 where
  pub ahead : Option (List ℕ)
  pub written : Option (List ℕ)
  pub reads : ℕ
  pub writes : ℕ
  pub empties : ℕ

-- what a link reveals at a moment
abbrev pub link_view : {L : Type 0} → LinkTells L → L → LinkView
link_view tells link = record { ahead = tells.left link; written = tells.written link; reads = tells.reads link; writes = tells.writes link; empties = tells.empties link }

-- with bytes that were read past the last message
abbrev pub with_carry : List ℕ → LinkView → LinkView
with_carry carry link = record { ahead = prepend_known carry link.ahead; written = link.written; reads = link.reads; writes = link.writes; empties = link.empties }

-- the counts of a link stay: no call failed, and no write was empty
abbrev pub CountsStay : LinkView → LinkView → Type 0
CountsStay link now = (now.reads ≡ link.reads) × (now.writes ≡ link.writes) × (now.empties ≡ link.empties)

-- the one call that the ending tells failed, or none, and no write was empty
abbrev pub CountsEnd : LinkView → LinkView → Ending → Type 0
CountsEnd link now end = (now.reads ≡ reads_after link.reads end) × (now.writes ≡ writes_after link.writes end) × (now.empties ≡ link.empties)

-- the bytes that came on a link with these to come, of which these are left: all of them, or, if a read failed, those that were read before it
abbrev pub HaveCome : Ending → (ahead left : Option (List ℕ)) → List ℕ → Type 0
HaveCome Ending.ended ahead left come = IsToldAs ahead come
HaveCome Ending.cut ahead left come = IsToldAs ahead come
HaveCome Ending.read_fault ahead left come = Consumes ahead left come
HaveCome Ending.write_fault ahead left come = IsToldAs ahead come
HaveCome Ending.memory ahead left come = IsToldAs ahead come

-- A run over the bytes that came on a link. `asked` says what answers the clock gave, and `stands` which worlds may be the state of what serves.
pub record RanTo {W : Type 0} (run : Run W) (link now : LinkView) (asked : List (Option ℕ) → Type 0) (stands : W → Type 0) (w : W) (end : LinkEnd) : Type 0 where
  pub all : List ℕ
  pub answers : List (Option ℕ)
  pub out : List ℕ
  pub new : W
  pub ending : Ending
  pub is_end : end ≡ end_as ending
  pub told : HaveCome ending link.ahead now.ahead all
  pub clock : asked answers
  pub wrote : Appends link.written now.written out
  pub counts : CountsEnd link now ending
  pub serving : stands new
  pub run_is : run all answers w out new ending

-- the link ended, and no reply was begun
pub record HeardQuiet (link now : LinkView) (asked : List (Option ℕ) → Type 0) (end : LinkEnd) : Type 0 where
  pub all : List ℕ
  pub answers : List (Option ℕ)
  pub out : List ℕ
  pub ending : Ending
  pub is_end : end ≡ end_as ending
  pub told : HaveCome ending link.ahead now.ahead all
  pub clock : asked answers
  pub wrote : Appends link.written now.written out
  pub counts : CountsEnd link now ending
  pub stops : Stops all answers out ending

-- a head is refused, and nothing was written
pub record HeardRefused (link now : LinkView) (asked : List (Option ℕ) → Type 0) (refusal : HeadRefusal) (answer : Option ℕ) (bodiless : Bool) : Type 0 where
  pub clock : asked (answer ∷ [])
  pub wrote : Appends link.written now.written []
  pub counts : CountsStay link now
  pub refuses : (rest : List ℕ) → IsToldAs now.ahead rest → (all : List ℕ) × IsToldAs link.ahead all × Refuses all rest answer refusal bodiless

-- a request was read whole and taken off the bytes, and the interim line written if it was due
pub record HeardRequest (link now : LinkView) (asked : List (Option ℕ) → Type 0) (head : Head) (body : List ℕ) (moment : ℕ) : Type 0 where
  pub clock : asked (Some moment ∷ [])
  pub wrote : Appends link.written now.written (interim_of head.expects)
  pub counts : CountsStay link now
  pub taken : List ℕ
  pub took : Consumes link.ahead now.ahead taken
  pub asks : (rest : List ℕ) → Asks (taken ++ rest) rest head body

-- a reply is due; if it doesn't close the link, the bytes that it answers have been taken off the link
pub record Replied {W : Type 0} (service : Service W) (link now : LinkView) (asked : List (Option ℕ) → Type 0) (stands : W → Type 0) (last : Bool) (w : W) (due : DueView) : Type 0 where
  pub answer : Option ℕ
  pub interim : List ℕ
  pub mid : W
  pub clock : asked (answer ∷ [])
  pub wrote : Appends link.written now.written interim
  pub counts : CountsStay link now
  pub serving : stands mid
  pub replies : (rest : List ℕ) → IsToldAs now.ahead rest → (all : List ℕ) × IsToldAs link.ahead all × Replies service last all rest answer w interim mid due
  pub goes : closes due ≡ false → (taken : List ℕ) × Consumes link.ahead now.ahead taken × ((rest : List ℕ) → Replies service last (taken ++ rest) rest answer w interim mid due)

-- all bytes of a reply that was due were written, no call failed, and no write was empty
abbrev pub HasWritten : LinkView → LinkView → DueView → Type 0
HasWritten link now due = ((bytes : List ℕ) × AreBytes due bytes × Appends link.written now.written bytes) × CountsStay link now

-- a first part of them was written, and then a write failed, and none was empty
abbrev pub HasTorn : LinkView → LinkView → DueView → Type 0
HasTorn link now due = ((bytes part : List ℕ) × AreBytes due bytes × IsPartOf bytes part × Appends link.written now.written part) × CountsEnd link now Ending.write_fault

-- the end of a link after a reply, or none if the link goes on
abbrev pub EndsBehind : DueView → Option LinkEnd → Type 0
EndsBehind due None = closes due ≡ false
EndsBehind due (Some end) = (closes due ≡ true) × (end ≡ end_as (end_of due))

-- after a reply that was due: the end, or nothing if the link goes on
abbrev pub FinishSays : LinkView → LinkView → DueView → Option LinkEnd → Type 0
FinishSays link now due None = EndsBehind due None × HasWritten link now due
FinishSays link now due (Some end) = (EndsBehind due (Some end) × HasWritten link now due) ⊎ (HasTorn link now due × (end ≡ ends.LinkFault))

-- the counts of a link: no call failed if it goes on, otherwise the one that its end tells
abbrev pub CountsServed : LinkView → LinkView → Option LinkEnd → Type 0
CountsServed link now None = CountsStay link now
CountsServed link now (Some end) = (ending : Ending) × (end ≡ end_as ending) × CountsEnd link now ending

-- a request was taken off the bytes and answered, and the link goes on
pub record WentOn {W : Type 0} (service : Service W) (link now : LinkView) (asked : List (Option ℕ) → Type 0) (stands : W → Type 0) (last : Bool) (w : W) : Type 0 where
  pub answer : Option ℕ
  pub interim : List ℕ
  pub bytes : List ℕ
  pub mid : W
  pub due : DueView
  pub open_still : closes due ≡ false
  pub are_bytes : AreBytes due bytes
  pub clock : asked (answer ∷ [])
  pub wrote : Appends link.written now.written (interim ++ bytes)
  pub counts : CountsStay link now
  pub serving : stands mid
  pub taken : List ℕ
  pub took : Consumes link.ahead now.ahead taken
  pub replies : (rest : List ℕ) → Replies service last (taken ++ rest) rest answer w interim mid due

-- a head was served: the link goes on, with these bytes that were read past it, or it has ended
abbrev pub HeadServed : {W : Type 0} → Service W → (link : LinkView) (held : List ℕ) (now : LinkView) (asked : List (Option ℕ) → Type 0) (stands : W → Type 0) (last : Bool) (w : W) → Option LinkEnd → Type 0
HeadServed service link held now asked stands last w None = WentOn service link (with_carry held now) asked stands last w
HeadServed service link held now asked stands last w (Some end) = RanTo (LastHead service last) link now asked stands w end

-- Some heads of at most this many were taken off the bytes and went through, and n more may come: whatever run the rest has completes the run of
-- the link.
pub record Going {W : Type 0} (service : Service W) (most : ℕ) (link now : LinkView) (asked : List (Option ℕ) → Type 0) (stands : W → Type 0) (n : ℕ) (w : W) : Type 0 where
  pub answers : List (Option ℕ)
  pub out : List ℕ
  pub mid : W
  pub clock : asked answers
  pub wrote : Appends link.written now.written out
  pub counts : CountsStay link now
  pub serving : stands mid
  pub taken : List ℕ
  pub took : Consumes link.ahead now.ahead taken
  pub goes : (rest : List ℕ) (later : List (Option ℕ)) (tail : List ℕ) (new : W) (end : Ending) → LinkRun service n rest later mid tail new end
      → LinkRun service most (taken ++ rest) (answers ++ later) w (out ++ tail) new end
