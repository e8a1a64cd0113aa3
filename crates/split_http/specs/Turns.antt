-- How a link's bytes are cut into heads and bodies of HTTP requests.
use Rattle.std.specs.Prelude.{◌≡◌, ℕ, ◌+◌, ◌<◌, ◌≤◌, ◌⊎◌, Bool, true, List, [], ◌++◌, length, codes, Option, Some, None, ⊤, if◌then◌else◌}
use Rattle.std.specs.Io.KnownBytes.{Appends, Consumes, IsAtEnd, Keeps}
use Rattle.httparse.specs.Grammar.{RequestHead, HasNoRequest, MayBecomeRequest, print_request}
use Rattle.httparse.specs.Spans.{RequestExceeds}
use Rattle.split_base.specs.Faults.{counted}
use Rattle.split_http.specs.declared.heads.HeadTurn.{HeadTurn}
use Rattle.split_http.specs.declared.heads.HeadTurn.TheVariants as turns
use Rattle.split_http.specs.declared.bodies.BodyTurn.{BodyTurn}
use Rattle.split_http.specs.declared.bodies.BodyTurn.TheVariants as bodies
use Rattle.split_http.specs.declared.head.Head.{Head}
use Rattle.split_http.specs.declared.head.Verb.{Verb}
use Rattle.http_heads.specs.declared.limits.TheConstants.{MAX_HEAD, ROOM}
use Rattle.split_http.specs.Pieces.{AppendsPart, AppendsProperPart}
use Rattle.split_http.specs.Heads.{IsHead, HasNoHead, IsHeadOf, text_of, verb_of}

-- these are the bytes, if the object reveals them
abbrev pub IsToldAs : Option (List ℕ) → List ℕ → Type 0
IsToldAs None bytes = ⊤
IsToldAs (Some known) bytes = bytes ≡ known

-- bytes are left, and they begin with no head
abbrev pub IsBad : List ℕ → Type 0
IsBad all = (0 < length all) × HasNoHead all

-- `httparse` asks for more of the bytes: no head of any number of fields is at their front, and they become one when the right bytes
-- follow, or they end within a target, whose text it tests at the target's end; or they have more fields than the 256 for which it has room
abbrev pub AsksMore : List ℕ → Type 0
AsksMore bytes = (HasNoRequest bytes × MayBecomeRequest bytes) ⊎ RequestExceeds ROOM bytes

-- the bytes begin with no head, the parser asks for more of them, and they are fewer than a head may have
pub record MayBecomeHead (bytes : List ℕ) : Type 0 where
  pub none : HasNoHead bytes
  pub asks : AsksMore bytes
  pub few : length bytes < MAX_HEAD

-- a head with this method is at the front
abbrev pub HasHeadOf : Verb → List ℕ → Type 0
HasHeadOf verb bytes = (h : RequestHead) × (rest : List ℕ) × IsHead h × (verb ≡ verb_of h.method) × (bytes ≡ print_request h ++ rest)

-- what the next head is and what it leaves of the bytes: a head is taken off, with what it says; nothing is taken if there is no head or the link
-- failed
abbrev pub HeadSays : Option (List ℕ) → Option (List ℕ) → HeadTurn → Type 0
HeadSays old new (turns.Head head) = (h : RequestHead) × IsHead h × IsHeadOf (text_of h) head × Consumes old new (print_request h)
HeadSays old new turns.BadHead = Keeps old new × ((all : List ℕ) × IsToldAs old all × IsBad all)
HeadSays old new turns.End = Keeps old new × IsToldAs old []
HeadSays old new turns.LinkFault = Keeps old new
HeadSays old new (turns.NoMemory verb) = Keeps old new × ((all : List ℕ) × IsToldAs old all × HasHeadOf verb all)

-- the head was taken off the bytes, or it is still there and there was no memory
abbrev pub IsTaken : List ℕ → List ℕ → HeadTurn → Type 0
IsTaken old new (turns.Head head) = (h : RequestHead) × IsHead h × IsHeadOf (text_of h) head × (old ≡ print_request h ++ new)
IsTaken old new turns.BadHead = ⊥
IsTaken old new turns.End = ⊥
IsTaken old new turns.LinkFault = ⊥
IsTaken old new (turns.NoMemory verb) = (new ≡ old) × HasHeadOf verb old

-- what the bytes that the carry held and those read after them are, and what the carry holds then, whatever the link reveals: the head at the front is
-- taken off, and otherwise nothing is; a read fails only if the parser asks for more of the bytes held
abbrev pub CarrySays : List ℕ → List ℕ → HeadTurn → Type 0
CarrySays bytes new (turns.Head head) = (h : RequestHead) × IsHead h × IsHeadOf (text_of h) head × (bytes ≡ print_request h ++ new)
CarrySays bytes new turns.BadHead = (new ≡ bytes) × IsBad bytes
CarrySays bytes new turns.End = (new ≡ bytes) × (bytes ≡ [])
CarrySays bytes new turns.LinkFault = (new ≡ bytes) × MayBecomeHead bytes
CarrySays bytes new (turns.NoMemory verb) = (new ≡ bytes) × HasHeadOf verb bytes

-- the link's count of failed reads after a head: one more if a read failed
abbrev pub faults_of : ℕ → HeadTurn → ℕ
faults_of before (turns.Head head) = before
faults_of before turns.BadHead = before
faults_of before turns.End = before
faults_of before turns.LinkFault = counted before
faults_of before (turns.NoMemory verb) = before

-- the interim line, if it is due
abbrev pub interim_of : Bool → List ℕ
interim_of due = if due then codes "HTTP/1.1 100 Continue\r\n\r\n" else []

-- what the body is, what it leaves of the bytes, and what was written before it
abbrev pub BodySays : Option (List ℕ) → Option (List ℕ) → Option (List ℕ) → Option (List ℕ) → Head → BodyTurn → Type 0
BodySays old new before now head (bodies.Body body) =
    (head.refused ≡ None) × (length body.items ≡ head.length) × Consumes old new body.items × Appends before now (interim_of head.expects)
BodySays old new before now head (bodies.Refused row) = (head.refused ≡ Some row) × Keeps old new × (now ≡ before)
BodySays old new before now head bodies.Cut =
    (head.refused ≡ None) × ((all : List ℕ) × IsToldAs old all × (length all < head.length) × IsAtEnd new) × Appends before now (interim_of head.expects)
BodySays old new before now head bodies.LinkFault =
    (head.refused ≡ None) × ((part : List ℕ) × (length part ≤ head.length) × Consumes old new part) × AppendsPart before now (interim_of head.expects)
BodySays old new before now head bodies.NoMemory = (head.refused ≡ None) × (0 < head.length) × Keeps old new × (now ≡ before)

-- a write of the interim line failed: the line is due, some of it was not written, and no byte of the link was taken
abbrev pub IsWriteFault : Option (List ℕ) → Option (List ℕ) → Option (List ℕ) → Option (List ℕ) → Head → Type 0
IsWriteFault old new before now head = (head.expects ≡ true) × Keeps old new × AppendsProperPart before now (interim_of head.expects)

-- a read within the body failed: the interim line was written if it is due, and what was taken and what the carry holds are less than the body
abbrev pub IsReadFault : Option (List ℕ) → Option (List ℕ) → Option (List ℕ) → Option (List ℕ) → List ℕ → Head → Type 0
IsReadFault old new before now held head =
    ((part : List ℕ) × Consumes old new part × (length part + length held < head.length)) × Appends before now (interim_of head.expects)

-- the link's counts of faults, of reads and of writes: a fault of the link is one failed call, which is counted, and any other answer leaves both counts
abbrev pub BodyCounts : Option (List ℕ) → Option (List ℕ) → Option (List ℕ) → Option (List ℕ) → List ℕ → Head → ℕ → ℕ → ℕ → ℕ → BodyTurn → Type 0
BodyCounts old new before now held head reads reads_now writes writes_now (bodies.Body body) = (reads_now ≡ reads) × (writes_now ≡ writes)
BodyCounts old new before now held head reads reads_now writes writes_now (bodies.Refused row) = (reads_now ≡ reads) × (writes_now ≡ writes)
BodyCounts old new before now held head reads reads_now writes writes_now bodies.Cut = (reads_now ≡ reads) × (writes_now ≡ writes)
BodyCounts old new before now held head reads reads_now writes writes_now bodies.NoMemory = (reads_now ≡ reads) × (writes_now ≡ writes)
BodyCounts old new before now held head reads reads_now writes writes_now bodies.LinkFault =
    ((reads_now ≡ reads) × (writes_now ≡ counted writes) × IsWriteFault old new before now head)
    ⊎ ((reads_now ≡ counted reads) × (writes_now ≡ writes) × IsReadFault old new before now held head)

-- the next head was read or refused, with no fault and memory enough
abbrev pub IsHeadDone : HeadTurn → Type 0
IsHeadDone (turns.Head head) = ⊤
IsHeadDone turns.BadHead = ⊤
IsHeadDone turns.End = ⊤
IsHeadDone turns.LinkFault = ⊥
IsHeadDone (turns.NoMemory verb) = ⊥

-- the body was read, refused or cut off, with no fault and memory enough
abbrev pub IsBodyDone : BodyTurn → Type 0
IsBodyDone (bodies.Body body) = ⊤
IsBodyDone (bodies.Refused row) = ⊤
IsBodyDone bodies.Cut = ⊤
IsBodyDone bodies.LinkFault = ⊥
IsBodyDone bodies.NoMemory = ⊥

-- equal bodies, or the same refusal, or both cut
abbrev pub IsSameBody : BodyTurn → BodyTurn → Type 0
IsSameBody (bodies.Body body) (bodies.Body other) = body.items ≡ other.items
IsSameBody (bodies.Refused row) (bodies.Refused other) = row ≡ other
IsSameBody bodies.Cut bodies.Cut = ⊤
IsSameBody t u = ⊥
