-- Two runs of requests that differ only in what people other than the caller of an instance have bid.
use Rattle.std.specs.Prelude.{◌≡◌, ◌≢◌, ◌⊎◌, ◌↔◌, ℕ, List, [], ◌∷◌, Some, None}
use Rattle.bid_rules.specs.declared.bids.Bid.{Bid}
use Rattle.host_journal.specs.States.{State, host_in}
use Rattle.serving.specs.Exchanges.{Exchange}
use Rattle.sealed_core.specs.Host.{BidKept, HostView}
use Rattle.sealed_core.specs.Sealed.{AreAlike, Asked, Caller, RunAlike}
use Rattle.serving_laws.specs.Accepting.{Makes}
use Rattle.serving_laws.specs.Heard.{IsStepAt, Taken, TakesSteps, asked_of, got_all, replied_of}
use Rattle.serving_laws.specs.Sealing.{MayLackMemory}

-- the two requests have the same head, the same body and the same moment
pub record AreEqual {W : Type 0} (x y : Exchange W) : Type 0 where
  pub head : x.head ≡ y.head
  pub body : x.body ≡ y.body
  pub moment : x.moment ≡ y.moment

-- the step of the request at this state makes a new bid of this member on this instance
abbrev pub MakesBid : {W : Type 0} → Exchange W → State → ℕ → ℕ → Type 0
MakesBid x s id m = (now turn : ℕ) × (given : Bid) × Makes x s.secret s.kept (BidKept now id m turn given)

-- two requests are equal; or both are bids by the same member on the same instance at the same moment, each with its event, but not the caller's own bid
-- on this instance
abbrev pub AskAlike : {W : Type 0} → ℕ → Caller → (x y : Exchange W) → (s t : State) → Type 0
AskAlike id caller x y s t = AreEqual x y ⊎ ((x.moment ≡ y.moment) × ((k m : ℕ) × (k ≡ id → caller ≢ Some m) × MakesBid x s k m × MakesBid y t k m))

-- The store did the same in both requests: the file of a host that waits was opened in both or in neither, with the event that waited in both or in
-- neither; and an event waits after both or after neither.
pub record StoresAlike {D : Type 0} (x y : Exchange (D × State)) (s t : State) : Type 0 where
  pub opened : (s.waiting ≡ None) ↔ (t.waiting ≡ None)
  pub found : (s.kept ≡ x.before.1.kept) ↔ (t.kept ≡ y.before.1.kept)
  pub kept : (x.after.1.waiting ≡ None) ↔ (y.after.1.waiting ≡ None)

-- if memory may run out at all, it ran out in both requests or in neither
abbrev pub LackAlike : {W : Type 0} → (x y : Exchange W) → (s t : State) → Type 0
LackAlike x y s t = MayLackMemory x s ⊎ MayLackMemory y t → x.due.said.memory ≡ y.due.said.memory

-- two requests, each with the state at which it is answered, with which nothing but the bids of others is different
pub record IsPair {D : Type 0} (id : ℕ) (caller : Caller) (x y : Exchange (D × State)) (s t : State) : Type 0 where
  pub ask : AskAlike id caller x y s t
  pub store : StoresAlike x y s t
  pub lack : LackAlike x y s t

-- the two runs have the same length, and their requests are such pairs, each at its own state
abbrev pub ArePairs : {D : Type 0} → ℕ → Caller → (run others : List (Exchange (D × State))) → (states twins : List State) → Type 0
ArePairs id caller [] [] states twins = Unit {0}
ArePairs id caller [] (y ∷ others) states twins = ⊥
ArePairs id caller (x ∷ run) [] states twins = ⊥
ArePairs id caller (x ∷ run) (y ∷ others) [] twins = ⊥
ArePairs id caller (x ∷ run) (y ∷ others) (s ∷ states) [] = ⊥
ArePairs id caller (x ∷ run) (y ∷ others) (s ∷ states) (t ∷ twins) = IsPair id caller x y s t × ArePairs id caller run others states twins

-- both requests have the same reply; or each has the reply of a step, and these steps are alike
abbrev pub ReplyAlike : {D : Type 0} → ℕ → Caller → (x y : Exchange (D × State)) → (s t : State) → Type 0
ReplyAlike id caller x y s t = (x.due.said ≡ y.due.said) ⊎ ((a b : Asked) × IsStepAt x s a × IsStepAt y t b × AreAlike (host_in s) (host_in t) id caller a b)

-- this holds of each pair of requests
abbrev pub RepliesAlike : {D : Type 0} → ℕ → Caller → (run others : List (Exchange (D × State))) → (states twins : List State) → Type 0
RepliesAlike id caller [] [] states twins = Unit {0}
RepliesAlike id caller [] (y ∷ others) states twins = ⊥
RepliesAlike id caller (x ∷ run) [] states twins = ⊥
RepliesAlike id caller (x ∷ run) (y ∷ others) [] twins = ⊥
RepliesAlike id caller (x ∷ run) (y ∷ others) (s ∷ states) [] = ⊥
RepliesAlike id caller (x ∷ run) (y ∷ others) (s ∷ states) (t ∷ twins) = ReplyAlike id caller x y s t × RepliesAlike id caller run others states twins

-- In both runs the machine takes steps, which are alike pair by pair, and the same ones of them have a reply. The caller gets the same status and text in
-- reply to each of their own commands on the instance, up to the step at which it is closed. A reply that belongs to no step is the same in both runs,
-- whoever gets it.
pub record GetsSame {D : Type 0} (id : ℕ) (caller : Caller) (g h : HostView) (run others : List (Exchange (D × State))) (states twins : List State) : Type 0 where
  pub steps : List Taken
  pub besides : List Taken
  pub taken : TakesSteps run states steps
  pub also : TakesSteps others twins besides
  pub alike : RunAlike g h id caller (asked_of steps) (asked_of besides)
  pub replied : replied_of steps ≡ replied_of besides
  pub rest : RepliesAlike id caller run others states twins
  pub got : got_all g id caller steps ≡ got_all h id caller besides
