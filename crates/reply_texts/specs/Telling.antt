-- What a reply says of the host before the event, so that its text is made without applying the event.
use Rattle.std.specs.Prelude.{◌≡◌, ℕ, ◌+◌, ◌≤◌, ◌⊎◌, Bool, true, false, length, map, is_some, Option, None, Some, IsSome, IsSomeAnd}
use Rattle.sealed_core.specs.declared.replies.Reply.{Reply}
use Rattle.sealed_core.specs.declared.replies.Reply.TheVariants as reply
use Rattle.sealed_core.specs.Host.{CreationView, EventView, HostView, InstanceView, Created, BidKept, Closed, Withdrawn, instance_at}
use Rattle.sealed_core.specs.Sealed.{PublicFacts}
use Rattle.sealed_core.specs.Step.{Answer, CommandView, IsCheckedCommand, step}

-- the host answers so to some command at some moment
abbrev pub IsAnswered : HostView → Answer → Type 0
IsAnswered h a = (t : ℕ) × (command : CommandView) × IsCheckedCommand command × (a ≡ step h t command)

-- a test of whether the reply is a publication, whose text comes from a division
abbrev pub is_publication : Reply → Bool
is_publication (reply.Created id) = false
is_publication (reply.Status id you) = false
is_publication (reply.Kept turn) = false
is_publication (reply.Own id m) = false
is_publication reply.Closed = false
is_publication (reply.Publish id what) = true
is_publication (reply.Refused r) = false

-- what everyone may know of an instance that is closed or open
abbrev pub public_if : Bool → InstanceView → PublicFacts
public_if closed i = record {
  title = i.creation.title;
  members = i.creation.members;
  items = i.creation.items;
  facts = i.creation.facts;
  deadline = i.creation.deadline;
  closed = closed;
  have_bid = map is_some i.bids;
}

-- a test of whether the event closes an instance
abbrev pub is_close : Option EventView → Bool
is_close None = false
is_close (Some (Created now c)) = false
is_close (Some (BidKept now id m turn bid)) = false
is_close (Some (Closed now id)) = true
is_close (Some (Withdrawn now id m turn)) = false

-- there is no event, or it closes this instance
abbrev pub IsCloseOf : Option EventView → ℕ → Type 0
IsCloseOf e id = (e ≡ None) ⊎ ((now : ℕ) × (e ≡ Some (Closed now id)))

-- the event creates the instance with this id
abbrev pub IsCreationOf : HostView → Option EventView → ℕ → Type 0
IsCreationOf h e id = (now : ℕ) × (c : CreationView) × (e ≡ Some (Created now c)) × (id ≡ length h.instances + 1)

-- the instance and the member that a reply names are there before the event, unless the instance is new, and the event is the one that belongs to the reply
abbrev pub Tells : HostView → Option EventView → Reply → Type 0
Tells h e (reply.Created id) = (IsSome (instance_at h id) × (e ≡ None)) ⊎ IsCreationOf h e id
Tells h e (reply.Status id you) = IsSome (instance_at h id) × IsCloseOf e id
Tells h e (reply.Kept turn) = Unit {0}
Tells h e (reply.Own id m) = (1 ≤ m) × IsSomeAnd (instance_at h id) (λ i. m ≤ length i.creation.members) × IsCloseOf e id
Tells h e reply.Closed = Unit {0}
Tells h e (reply.Publish id what) = IsSome (instance_at h id) × IsCloseOf e id
Tells h e (reply.Refused r) = Unit {0}
