-- From how a link ends to what came last on it.
use Rattle.std.proofs.Common.{◌≡◌, ◌⊎◌, ◌↔◌, ℕ, Bool, true, false, ◌||◌, List, [], ◌∷◌, ◌++◌, Option, Some, None, refl, sym, ap, subst, inl, inr, ⊎_elim, if◌then◌else◌}
use Rattle.split_base.specs.Faults.{HasRisen}
use Rattle.serving.specs.declared.ends.LinkEnd.TheVariants as ends
use Rattle.serving.specs.Dues.{AreBytes, DueView}
use Rattle.serving.specs.Ends.{Ending, end_as}
use Rattle.serving.specs.Exchanges.{EndsLink, LinkExchanges, refused_due}
use Rattle.serving.specs.Runs.{BodyStops, SaysHead, Service, Stops, end_of}
use Rattle.serving.specs.Served.{CountsEnd, LinkView}
use Rattle.split_http.specs.declared.head.Head.{Head}
use Rattle.serving_laws.specs.Last.{CameLast, EndsAfter, FailsReading, FailsWriting, IsMemoryReply, IsPlainReply, IsWritten, Last, LinkEnds, end_by, ending_by}
use Rattle.serving_laws.proofs.Answered.{counted_rises}

or_true : (b : Bool) → (b || true) ≡ true
or_true true = refl
or_true false = refl

module _ {W : Type 0} (service : Service W) (w : W) (rest : List ℕ) (answers : List (Option ℕ)) (out : List ℕ) (new : W) (end : Ending) where
  abbrev EndsBy : Type 0
  EndsBy = (last : Last) × CameLast service last w rest answers out new × (end ≡ ending_by last)

  body_ends : (text left : List ℕ) (head : Head) (moment : ℕ) → rest ≡ text ++ left → SaysHead text head → head.refused ≡ None → answers ≡ Some moment ∷ [] → new ≡ w → BodyStops head left out end → EndsBy
  body_ends text left head moment bytes says accepted asked still (BodyStops.cut_off short line is) =
      (Last.body_cut, (head, left, record { text = text; moment = moment; bytes = bytes; says = says; accepted = accepted; asked = asked }, short, line, still), is)
  body_ends text left head moment bytes says accepted asked still (BodyStops.interim_fault expects part is) =
      (Last.write_failed, FailsWriting.in_interim head left (record { text = text; moment = moment; bytes = bytes; says = says; accepted = accepted; asked = asked }) expects part still, is)
  body_ends text left head moment bytes says accepted asked still (BodyStops.body_fault short line is) =
      (Last.read_failed, (FailsReading.in_body head left (record { text = text; moment = moment; bytes = bytes; says = says; accepted = accepted; asked = asked }) short line, still), is)

  last_of : EndsLink service w rest answers out new end → EndsBy
  last_of (EndsLink.replied left e bytes asked before is after got (inl (whole, closed, ends))) = (
    Last.reply e.due,
    (closed, IsWritten.replied e (record { left = left; bytes = bytes; asked = asked; before = before; is = is; after = after; got = got }) whole refl),
    ends,
  )
  last_of (EndsLink.replied left e bytes asked before is after got (inr (torn, ends))) =
      (Last.write_failed, FailsWriting.in_reply e (record { left = left; bytes = bytes; asked = asked; before = before; is = is; after = after; got = got }) torn, ends)
  last_of (EndsLink.refused left answer refusal bodiless bytes refuses asked still are (inl (whole, ends))) = (
    Last.reply (refused_due service refusal answer bodiless),
    (
      or_true (service.refuses refusal).memory,
      IsWritten.refused (record {
        left = left;
        answer = answer;
        refusal = refusal;
        bodiless = bodiless;
        refuses = refuses;
        asked = asked;
        is = refl;
        are_bytes = subst (λ (l : List ℕ). AreBytes (refused_due service refusal answer bodiless) l) (sym whole) are;
        still = still;
      }),
    ),
    ends,
  )
  last_of (EndsLink.refused left answer refusal bodiless bytes refuses asked still are (inr (part, ends))) = (
    Last.write_failed,
    FailsWriting.in_refusal (refused_due service refusal answer bodiless) bytes
        (record { left = left; answer = answer; refusal = refusal; bodiless = bodiless; refuses = refuses; asked = asked; is = refl; are_bytes = are; still = still }) part,
    ends,
  )
  last_of (EndsLink.quiet (Stops.nothing none unasked unwritten is) still) = (Last.nothing_left, (none, unasked, unwritten, still), is)
  last_of (EndsLink.quiet (Stops.head_fault opened unasked unwritten is) still) = (Last.read_failed, (FailsReading.in_head opened unasked unwritten, still), is)
  last_of (EndsLink.quiet (Stops.behind_head text left head moment bytes says accepted asked stops) still) = body_ends text left head moment bytes says accepted asked still stops

pub link_ends : {W : Type 0} (service : Service W) (all : List ℕ) (answers : List (Option ℕ)) (w : W) (out : List ℕ) (new : W) (end : Ending) → LinkExchanges service all answers w out new end
    → LinkEnds service all answers w out new end
link_ends service all answers w out new end x =
    let (last, came, ends) = last_of service x.mid x.rest x.late x.behind new end x.ends in
    record {
      exchanges = x.exchanges;
      rest = x.rest;
      late = x.late;
      behind = x.behind;
      mid = x.mid;
      last = last;
      input = x.input;
      clock = x.clock;
      wrote = x.wrote;
      answered = x.answered;
      whole = x.whole;
      came = came;
      ends = ends;
    }

-- after the same requests
pub ends_after : {W : Type 0} (service : Service W) (all : List ℕ) (answers : List (Option ℕ)) (w : W) (out : List ℕ) (new : W) (end : Ending) (link : LinkExchanges service all answers w out new end)
    → EndsAfter link.exchanges service all answers w out new end
unfolding link_ends
ends_after service all answers w out new end link = (link_ends service all answers w out new end link, refl)

-- a reply that says that memory ran out, and one that does not
memory_end : (due : DueView) → due.said.memory ≡ true → end_as (end_of due) ≡ ends.Memory
memory_end due is = ap (λ (b : Bool). end_as (if b then Ending.memory else Ending.ended)) is

plain_end : (due : DueView) → due.said.memory ≡ false → end_as (end_of due) ≡ ends.Ended
plain_end due is = ap (λ (b : Bool). end_as (if b then Ending.memory else Ending.ended)) is

true_or_false : (b : Bool) → (b ≡ true) ⊎ (b ≡ false)
true_or_false true = inl refl
true_or_false false = inr refl

reply_ended : (due : DueView) → end_by (Last.reply due) ≡ ends.Ended → due.said.memory ≡ false
reply_ended due is = ⊎_elim (λ memory. let other = memory_end due memory in absurd (cc)) (λ plain. plain) (true_or_false due.said.memory)

reply_memory : (due : DueView) → end_by (Last.reply due) ≡ ends.Memory → due.said.memory ≡ true
reply_memory due is = ⊎_elim (λ memory. memory) (λ plain. let other = plain_end due plain in absurd (cc)) (true_or_false due.said.memory)

reply_cut : (due : DueView) → end_by (Last.reply due) ≡ ends.Cut → ⊥
reply_cut due is = ⊎_elim (λ memory. let other = memory_end due memory in absurd (cc)) (λ plain. let other = plain_end due plain in absurd (cc)) (true_or_false due.said.memory)

reply_fault : (due : DueView) → end_by (Last.reply due) ≡ ends.LinkFault → ⊥
reply_fault due is = ⊎_elim (λ memory. let other = memory_end due memory in absurd (cc)) (λ plain. let other = plain_end due plain in absurd (cc)) (true_or_false due.said.memory)

ended_so : (last : Last) → end_by last ≡ ends.Ended → (last ≡ Last.nothing_left) ⊎ IsPlainReply last
ended_so Last.nothing_left is = inl refl
ended_so Last.body_cut is = absurd (cc)
ended_so (Last.reply due) is = inr (due, refl, reply_ended due is)
ended_so Last.read_failed is = absurd (cc)
ended_so Last.write_failed is = absurd (cc)

pub ended_where : (last : Last) → (end_by last ≡ ends.Ended) ↔ ((last ≡ Last.nothing_left) ⊎ IsPlainReply last)
ended_where last = (
  ended_so last,
  λ either. ⊎_elim (λ none. subst (λ l. end_by l ≡ ends.Ended) (sym none) refl) (λ reply. subst (λ l. end_by l ≡ ends.Ended) (sym reply.1) (plain_end reply.0 reply.2)) either,
)

cut_so : (last : Last) → end_by last ≡ ends.Cut → last ≡ Last.body_cut
cut_so Last.nothing_left is = absurd (cc)
cut_so Last.body_cut is = refl
cut_so (Last.reply due) is = absurd (reply_cut due is)
cut_so Last.read_failed is = absurd (cc)
cut_so Last.write_failed is = absurd (cc)

pub cut_where : (last : Last) → (end_by last ≡ ends.Cut) ↔ (last ≡ Last.body_cut)
cut_where last = (cut_so last, λ is. subst (λ l. end_by l ≡ ends.Cut) (sym is) refl)

memory_so : (last : Last) → end_by last ≡ ends.Memory → IsMemoryReply last
memory_so Last.nothing_left is = absurd (cc)
memory_so Last.body_cut is = absurd (cc)
memory_so (Last.reply due) is = (due, refl, reply_memory due is)
memory_so Last.read_failed is = absurd (cc)
memory_so Last.write_failed is = absurd (cc)

pub memory_where : (last : Last) → (end_by last ≡ ends.Memory) ↔ IsMemoryReply last
memory_where last = (memory_so last, λ reply. subst (λ l. end_by l ≡ ends.Memory) (sym reply.1) (memory_end reply.0 reply.2))

fault_so : (last : Last) → end_by last ≡ ends.LinkFault → (last ≡ Last.read_failed) ⊎ (last ≡ Last.write_failed)
fault_so Last.nothing_left is = absurd (cc)
fault_so Last.body_cut is = absurd (cc)
fault_so (Last.reply due) is = absurd (reply_fault due is)
fault_so Last.read_failed is = inl refl
fault_so Last.write_failed is = inr refl

pub fault_where : (last : Last) → (end_by last ≡ ends.LinkFault) ↔ ((last ≡ Last.read_failed) ⊎ (last ≡ Last.write_failed))
fault_where last =
    (fault_so last, λ either. ⊎_elim (λ is. subst (λ l. end_by l ≡ ends.LinkFault) (sym is) refl) (λ is. subst (λ l. end_by l ≡ ends.LinkFault) (sym is) refl) either)

-- the count of the side that failed has risen
pub fault_counted : (link now : LinkView) (ending : Ending) → end_as ending ≡ ends.LinkFault → CountsEnd link now ending → HasRisen link.reads now.reads ⊎ HasRisen link.writes now.writes
fault_counted link now Ending.ended is counts = absurd (cc)
fault_counted link now Ending.cut is counts = absurd (cc)
fault_counted link now Ending.read_fault is counts = inl (subst (λ n. HasRisen link.reads n) (sym counts.0) (counted_rises link.reads))
fault_counted link now Ending.write_fault is counts = inr (subst (λ n. HasRisen link.writes n) (sym counts.1) (counted_rises link.writes))
fault_counted link now Ending.memory is counts = absurd (cc)
