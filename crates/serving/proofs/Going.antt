-- From head to head: how the run of a link goes on.
use Rattle.std.proofs.Common.{◌≡◌, ℕ, suc, ◌==◌, Bool, true, false, List, [], ◌∷◌, ◌++◌, Option, None, Some, refl, sym, ap, ◌∙◌, subst, inl, inr, append_assoc, if◌then◌else◌}
use Rattle.std.proofs.KnownBytes.{Appends-nil, Appends-trans, Consumes-nil, Consumes-trans, prepend_known-nil}
use Rattle.std.specs.Io.KnownBytes.{Consumes, prepend_known}
use Rattle.split_base.specs.Clocks.{ClockRun}
use Rattle.split_http.specs.Turns.{IsToldAs}
use Rattle.serving.specs.declared.ends.LinkEnd.{LinkEnd}
use Rattle.serving.specs.Dues.{DueView}
use Rattle.serving.specs.Ends.{Ending}
use Rattle.serving.proofs.Hearing.{came_behind, counts_joined, none_joined, some_told}
use Rattle.serving.specs.Runs.{After, Heads, LastHead, LinkRun, Never, Run, Service, end_of}
use Rattle.serving.specs.Served.{CountsEnd, CountsServed, FinishSays, Going, HaveCome, HeadServed, HeardQuiet, LinkView, CountsStay, RanTo, Replied, WentOn, with_carry}

-- calls of a clock, one row of them after the other
pub clock_trans : {C : Type 0} (gives : C → Option ℕ → C → Type 0) (faults : C → ℕ) (a b c : C) (xs ys : List (Option ℕ))
    → ClockRun gives faults a b xs → ClockRun gives faults b c ys → ClockRun gives faults a c (xs ++ ys)
clock_trans gives faults a b c [] ys p q = subst (λ z. ClockRun gives faults z c ys) p q
clock_trans gives faults a b c (x ∷ xs) ys p q = (p.0, p.1, p.2, p.3, clock_trans gives faults p.0 b c xs ys p.4 q)

-- a reply that was written tells of no failed call
pub ends_whole : (link now : LinkView) (memory : Bool) → CountsStay link now → CountsEnd link now (if memory then Ending.memory else Ending.ended)
ends_whole link now true none = none
ends_whole link now false none = none

-- a reply that was written is due to all bytes that are told
came_whole : (ahead left : Option (List ℕ)) (all : List ℕ) (memory : Bool) → IsToldAs ahead all → HaveCome (if memory then Ending.memory else Ending.ended) ahead left all
came_whole ahead left all true told = told
came_whole ahead left all false told = told

module _ {W : Type 0} (service : Service W) (link mid : LinkView) (held : List ℕ) (now : LinkView) (asked : List (Option ℕ) → Type 0) (stands : W → Type 0) (last : Bool) (w : W) where
  -- a reply that was due, and then its writing, which takes no byte
  pub head_served : (due : DueView) (result : Option LinkEnd) → prepend_known held now.ahead ≡ mid.ahead → Replied service link mid asked stands last w due → FinishSays mid now due result
      → HeadServed service link held now asked stands last w result
  head_served due None same r (still, ((bytes, are, wrote), counts)) = record {
    answer = r.answer;
    interim = r.interim;
    bytes = bytes;
    mid = r.mid;
    due = due;
    open_still = still;
    are_bytes = are;
    clock = r.clock;
    wrote = Appends-trans link.written mid.written now.written r.interim bytes r.wrote wrote;
    counts = none_joined link mid now r.counts counts;
    serving = r.serving;
    taken = (r.goes still).0;
    took = subst (λ z. Consumes link.ahead z (r.goes still).0) (sym same) (r.goes still).1;
    replies = (r.goes still).2;
  }
  head_served due (Some end) same r f =
      let rest = some_told mid.ahead in
      let all = r.replies rest.0 rest.1 in
      elim f [
        | inl over ↦ record {
          all = all.0;
          answers = r.answer ∷ [];
          out = r.interim ++ over.1.0.0;
          new = r.mid;
          ending = end_of due;
          is_end = over.0.1;
          told = came_whole link.ahead now.ahead all.0 due.said.memory all.1;
          clock = r.clock;
          wrote = Appends-trans link.written mid.written now.written r.interim over.1.0.0 r.wrote over.1.0.2;
          counts = counts_joined link mid now (end_of due) r.counts (ends_whole mid now due.said.memory over.1.1);
          serving = r.serving;
          run_is = inr (record {
            rest = rest.0;
            answer = r.answer;
            later = [];
            interim = r.interim;
            tail = over.1.0.0;
            mid = r.mid;
            due = due;
            asked = refl;
            wrote = refl;
            replies = all.2;
            after = After.over over.0.0 refl over.1.0.1 refl refl;
          });
        }
        | inr torn ↦ record {
          all = all.0;
          answers = r.answer ∷ [];
          out = r.interim ++ torn.0.0.1;
          new = r.mid;
          ending = Ending.write_fault;
          is_end = torn.1;
          told = all.1;
          clock = r.clock;
          wrote = Appends-trans link.written mid.written now.written r.interim torn.0.0.1 r.wrote torn.0.0.4;
          counts = counts_joined link mid now Ending.write_fault r.counts torn.0.1;
          serving = r.serving;
          run_is = inr (record {
            rest = rest.0;
            answer = r.answer;
            later = [];
            interim = r.interim;
            tail = torn.0.0.1;
            mid = r.mid;
            due = due;
            asked = refl;
            wrote = refl;
            replies = all.2;
            after = After.torn torn.0.0.0 refl torn.0.0.2 torn.0.0.3 refl refl;
          });
        }
      ]

-- the counts after a reply
pub counts_finished : (link mid now : LinkView) (due : DueView) (result : Option LinkEnd) → CountsStay link mid → FinishSays mid now due result → CountsServed link now result
counts_finished link mid now due None none (still, (bytes, counts)) = none_joined link mid now none counts
counts_finished link mid now due (Some end) none (inl ((closed, is_end), (bytes, counts))) =
    (end_of due, is_end, counts_joined link mid now (end_of due) none (ends_whole mid now due.said.memory counts))
counts_finished link mid now due (Some end) none (inr ((bytes, counts), is_end)) = (Ending.write_fault, is_end, counts_joined link mid now Ending.write_fault none counts)

-- no reply was begun
pub head_quiet : {W : Type 0} (service : Service W) (link : LinkView) (held : List ℕ) (now : LinkView) (asked : List (Option ℕ) → Type 0) (stands : W → Type 0) (last : Bool) (w : W) (end : LinkEnd)
    → HeardQuiet link now asked end → stands w → HeadServed service link held now asked stands last w (Some end)
head_quiet service link held now asked stands last w end q st = record {
  all = q.all;
  answers = q.answers;
  out = q.out;
  new = w;
  ending = q.ending;
  is_end = q.is_end;
  told = q.told;
  clock = q.clock;
  wrote = q.wrote;
  counts = q.counts;
  serving = st;
  run_is = inl (q.stops, refl);
}

after_weak : {W : Type 0} (more : Run W) (rest : List ℕ) (answers : List (Option ℕ)) (w : W) (due : DueView) (out : List ℕ) (new : W) (end : Ending)
    → After Never rest answers w due out new end → After more rest answers w due out new end
after_weak more rest answers w due out new end (After.torn x a b c d e) = After.torn x a b c d e
after_weak more rest answers w due out new end (After.over a b c d e) = After.over a b c d e
after_weak more rest answers w due out new end (After.on x later a b c d) = absurd d

-- the last head of a link, as a run of at most n + 1 heads
last_run : {W : Type 0} (service : Service W) (n : ℕ) (all : List ℕ) (answers : List (Option ℕ)) (w : W) (out : List ℕ) (new : W) (end : Ending)
    → LastHead service (n == 0) all answers w out new end → LinkRun service (suc n) all answers w out new end
last_run service n all answers w out new end (inl stops) = inl stops
last_run service n all answers w out new end (inr h) = inr (record {
  rest = h.rest;
  answer = h.answer;
  later = h.later;
  interim = h.interim;
  tail = h.tail;
  mid = h.mid;
  due = h.due;
  asked = h.asked;
  wrote = h.wrote;
  replies = h.replies;
  after = after_weak (LinkRun service n) h.rest h.later h.mid h.due h.tail new end h.after;
})

pub going_start : {W C : Type 0} (service : Service W) (most : ℕ) (gives : C → Option ℕ → C → Type 0) (faults : C → ℕ) (clock : C) (link : LinkView) (stands : W → Type 0) (w : W)
    → stands w → Going service most link (with_carry [] link) (ClockRun gives faults clock clock) stands most w
going_start service most gives faults clock link stands w st = record {
  answers = [];
  out = [];
  mid = w;
  clock = refl;
  wrote = Appends-nil link.written;
  counts = (refl, refl, refl);
  serving = st;
  taken = [];
  took = subst (λ z. Consumes link.ahead z []) (sym (prepend_known-nil link.ahead)) (Consumes-nil link.ahead);
  goes = λ rest later tail new end run. run;
}

module _ {W C : Type 0} (service : Service W) (most : ℕ) (gives : C → Option ℕ → C → Type 0) (faults : C → ℕ) (first clock after : C) (link mid now : LinkView)
    (stands_then stands : W → Type 0) (n : ℕ) (w : W) where
  -- one more head went through
  pub going_on : Going service most link mid (ClockRun gives faults first clock) stands_then (suc n) w
      → ((w : W) → stands_then w → WentOn service mid now (ClockRun gives faults clock after) stands (n == 0) w)
      → Going service most link now (ClockRun gives faults first after) stands n w
  going_on so_far head =
      let h = head so_far.mid so_far.serving in
      let grown = h.interim ++ h.bytes in
      record {
        answers = so_far.answers ++ (h.answer ∷ []);
        out = so_far.out ++ grown;
        mid = h.mid;
        clock = clock_trans gives faults first clock after so_far.answers (h.answer ∷ []) so_far.clock h.clock;
        wrote = Appends-trans link.written mid.written now.written so_far.out grown so_far.wrote h.wrote;
        counts = none_joined link mid now so_far.counts h.counts;
        serving = h.serving;
        taken = so_far.taken ++ h.taken;
        took = Consumes-trans link.ahead mid.ahead now.ahead so_far.taken h.taken so_far.took h.took;
        goes = λ rest later tail new end run.
            let this : Heads service (LinkRun service n) (n == 0) (h.taken ++ rest) (h.answer ∷ later) so_far.mid (h.interim ++ (h.bytes ++ tail)) new end =
            record {
              rest = rest;
              answer = h.answer;
              later = later;
              interim = h.interim;
              tail = h.bytes ++ tail;
              mid = h.mid;
              due = h.due;
              asked = refl;
              wrote = refl;
              replies = h.replies rest;
              after = After.on h.bytes tail h.open_still h.are_bytes refl run;
            } in
            let whole = so_far.goes (h.taken ++ rest) (h.answer ∷ later) (h.interim ++ (h.bytes ++ tail)) new end (inr this) in
            subst (λ z. LinkRun service most z ((so_far.answers ++ (h.answer ∷ [])) ++ later) w ((so_far.out ++ grown) ++ tail) new end) (sym (append_assoc so_far.taken h.taken rest))
            (subst (λ z. LinkRun service most (so_far.taken ++ (h.taken ++ rest)) z w ((so_far.out ++ grown) ++ tail) new end) (sym (append_assoc so_far.answers (h.answer ∷ []) later))
            (subst (λ z. LinkRun service most (so_far.taken ++ (h.taken ++ rest)) (so_far.answers ++ (h.answer ∷ later)) w z new end)
            (ap (λ z. so_far.out ++ z) (sym (append_assoc h.interim h.bytes tail)) ∙ sym (append_assoc so_far.out grown tail)) whole));
      }

  -- the last head
  pub going_ends : (end : LinkEnd) → Going service most link mid (ClockRun gives faults first clock) stands_then (suc n) w
      → ((w : W) → stands_then w → RanTo (LastHead service (n == 0)) mid now (ClockRun gives faults clock after) stands w end)
      → RanTo (LinkRun service most) link now (ClockRun gives faults first after) stands w end
  going_ends end so_far head =
      let h = head so_far.mid so_far.serving in
      record {
        all = so_far.taken ++ h.all;
        answers = so_far.answers ++ h.answers;
        out = so_far.out ++ h.out;
        new = h.new;
        ending = h.ending;
        is_end = h.is_end;
        told = came_behind h.ending link.ahead mid.ahead now.ahead so_far.taken h.all so_far.took h.told;
        clock = clock_trans gives faults first clock after so_far.answers h.answers so_far.clock h.clock;
        wrote = Appends-trans link.written mid.written now.written so_far.out h.out so_far.wrote h.wrote;
        counts = counts_joined link mid now h.ending so_far.counts h.counts;
        serving = h.serving;
        run_is = so_far.goes h.all h.answers h.out h.new h.ending (last_run service n h.all h.answers so_far.mid h.out h.new h.ending h.run_is);
      }
