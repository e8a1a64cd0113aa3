-- From what a call over a link says to the cases of the run.
use Rattle.std.proofs.Common.{◌≡◌, ℕ, ◌+◌, ◌<◌, Bool, true, false, ◌||◌, List, [], ◌∷◌, ◌++◌, length, Option, None, Some, refl, sym, ap, ◌∙◌, subst, inl, inr, append_assoc, length-append}
use Rattle.std.specs.Io.KnownBytes.{Appends, Consumes, Keeps, prepend_known}
use Rattle.std.proofs.KnownBytes.{Appends-nil, Consumes-trans}
use Rattle.split_http.specs.declared.head.Head.{Head}
use Rattle.split_http.specs.declared.head.Verb.{Verb}
use Rattle.split_http.specs.declared.bodies.BodyTurn.TheVariants as bodies
use Rattle.split_http.specs.Heads.{IsHead, IsHeadOf, text_of}
use Rattle.httparse.specs.Grammar.{RequestHead, print_request}
use Rattle.split_http.specs.Turns.{BodyCounts, HasHeadOf, IsBad, MayBecomeHead, IsToldAs, interim_of}
use Rattle.serving.specs.declared.ends.LinkEnd.{LinkEnd}
use Rattle.serving.specs.declared.ends.LinkEnd.TheVariants as ends
use Rattle.serving.specs.declared.refusals.HeadRefusal.{HeadRefusal}
use Rattle.serving.specs.declared.refusals.HeadRefusal.TheVariants as refusals
use Rattle.serving.specs.Dues.{DueView, closes, closing, is_head, manner_of}
use Rattle.serving.specs.Ends.{Ending, end_as, reads_after, writes_after}
use Rattle.serving.specs.Runs.{BodyStops, Refuses, Replies, SaysHead, Service, Stops}
use Rattle.serving.specs.Served.{CountsEnd, HaveCome, HeardQuiet, HeardRefused, HeardRequest, LinkView, CountsStay, Replied}
use Rattle.reply_texts.specs.Contents.{ContentView}

-- what was told after some bytes were taken was told before too, after those bytes
pub told_back : (a b : Option (List ℕ)) (text rest : List ℕ) → Consumes a b text → IsToldAs b rest → IsToldAs a (text ++ rest)
told_back None b text rest p q = tt
told_back (Some x) None text rest p q = absurd p
told_back (Some x) (Some y) text rest p q = ap (λ l. text ++ l) q ∙ sym p

-- where nothing was taken the same is told before
pub told_kept : (a b : Option (List ℕ)) (rest : List ℕ) → Keeps a b → IsToldAs b rest → IsToldAs a rest
told_kept None b rest p q = tt
told_kept (Some x) None rest p q = absurd p
told_kept (Some x) (Some y) rest p q = q ∙ p

pub some_told : (a : Option (List ℕ)) → (xs : List ℕ) × IsToldAs a xs
some_told None = ([], tt)
some_told (Some x) = (x, refl)

-- bytes that were read and are held came before those that are left
came_held : (held : List ℕ) (left : Option (List ℕ)) → Consumes (prepend_known held left) left held
came_held held None = tt
came_held held (Some x) = refl

came_kept : (a left : Option (List ℕ)) (held : List ℕ) → Keeps a (prepend_known held left) → Consumes a left held
came_kept None left held p = tt
came_kept (Some x) None held p = absurd p
came_kept (Some x) (Some y) held p = sym p

-- what came after some bytes were taken came before too, after those bytes
pub came_behind : (ending : Ending) (a b left : Option (List ℕ)) (text come : List ℕ) → Consumes a b text → HaveCome ending b left come → HaveCome ending a left (text ++ come)
came_behind Ending.ended a b left text come p q = told_back a b text come p q
came_behind Ending.cut a b left text come p q = told_back a b text come p q
came_behind Ending.read_fault a b left text come p q = Consumes-trans a b left text come p q
came_behind Ending.write_fault a b left text come p q = told_back a b text come p q
came_behind Ending.memory a b left text come p q = told_back a b text come p q

pub appends_none : (a b : Option (List ℕ)) → b ≡ a → Appends a b []
appends_none a b e = subst (λ z. Appends a z []) (sym e) (Appends-nil a)

-- what a head turn says of a head, with its text
pub head_text : (a b : Option (List ℕ)) (head : Head) → (h : RequestHead) × IsHead h × IsHeadOf (text_of h) head × Consumes a b (print_request h)
    → (text : List ℕ) × SaysHead text head × Consumes a b text
head_text a b head (h, is, of, taken) = (print_request h, (h, is, of, refl), taken)

-- counts over one stretch in which no call failed, and one after it
pub counts_joined : (link mid now : LinkView) (end : Ending) → CountsStay link mid → CountsEnd mid now end → CountsEnd link now end
counts_joined link mid now end none counts = (counts.0 ∙ ap (λ n. reads_after n end) none.0, counts.1 ∙ ap (λ n. writes_after n end) none.1, counts.2 ∙ none.2)

pub none_joined : (link mid now : LinkView) → CountsStay link mid → CountsStay mid now → CountsStay link now
none_joined link mid now one two = (two.0 ∙ one.0, two.1 ∙ one.1, two.2 ∙ one.2)

-- before a head
module _ (link now : LinkView) (asked : List (Option ℕ) → Type 0) (same : now.written ≡ link.written) where
  pub heard_end : IsToldAs link.ahead [] → CountsStay link now → asked [] → HeardQuiet link now asked ends.Ended
  heard_end told counts clock = record {
    all = [];
    answers = [];
    out = [];
    ending = Ending.ended;
    is_end = refl;
    told = told;
    clock = clock;
    wrote = appends_none link.written now.written same;
    counts = counts;
    stops = Stops.nothing refl refl refl refl;
  }

  -- a read failed, and the bytes that were read are held
  pub heard_fault : (held : List ℕ) → Keeps link.ahead (prepend_known held now.ahead) → MayBecomeHead held → CountsEnd link now Ending.read_fault → asked []
      → HeardQuiet link now asked ends.LinkFault
  heard_fault held kept open_still counts clock = record {
    all = held;
    answers = [];
    out = [];
    ending = Ending.read_fault;
    is_end = refl;
    told = came_kept link.ahead now.ahead held kept;
    clock = clock;
    wrote = appends_none link.written now.written same;
    counts = counts;
    stops = Stops.head_fault open_still refl refl refl;
  }

  pub heard_bad : (all : List ℕ) × IsToldAs link.ahead all × IsBad all → CountsStay link now → (answer : Option ℕ) → asked (answer ∷ [])
      → HeardRefused link now asked refusals.BadHead answer false
  heard_bad bad counts answer clock = record {
    clock = clock;
    wrote = appends_none link.written now.written same;
    counts = counts;
    refuses = λ rest told. (bad.0, bad.1, Refuses.bad_head bad.2 refl refl);
  }

  pub heard_memory : (verb : Verb) → (all : List ℕ) × IsToldAs link.ahead all × HasHeadOf verb all → CountsStay link now → (answer : Option ℕ) → asked (answer ∷ [])
      → (bodiless : Bool) → bodiless ≡ is_head verb → HeardRefused link now asked refusals.Memory answer bodiless
  heard_memory verb found counts answer clock bodiless is = record {
    clock = clock;
    wrote = appends_none link.written now.written same;
    counts = counts;
    refuses = λ rest told. (found.0, found.1, Refuses.head_memory verb found.2 refl is);
  }

  pub heard_late : (head : Head) → (text : List ℕ) × SaysHead text head × Consumes link.ahead now.ahead text → CountsStay link now → asked (None ∷ [])
      → (bodiless : Bool) → bodiless ≡ is_head head.verb → HeardRefused link now asked refusals.ClockFault None bodiless
  heard_late head found counts clock bodiless is = record {
    clock = clock;
    wrote = appends_none link.written now.written same;
    counts = counts;
    refuses = λ rest told. (found.0 ++ rest, told_back link.ahead now.ahead found.0 rest found.2 told, Refuses.clock_fault found.0 head refl found.1 refl refl is);
  }

-- a head was taken off, and then its body was asked for
module _ (link mid now : LinkView) (asked : List (Option ℕ) → Type 0) (head : Head) (moment : ℕ)
    (found : (text : List ℕ) × SaysHead text head × Consumes link.ahead mid.ahead text) (same : mid.written ≡ link.written) (counts : CountsStay link mid) (clock : asked (Some moment ∷ [])) where
  pub heard_stated : (row : ℕ) → head.refused ≡ Some row → Keeps mid.ahead now.ahead → now.written ≡ mid.written → CountsStay mid now → (bodiless : Bool) → bodiless ≡ is_head head.verb
      → HeardRefused link now asked (refusals.Stated row) (Some moment) bodiless
  heard_stated row refused kept still none bodiless is = record {
    clock = clock;
    wrote = appends_none link.written now.written (still ∙ same);
    counts = none_joined link mid now counts none;
    refuses = λ rest told.
        (found.0 ++ rest, told_back link.ahead mid.ahead found.0 rest found.2 (told_kept mid.ahead now.ahead rest kept told), Refuses.stated found.0 head moment row refl found.1 refl refused refl is);
  }

  pub heard_no_room : head.refused ≡ None → 0 < head.length → Keeps mid.ahead now.ahead → now.written ≡ mid.written → CountsStay mid now → (bodiless : Bool) → bodiless ≡ is_head head.verb
      → HeardRefused link now asked refusals.Memory (Some moment) bodiless
  heard_no_room accepted some kept still none bodiless is = record {
    clock = clock;
    wrote = appends_none link.written now.written (still ∙ same);
    counts = none_joined link mid now counts none;
    refuses = λ rest told.
        (found.0 ++ rest, told_back link.ahead mid.ahead found.0 rest found.2 (told_kept mid.ahead now.ahead rest kept told), Refuses.body_memory found.0 head moment refl found.1 refl accepted some refl is);
  }

  pub heard_request : (body : List ℕ) → head.refused ≡ None → length body ≡ head.length → Consumes mid.ahead now.ahead body → Appends mid.written now.written (interim_of head.expects) → CountsStay mid now
      → HeardRequest link now asked head body moment
  heard_request body accepted size taken wrote none = record {
    clock = clock;
    wrote = subst (λ z. Appends z now.written (interim_of head.expects)) same wrote;
    counts = none_joined link mid now counts none;
    taken = found.0 ++ body;
    took = Consumes-trans link.ahead mid.ahead now.ahead found.0 body found.2 taken;
    asks = λ rest. record { text = found.0; bytes = append_assoc found.0 body rest; says = found.1; accepted = accepted; size = size };
  }

  heard_behind : (end : LinkEnd) (ending : Ending) → end ≡ end_as ending → head.refused ≡ None → (all out : List ℕ) → HaveCome ending mid.ahead now.ahead all → Appends mid.written now.written out
      → CountsEnd mid now ending → BodyStops head all out ending → HeardQuiet link now asked end
  heard_behind end ending is_end accepted all out told wrote ends_so stops = record {
    all = found.0 ++ all;
    answers = Some moment ∷ [];
    out = out;
    ending = ending;
    is_end = is_end;
    told = came_behind ending link.ahead mid.ahead now.ahead found.0 all found.2 told;
    clock = clock;
    wrote = subst (λ z. Appends z now.written out) same wrote;
    counts = counts_joined link mid now ending counts ends_so;
    stops = Stops.behind_head found.0 all head moment refl found.1 accepted refl stops;
  }

  pub heard_cut : head.refused ≡ None → (all : List ℕ) → IsToldAs mid.ahead all → length all < head.length → Appends mid.written now.written (interim_of head.expects) → CountsStay mid now
      → HeardQuiet link now asked ends.Cut
  heard_cut accepted all told short wrote none = heard_behind ends.Cut Ending.cut refl accepted all (interim_of head.expects) told wrote none (BodyStops.cut_off short refl refl)

  -- a call failed, which the counts tell; these bytes that were read are held then
  pub heard_body_fault : (held : List ℕ) → head.refused ≡ None
      → BodyCounts mid.ahead (prepend_known held now.ahead) mid.written now.written held head mid.reads now.reads mid.writes now.writes bodies.LinkFault → now.empties ≡ mid.empties
      → HeardQuiet link now asked ends.LinkFault
  heard_body_fault held accepted (inl (reads, writes, (due, kept, (part, rest, is, missing, wrote)))) empties =
      let all = some_told mid.ahead in
      heard_behind ends.LinkFault Ending.write_fault refl accepted all.0 part all.1 wrote (reads, writes, empties) (BodyStops.interim_fault due (rest, is, missing) refl)
  heard_body_fault held accepted (inr (reads, writes, ((part, taken, short), wrote))) empties =
      let size : length (part ++ held) ≡ length part + length held = length-append part held in
      heard_behind ends.LinkFault Ending.read_fault refl accepted (part ++ held) (interim_of head.expects)
      (Consumes-trans mid.ahead (prepend_known held now.ahead) now.ahead part held taken (came_held held now.ahead)) wrote (reads, writes, empties)
      (BodyStops.body_fault (subst (λ n. n < head.length) (sym size) short) refl refl)

-- a reply to a head that is refused closes the link
pub never_closes : (b : Bool) → (b || true) ≡ false → ⊥
never_closes true is = absurd (cc)
never_closes false is = absurd (cc)

-- a reply is due to what was heard
module _ {W : Type 0} (service : Service W) (link now : LinkView) (asked : List (Option ℕ) → Type 0) (stands : W → Type 0) (last : Bool) (w : W) (due : DueView) where
  pub due_to_refused : (refusal : HeadRefusal) (answer : Option ℕ) (bodiless : Bool) → HeardRefused link now asked refusal answer bodiless → stands w
      → due ≡ record { said = service.refuses refusal; manner = closing answer bodiless } → Replied service link now asked stands last w due
  due_to_refused refusal answer bodiless heard st is = record {
    answer = answer;
    interim = [];
    mid = w;
    clock = heard.clock;
    wrote = heard.wrote;
    counts = heard.counts;
    serving = st;
    replies = λ rest told.
        let front = heard.refuses rest told in
        (front.0, front.1, Replies.refused refusal bodiless front.2 refl refl is);
    goes = λ still. absurd (never_closes (service.refuses refusal).memory (sym (ap closes is) ∙ still));
  }

  pub due_to_request : (head : Head) (body : List ℕ) (moment : ℕ) (new : W) (said : ContentView) → HeardRequest link now asked head body moment → stands new
      → service.responds head body moment w new said → due ≡ record { said = said; manner = manner_of last head moment } → Replied service link now asked stands last w due
  due_to_request head body moment new said heard st responds is = record {
    answer = Some moment;
    interim = interim_of head.expects;
    mid = new;
    clock = heard.clock;
    wrote = heard.wrote;
    counts = heard.counts;
    serving = st;
    replies = λ rest told. (
      heard.taken ++ rest,
      told_back link.ahead now.ahead heard.taken rest heard.took told,
      Replies.answered head body moment said (heard.asks rest) refl refl responds is,
    );
    goes = λ still. (heard.taken, heard.took, λ rest. Replies.answered head body moment said (heard.asks rest) refl refl responds is);
  }
