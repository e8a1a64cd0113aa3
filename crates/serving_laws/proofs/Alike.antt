-- Two runs of a link write the same, and take as many answers of the clock. They are over the same bytes and the same answers, from worlds that are
-- alike. The service answers each request in one way at worlds that are alike. No call of the link failed, and memory sufficed.
use Rattle.std.proofs.Common.{◌≡◌, ℕ, zero, suc, ◌<◌, ◌+◌, ◌==◌, Bool, true, false, ◌||◌, List, [], ◌∷◌, ◌++◌, length, take, drop, Option, Some, None, refl, sym, ap, ◌∙◌, subst, inl, inr, arith, not-suc-le-zero, length-append, if◌then◌else◌}
use Rattle.std.proofs.Math.Seq.{drop-append_seam, take-append_seam}
use Rattle.split_http.specs.declared.head.Head.{Head}
use Rattle.split_http.specs.declared.heads.HeadTurn.{HeadTurn}
use Rattle.split_http.specs.declared.heads.HeadTurn.TheVariants as turns
use Rattle.split_http.specs.declared.replies.HttpReply.{HttpReply}
use Rattle.split_http.specs.Replies.{IsDateLine, IsReply, reply_with}
use Rattle.split_http.specs.Turns.{HeadSays, IsBad, IsHeadDone, interim_of}
use Rattle.serving.specs.declared.refusals.HeadRefusal.{HeadRefusal}
use Rattle.serving.specs.declared.refusals.HeadRefusal.TheVariants as refusals
use Rattle.serving.specs.Dues.{AreBytes, DueView, closes, is_head, manner_of}
use Rattle.serving.specs.Ends.{Ending}
use Rattle.serving.specs.Exchanges.{refused_due}
use Rattle.serving_laws.specs.Writing.{IsDone}
use Rattle.serving.specs.Runs.{After, Asks, BodyStops, LinkRun, Refuses, Replies, Run, SaysHead, Service, Stops, end_of}
use Rattle.reply_texts.specs.Contents.{ContentView}

-- one turn comes first of the same bytes, and the same is left
abbrev TurnsOnce : Type 0
TurnsOnce = (all rest other : List ℕ) (t u : HeadTurn) → HeadSays (Some all) (Some rest) t → HeadSays (Some all) (Some other) u → IsHeadDone t → IsHeadDone u → (t ≡ u) × (rest ≡ other)

-- a reply has one text
abbrev WritesOnce : Type 0
WritesOnce = (reply : HttpReply) (a b : List ℕ) → IsReply reply a → IsReply reply b → a ≡ b

-- at worlds that are alike the service answers a request in one way, and leaves worlds that are alike
abbrev pub AnswersOnce : {W : Type 0} → Service W → (W → W → Type 0) → Type 0
AnswersOnce {W} service Same = (head : Head) (body : List ℕ) (moment : ℕ) (w v new other : W) (said told : ContentView) → Same w v
    → service.responds head body moment w new said → service.responds head body moment v other told → Same new other × (said ≡ told)

-- the head is at the front, and this is left after it
abbrev HeadAt : List ℕ → List ℕ → Head → Type 0
HeadAt all left head = (text : List ℕ) × (all ≡ text ++ left) × SaysHead text head

-- the same was written, the same number of answers was taken, worlds that are alike and the same ending came of it
pub record IsSame {W : Type 0} (Same : W → W → Type 0) (answers answers' : List (Option ℕ)) (out other : List ℕ) (new new' : W) (end end' : Ending) : Type 0 where
  pub wrote : out ≡ other
  pub leaves : Same new new'
  pub ends : end ≡ end'
  pub clock : answers ≡ answers'

head_in : HeadTurn → Head → Head
head_in (turns.Head head) other = head
head_in turns.BadHead other = other
head_in turns.End other = other
head_in turns.LinkFault other = other
head_in (turns.NoMemory verb) other = other

same_head : (a b : Head) → turns.Head a ≡ turns.Head b → a ≡ b
unfolding head_in
same_head a b is = ap (λ t. head_in t a) is

turn_of : (all left : List ℕ) (head : Head) → HeadAt all left head → HeadSays (Some all) (Some left) (turns.Head head)
turn_of all left head (text, is, (h, valid, of, spelled)) = (h, valid, of, is ∙ ap (λ t. t ++ left) spelled)

one_head : TurnsOnce → (all left other : List ℕ) (a b : Head) → HeadAt all left a → HeadAt all other b → (left ≡ other) × (a ≡ b)
one_head once all left other a b p q =
    let same = once all left other (turns.Head a) (turns.Head b) (turn_of all left a p) (turn_of all other b q) tt tt in
    (same.1, same_head a b same.0)

bad_head : (all left : List ℕ) (head : Head) → IsBad all → HeadAt all left head → ⊥
bad_head all left head (some, none) (text, is, (h, valid, of, spelled)) = none h left valid (is ∙ ap (λ t. t ++ left) spelled)

empty_head : TurnsOnce → (all left : List ℕ) (head : Head) → all ≡ [] → HeadAt all left head → ⊥
empty_head once all left head none at =
    let same = once all all left turns.End (turns.Head head) (refl, sym none) (turn_of all left head at) tt tt in
    end_head head same.0
  where
    end_head : (head : Head) → turns.End ≡ turns.Head head → ⊥
    end_head head is = absurd (cc)

empty_bad : (all : List ℕ) → all ≡ [] → IsBad all → ⊥
empty_bad all none bad = not-suc-le-zero (subst (λ (l : List ℕ). 0 < length l) none bad.0)

same_front : (xs ys r q : List ℕ) → length xs ≡ length ys → xs ++ r ≡ ys ++ q → (xs ≡ ys) × (r ≡ q)
same_front xs ys r q size is = (
  sym (take-append_seam xs r) ∙ ap (λ l. take (length xs) l) is ∙ ap (λ n. take n (ys ++ q)) size ∙ take-append_seam ys q,
  sym (drop-append_seam xs r) ∙ ap (λ l. drop (length xs) l) is ∙ ap (λ n. drop n (ys ++ q)) size ∙ drop-append_seam ys q,
)

-- what is due has one text
one_text : WritesOnce → (due : DueView) (a b : List ℕ) → AreBytes due a → AreBytes due b → a ≡ b
one_text once due a b (r, t, is_a) (q, u, (date, dated, is_b)) =
    once r a b is_a (date, subst (λ m. IsDateLine m date) (u.moment ∙ sym t.moment) dated, is_b ∙ same)
  where
    same : reply_with date q ≡ reply_with date r
    same =
        let status : q.status ≡ r.status = u.status ∙ sym t.status in
        let text : q.text.now ≡ r.text.now = u.text ∙ sym t.text in
        let plain : q.plain ≡ r.plain = u.plain ∙ sym t.plain in
        let allow : q.allow ≡ r.allow = u.allow ∙ sym t.allow in
        let bodiless : q.bodiless ≡ r.bodiless = u.bodiless ∙ sym t.bodiless in
        let close : q.close ≡ r.close = u.close ∙ sym t.close in
        cc

module _ {W : Type 0} (service : Service W) where
  abbrev due_to : Bool → Head → ℕ → ContentView → DueView
  due_to last head moment said = record { said = said; manner = manner_of last head moment }

  record Closes (due : DueView) (later : List (Option ℕ)) (w : W) (out : List ℕ) (new : W) (end : Ending) : Type 0 where
    over : later ≡ []
    bytes : AreBytes due out
    still : new ≡ w
    ends : end ≡ end_of due

  data Behind (n : ℕ) (last : Bool) (left : List ℕ) (later : List (Option ℕ)) (moment : ℕ) (head : Head) (w : W) (out : List ℕ) (new : W) (end : Ending) : Type 0 where
    cut : later ≡ [] → length left < head.length → out ≡ interim_of head.expects → new ≡ w → end ≡ Ending.cut → Behind n last left later moment head w out new end
    over : later ≡ [] → (body rest : List ℕ) (mid : W) (said : ContentView) (tail : List ℕ) → left ≡ body ++ rest → length body ≡ head.length → service.responds head body moment w mid said
        → closes (due_to last head moment said) ≡ true → AreBytes (due_to last head moment said) tail → out ≡ interim_of head.expects ++ tail → new ≡ mid → end ≡ end_of (due_to last head moment said)
        → Behind n last left later moment head w out new end
    on : (body rest : List ℕ) (mid : W) (said : ContentView) (bytes next : List ℕ) → left ≡ body ++ rest → length body ≡ head.length → service.responds head body moment w mid said
        → closes (due_to last head moment said) ≡ false → AreBytes (due_to last head moment said) bytes → out ≡ interim_of head.expects ++ (bytes ++ next)
        → LinkRun service n rest later mid next new end → Behind n last left later moment head w out new end

  data Timed (n : ℕ) (last : Bool) (left : List ℕ) (later : List (Option ℕ)) (moment : ℕ) (head : Head) (w : W) (out : List ℕ) (new : W) (end : Ending) : Type 0 where
    stated : (row : ℕ) → head.refused ≡ Some row → Closes (refused_due service (refusals.Stated row) (Some moment) (is_head head.verb)) later w out new end
        → Timed n last left later moment head w out new end
    behind : head.refused ≡ None → Behind n last left later moment head w out new end → Timed n last left later moment head w out new end

  data Headed (n : ℕ) (last : Bool) (left : List ℕ) (answers : List (Option ℕ)) (head : Head) (w : W) (out : List ℕ) (new : W) (end : Ending) : Type 0 where
    late : (later : List (Option ℕ)) → answers ≡ None ∷ later → Closes (refused_due service refusals.ClockFault None (is_head head.verb)) later w out new end → Headed n last left answers head w out new end
    timed : (moment : ℕ) (later : List (Option ℕ)) → answers ≡ Some moment ∷ later → Timed n last left later moment head w out new end → Headed n last left answers head w out new end

  data Element (n : ℕ) (last : Bool) (all : List ℕ) (answers : List (Option ℕ)) (w : W) (out : List ℕ) (new : W) (end : Ending) : Type 0 where
    nothing : all ≡ [] → answers ≡ [] → out ≡ [] → new ≡ w → end ≡ Ending.ended → Element n last all answers w out new end
    no_head : (answer : Option ℕ) (later : List (Option ℕ)) → IsBad all → answers ≡ answer ∷ later → Closes (refused_due service refusals.BadHead answer false) later w out new end
        → Element n last all answers w out new end
    headed : (left : List ℕ) (head : Head) → HeadAt all left head → Headed n last left answers head w out new end → Element n last all answers w out new end

  not_done : (end fault : Ending) → end ≡ fault → (IsDone fault → ⊥) → IsDone end → ⊥
  not_done end fault is never done = never (subst IsDone is done)

  never_open : (b : Bool) → (b || true) ≡ false → ⊥
  never_open true is = absurd (cc)
  never_open false is = absurd (cc)

  -- a refusal ends the link
  refusal_closes : (more : Run W) (rest : List ℕ) (later : List (Option ℕ)) (w mid : W) (interim tail out : List ℕ) (new : W) (end : Ending) (refusal : HeadRefusal) (answer : Option ℕ) (bodiless : Bool) (due : DueView)
      → interim ≡ [] → mid ≡ w → due ≡ refused_due service refusal answer bodiless → out ≡ interim ++ tail → IsDone end → After more rest later mid due tail new end
      → Closes (refused_due service refusal answer bodiless) later w out new end
  refusal_closes more rest later w mid interim tail out new end refusal answer bodiless due none same is wrote done (After.torn bytes a b c still torn) =
      absurd (not_done end Ending.write_fault torn (λ x. x) done)
  refusal_closes more rest later w mid interim tail out new end refusal answer bodiless due none same is wrote done (After.over closed a are still ends) = record {
    over = a;
    bytes = subst (λ o. AreBytes (refused_due service refusal answer bodiless) o) (sym (wrote ∙ ap (λ i. i ++ tail) none)) (subst (λ d. AreBytes d tail) is are);
    still = still ∙ same;
    ends = ends ∙ ap end_of is;
  }
  refusal_closes more rest later w mid interim tail out new end refusal answer bodiless due none same is wrote done (After.on bytes next open_still are b goes) =
      absurd (never_open (service.refuses refusal).memory (sym (ap closes is) ∙ open_still))

  out_of_memory : (service.refuses refusals.Memory).memory ≡ true → (answer : Option ℕ) (bodiless : Bool) (later : List (Option ℕ)) (w : W) (out : List ℕ) (new : W) (end : Ending) → IsDone end
      → Closes (refused_due service refusals.Memory answer bodiless) later w out new end → ⊥
  out_of_memory lacks answer bodiless later w out new end done c =
      not_done end Ending.memory (c.ends ∙ ap (λ (b : Bool). if b then Ending.memory else Ending.ended) lacks) (λ x. x) done

  module _ (lacks : (service.refuses refusals.Memory).memory ≡ true) where
    refused_element : (n : ℕ) (last : Bool) (all rest : List ℕ) (answer : Option ℕ) (answers later : List (Option ℕ)) (w : W) (out : List ℕ) (new : W) (end : Ending) (refusal : HeadRefusal) (bodiless : Bool)
        → answers ≡ answer ∷ later → IsDone end → Closes (refused_due service refusal answer bodiless) later w out new end → Refuses all rest answer refusal bodiless → Element n last all answers w out new end
    refused_element n last all rest answer answers later w out new end refusal bodiless asked done c (Refuses.bad_head bad is full) =
        Element.no_head answer later bad asked (subst (λ (b : Bool). Closes (refused_due service refusals.BadHead answer b) later w out new end) full (subst (λ r. Closes (refused_due service r answer bodiless) later w out new end) is c))
    refused_element n last all rest answer answers later w out new end refusal bodiless asked done c (Refuses.clock_fault text head at says fault is full) =
        Element.headed rest head (text, at, says) (Headed.late later (asked ∙ ap (λ a. a ∷ later) fault)
        (subst (λ (a : Option ℕ). Closes (refused_due service refusals.ClockFault a (is_head head.verb)) later w out new end) fault
        (subst (λ (b : Bool). Closes (refused_due service refusals.ClockFault answer b) later w out new end) full (subst (λ r. Closes (refused_due service r answer bodiless) later w out new end) is c))))
    refused_element n last all rest answer answers later w out new end refusal bodiless asked done c (Refuses.stated text head moment row at says came refused is full) =
        Element.headed rest head (text, at, says) (Headed.timed moment later (asked ∙ ap (λ a. a ∷ later) came) (Timed.stated row refused
        (subst (λ (a : Option ℕ). Closes (refused_due service (refusals.Stated row) a (is_head head.verb)) later w out new end) came
        (subst (λ (b : Bool). Closes (refused_due service (refusals.Stated row) answer b) later w out new end) full (subst (λ r. Closes (refused_due service r answer bodiless) later w out new end) is c)))))
    refused_element n last all rest answer answers later w out new end refusal bodiless asked done c (Refuses.body_memory text head moment at says came accepted some is full) =
        absurd (out_of_memory lacks answer bodiless later w out new end done (subst (λ r. Closes (refused_due service r answer bodiless) later w out new end) is c))
    refused_element n last all rest answer answers later w out new end refusal bodiless asked done c (Refuses.head_memory verb found is full) =
        absurd (out_of_memory lacks answer bodiless later w out new end done (subst (λ r. Closes (refused_due service r answer bodiless) later w out new end) is c))

    answered_element : (n : ℕ) (last : Bool) (all rest : List ℕ) (answer : Option ℕ) (answers later : List (Option ℕ)) (w mid : W) (interim tail out : List ℕ) (new : W) (end : Ending) (due : DueView)
        (head : Head) (body : List ℕ) (moment : ℕ) (said : ContentView) → Asks all rest head body → answer ≡ Some moment → interim ≡ interim_of head.expects → service.responds head body moment w mid said
        → due ≡ due_to last head moment said → answers ≡ answer ∷ later → out ≡ interim ++ tail → IsDone end → After (LinkRun service n) rest later mid due tail new end
        → Element n last all answers w out new end
    answered_element n last all rest answer answers later w mid interim tail out new end due head body moment said asks came line responds is asked wrote done (After.torn bytes a b c still torn) =
        absurd (not_done end Ending.write_fault torn (λ x. x) done)
    answered_element n last all rest answer answers later w mid interim tail out new end due head body moment said asks came line responds is asked wrote done (After.over closed a are still ends) =
        Element.headed (body ++ rest) head (asks.text, asks.bytes, asks.says) (Headed.timed moment later (asked ∙ ap (λ a. a ∷ later) came) (Timed.behind asks.accepted
        (Behind.over a body rest mid said tail refl asks.size responds (sym (ap closes is) ∙ closed) (subst (λ d. AreBytes d tail) is are) (wrote ∙ ap (λ i. i ++ tail) line) still (ends ∙ ap end_of is))))
    answered_element n last all rest answer answers later w mid interim tail out new end due head body moment said asks came line responds is asked wrote done (After.on bytes next open_still are b goes) =
        Element.headed (body ++ rest) head (asks.text, asks.bytes, asks.says) (Headed.timed moment later (asked ∙ ap (λ a. a ∷ later) came) (Timed.behind asks.accepted
        (Behind.on body rest mid said bytes next refl asks.size responds (sym (ap closes is) ∙ open_still) (subst (λ d. AreBytes d bytes) is are)
        (wrote ∙ ap (λ i. i ++ tail) line ∙ ap (λ t. interim_of head.expects ++ t) b) goes)))

    replied_element : (n : ℕ) (last : Bool) (all rest : List ℕ) (answer : Option ℕ) (answers later : List (Option ℕ)) (w mid : W) (interim tail out : List ℕ) (new : W) (end : Ending) (due : DueView)
        → answers ≡ answer ∷ later → out ≡ interim ++ tail → IsDone end → After (LinkRun service n) rest later mid due tail new end → Replies service last all rest answer w interim mid due
        → Element n last all answers w out new end
    replied_element n last all rest answer answers later w mid interim tail out new end due asked wrote done after (Replies.refused refusal bodiless r none same is) =
        refused_element n last all rest answer answers later w out new end refusal bodiless asked done
        (refusal_closes (LinkRun service n) rest later w mid interim tail out new end refusal answer bodiless due none same is wrote done after) r
    replied_element n last all rest answer answers later w mid interim tail out new end due asked wrote done after (Replies.answered head body moment said asks came line responds is) =
        answered_element n last all rest answer answers later w mid interim tail out new end due head body moment said asks came line responds is asked wrote done after

    stopped_element : (n : ℕ) (last : Bool) (all : List ℕ) (answers : List (Option ℕ)) (w : W) (out : List ℕ) (new : W) (end : Ending) → IsDone end → new ≡ w → Stops all answers out end
        → Element n last all answers w out new end
    stopped_element n last all answers w out new end done same (Stops.nothing none a wrote ends) = Element.nothing none a wrote same ends
    stopped_element n last all answers w out new end done same (Stops.head_fault a b c fault) = absurd (not_done end Ending.read_fault fault (λ x. x) done)
    stopped_element n last all answers w out new end done same (Stops.behind_head text rest head moment at says accepted asked (BodyStops.cut_off short wrote ends)) =
        Element.headed rest head (text, at, says) (Headed.timed moment [] asked (Timed.behind accepted (Behind.cut refl short wrote same ends)))
    stopped_element n last all answers w out new end done same (Stops.behind_head text rest head moment at says accepted asked (BodyStops.interim_fault due part fault)) =
        absurd (not_done end Ending.write_fault fault (λ x. x) done)
    stopped_element n last all answers w out new end done same (Stops.behind_head text rest head moment at says accepted asked (BodyStops.body_fault a wrote fault)) =
        absurd (not_done end Ending.read_fault fault (λ x. x) done)

    element_of : (n : ℕ) (all : List ℕ) (answers : List (Option ℕ)) (w : W) (out : List ℕ) (new : W) (end : Ending) → IsDone end → LinkRun service (suc n) all answers w out new end
        → Element n (n == 0) all answers w out new end
    element_of n all answers w out new end done (inl (stops, same)) = stopped_element n (n == 0) all answers w out new end done same stops
    element_of n all answers w out new end done (inr h) =
        replied_element n (n == 0) all h.rest h.answer answers h.later w h.mid h.interim h.tail out new end h.due h.asked h.wrote done h.after h.replies

  module _ (turns_once : TurnsOnce) (writes_once : WritesOnce) (Same : W → W → Type 0) (answers_once : AnswersOnce service Same) where
    -- worlds that are as those before
    same_after : (w v new new' : W) → Same w v → new ≡ w → new' ≡ v → Same new new'
    same_after w v new new' alike is is' = subst (λ (x : W). Same x new') (sym is) (subst (λ (y : W). Same w y) (sym is') alike)

    same_closes : (due : DueView) (later later' : List (Option ℕ)) (w v : W) (out other : List ℕ) (new new' : W) (end end' : Ending) → Same w v
        → Closes due later w out new end → Closes due later' v other new' end' → IsSame Same later later' out other new new' end end'
    same_closes due later later' w v out other new new' end end' alike p q = record {
      wrote = one_text writes_once due out other p.bytes q.bytes;
      leaves = same_after w v new new' alike p.still q.still;
      ends = p.ends ∙ sym q.ends;
      clock = p.over ∙ sym q.over;
    }

    -- two bodies after one head, and what was answered to them
    same_answer : (last : Bool) (moment : ℕ) (head : Head) (w v : W) (left body rest body' rest' : List ℕ) (mid mid' : W) (said said' : ContentView) → Same w v → left ≡ body ++ rest → left ≡ body' ++ rest'
        → length body ≡ head.length → length body' ≡ head.length → service.responds head body moment w mid said → service.responds head body' moment v mid' said'
        → (rest ≡ rest') × Same mid mid' × (said ≡ said')
    same_answer last moment head w v left body rest body' rest' mid mid' said said' alike is is' size size' r r' =
        let front = same_front body body' rest rest' (size ∙ sym size') (sym is ∙ is') in
        let one = answers_once head body moment w v mid mid' said said' alike r (subst (λ (b : List ℕ). service.responds head b moment v mid' said') (sym front.0) r') in
        (front.1, one.0, one.1)

    short_body : (left body rest : List ℕ) (head : Head) → length left < head.length → left ≡ body ++ rest → length body ≡ head.length → ⊥
    short_body left body rest head short is size =
        let sum : length left ≡ length body + length rest = ap length is ∙ length-append body rest in
        omega (arith, short, sum, size)

    abbrev Again : ℕ → Type 0
    Again n = (all : List ℕ) (answers answers' more more' : List (Option ℕ)) (w v : W) (out other : List ℕ) (new new' : W) (end end' : Ending) → Same w v → answers ++ more ≡ answers' ++ more' → IsDone end → IsDone end'
        → LinkRun service n all answers w out new end → LinkRun service n all answers' v other new' end' → IsSame Same answers answers' out other new new' end end'

    true_false : (b : Bool) → b ≡ true → b ≡ false → ⊥
    true_false b is not = absurd (cc)

    same_behind : (n : ℕ) → Again n → (last : Bool) (left : List ℕ) (later later' more more' : List (Option ℕ)) (moment : ℕ) (head : Head) (w v : W) (out other : List ℕ) (new new' : W) (end end' : Ending)
        → Same w v → later ++ more ≡ later' ++ more' → IsDone end → IsDone end'
        → Behind n last left later moment head w out new end → Behind n last left later' moment head v other new' end' → IsSame Same later later' out other new new' end end'
    same_behind n again last left later later' more more' moment head w v out other new new' end end' alike clock done done' (Behind.cut none short wrote same ends) (Behind.cut none' short' wrote' same' ends') =
        record { wrote = wrote ∙ sym wrote'; leaves = same_after w v new new' alike same same'; ends = ends ∙ sym ends'; clock = none ∙ sym none' }
    same_behind n again last left later later' more more' moment head w v out other new new' end end' alike clock done done' (Behind.cut none short wrote same ends) (Behind.over none' body rest mid said tail is size r c a b e f) =
        absurd (short_body left body rest head short is size)
    same_behind n again last left later later' more more' moment head w v out other new new' end end' alike clock done done' (Behind.cut none short wrote same ends) (Behind.on body rest mid said bytes next is size r c a b e) =
        absurd (short_body left body rest head short is size)
    same_behind n again last left later later' more more' moment head w v out other new new' end end' alike clock done done' (Behind.over none body rest mid said tail is size r c a b e f) (Behind.cut none' short wrote same ends) =
        absurd (short_body left body rest head short is size)
    same_behind n again last left later later' more more' moment head w v out other new new' end end' alike clock done done' (Behind.on body rest mid said bytes next is size r c a b e) (Behind.cut none' short wrote same ends) =
        absurd (short_body left body rest head short is size)
    same_behind n again last left later later' more more' moment head w v out other new new' end end' alike clock done done' (Behind.over none body rest mid said tail is size r c are wrote still ends)
        (Behind.over none' body' rest' mid' said' tail' is' size' r' c' are' wrote' still' ends') =
        let (rests, mids, saids) = same_answer last moment head w v left body rest body' rest' mid mid' said said' alike is is' size size' r r' in
        let text = one_text writes_once (due_to last head moment said) tail tail' are (subst (λ (s : ContentView). AreBytes (due_to last head moment s) tail') (sym saids) are') in
        record {
          wrote = wrote ∙ ap (λ t. interim_of head.expects ++ t) text ∙ sym wrote';
          leaves = same_after mid mid' new new' mids still still';
          ends = ends ∙ ap (λ (s : ContentView). end_of (due_to last head moment s)) saids ∙ sym ends';
          clock = none ∙ sym none';
        }
    same_behind n again last left later later' more more' moment head w v out other new new' end end' alike clock done done' (Behind.over none body rest mid said tail is size r c are wrote still ends)
        (Behind.on body' rest' mid' said' bytes' next' is' size' r' c' are' wrote' goes') =
        let (rests, mids, saids) = same_answer last moment head w v left body rest body' rest' mid mid' said said' alike is is' size size' r r' in
        absurd (true_false (closes (due_to last head moment said)) c (ap (λ (s : ContentView). closes (due_to last head moment s)) saids ∙ c'))
    same_behind n again last left later later' more more' moment head w v out other new new' end end' alike clock done done' (Behind.on body rest mid said bytes next is size r c are wrote goes)
        (Behind.over none' body' rest' mid' said' tail' is' size' r' c' are' wrote' still' ends') =
        let (rests, mids, saids) = same_answer last moment head w v left body rest body' rest' mid mid' said said' alike is is' size size' r r' in
        absurd (true_false (closes (due_to last head moment said')) c' (sym (ap (λ (s : ContentView). closes (due_to last head moment s)) saids) ∙ c))
    same_behind n again last left later later' more more' moment head w v out other new new' end end' alike clock done done' (Behind.on body rest mid said bytes next is size r c are wrote goes)
        (Behind.on body' rest' mid' said' bytes' next' is' size' r' c' are' wrote' goes') =
        let (rests, mids, saids) = same_answer last moment head w v left body rest body' rest' mid mid' said said' alike is is' size size' r r' in
        let text = one_text writes_once (due_to last head moment said) bytes bytes' are (subst (λ (s : ContentView). AreBytes (due_to last head moment s) bytes') (sym saids) are') in
        let goes_on = subst (λ (l : List ℕ). LinkRun service n l later' mid' next' new' end') (sym rests) goes' in
        let so = again rest later later' more more' mid mid' next next' new new' end end' mids clock done done' goes goes_on in
        record {
          wrote = wrote ∙ ap (λ t. interim_of head.expects ++ (t ++ next)) text ∙ ap (λ t. interim_of head.expects ++ (bytes' ++ t)) so.wrote ∙ sym wrote';
          leaves = so.leaves;
          ends = so.ends;
          clock = so.clock;
        }

    row_none : (r : Option ℕ) (row : ℕ) → r ≡ Some row → r ≡ None → ⊥
    row_none r row is not = absurd (cc)

    same_row : (r : Option ℕ) (row other : ℕ) → r ≡ Some row → r ≡ Some other → row ≡ other
    same_row r row other is not = cc

    same_timed : (n : ℕ) → Again n → (last : Bool) (left : List ℕ) (later later' more more' : List (Option ℕ)) (moment : ℕ) (head : Head) (w v : W) (out other : List ℕ) (new new' : W) (end end' : Ending)
        → Same w v → later ++ more ≡ later' ++ more' → IsDone end → IsDone end'
        → Timed n last left later moment head w out new end → Timed n last left later' moment head v other new' end' → IsSame Same later later' out other new new' end end'
    same_timed n again last left later later' more more' moment head w v out other new new' end end' alike clock done done' (Timed.stated row is c) (Timed.stated row' is' c') =
        same_closes (refused_due service (refusals.Stated row) (Some moment) (is_head head.verb)) later later' w v out other new new' end end' alike c
        (subst (λ (r : ℕ). Closes (refused_due service (refusals.Stated r) (Some moment) (is_head head.verb)) later' v other new' end') (sym (same_row head.refused row row' is is')) c')
    same_timed n again last left later later' more more' moment head w v out other new new' end end' alike clock done done' (Timed.stated row is c) (Timed.behind none b) = absurd (row_none head.refused row is none)
    same_timed n again last left later later' more more' moment head w v out other new new' end end' alike clock done done' (Timed.behind none b) (Timed.stated row is c) = absurd (row_none head.refused row is none)
    same_timed n again last left later later' more more' moment head w v out other new new' end end' alike clock done done' (Timed.behind none b) (Timed.behind none' b') =
        same_behind n again last left later later' more more' moment head w v out other new new' end end' alike clock done done' b b'

    -- the first answers of lists that go on alike
    same_first : (answers answers' more more' later later' : List (Option ℕ)) (a b : Option ℕ) → answers ++ more ≡ answers' ++ more' → answers ≡ a ∷ later → answers' ≡ b ∷ later'
        → (a ≡ b) × (later ++ more ≡ later' ++ more')
    same_first answers answers' more more' later later' a b clock is other =
        let one : a ∷ (later ++ more) ≡ b ∷ (later' ++ more') = ap (λ l. l ++ more) (sym is) ∙ clock ∙ ap (λ l. l ++ more') other in
        ((cc), (cc))

    same_answers : (answers answers' later later' : List (Option ℕ)) (a b : Option ℕ) → answers ≡ a ∷ later → answers' ≡ b ∷ later' → a ≡ b → later ≡ later' → answers ≡ answers'
    same_answers answers answers' later later' a b is other first rest = is ∙ (λ i. first i ∷ rest i) ∙ sym other

    none_some : (moment : ℕ) → None ≡ Some moment → ⊥
    none_some moment is = absurd (cc)

    same_moment : (a b : ℕ) → Some a ≡ Some b → a ≡ b
    same_moment a b is = cc

    with_clock : (answers answers' later later' : List (Option ℕ)) (out other : List ℕ) (new new' : W) (end end' : Ending) → (later ≡ later' → answers ≡ answers')
        → IsSame Same later later' out other new new' end end' → IsSame Same answers answers' out other new new' end end'
    with_clock answers answers' later later' out other new new' end end' clock so = record { wrote = so.wrote; leaves = so.leaves; ends = so.ends; clock = clock so.clock }

    same_headed : (n : ℕ) → Again n → (last : Bool) (left : List ℕ) (answers answers' more more' : List (Option ℕ)) (head : Head) (w v : W) (out other : List ℕ) (new new' : W) (end end' : Ending)
        → Same w v → answers ++ more ≡ answers' ++ more' → IsDone end → IsDone end'
        → Headed n last left answers head w out new end → Headed n last left answers' head v other new' end' → IsSame Same answers answers' out other new new' end end'
    same_headed n again last left answers answers' more more' head w v out other new new' end end' alike clock done done' (Headed.late later is c) (Headed.late later' is' c') =
        with_clock answers answers' later later' out other new new' end end' (same_answers answers answers' later later' None None is is' refl)
        (same_closes (refused_due service refusals.ClockFault None (is_head head.verb)) later later' w v out other new new' end end' alike c c')
    same_headed n again last left answers answers' more more' head w v out other new new' end end' alike clock done done' (Headed.late later is c) (Headed.timed moment later' is' t) =
        absurd (none_some moment (same_first answers answers' more more' later later' None (Some moment) clock is is').0)
    same_headed n again last left answers answers' more more' head w v out other new new' end end' alike clock done done' (Headed.timed moment later is t) (Headed.late later' is' c) =
        absurd (none_some moment (sym (same_first answers answers' more more' later later' (Some moment) None clock is is').0))
    same_headed n again last left answers answers' more more' head w v out other new new' end end' alike clock done done' (Headed.timed moment later is t) (Headed.timed moment' later' is' t') =
        let (came, rest) = same_first answers answers' more more' later later' (Some moment) (Some moment') clock is is' in
        with_clock answers answers' later later' out other new new' end end' (same_answers answers answers' later later' (Some moment) (Some moment') is is' came)
        (same_timed n again last left later later' more more' moment head w v out other new new' end end' alike rest done done' t
        (subst (λ (m : ℕ). Timed n last left later' m head v other new' end') (sym (same_moment moment moment' came)) t'))

    same_element : (n : ℕ) → Again n → (last : Bool) (all : List ℕ) (answers answers' more more' : List (Option ℕ)) (w v : W) (out other : List ℕ) (new new' : W) (end end' : Ending)
        → Same w v → answers ++ more ≡ answers' ++ more' → IsDone end → IsDone end'
        → Element n last all answers w out new end → Element n last all answers' v other new' end' → IsSame Same answers answers' out other new new' end end'
    same_element n again last all answers answers' more more' w v out other new new' end end' alike clock done done' (Element.nothing none a wrote same ends) (Element.nothing none' a' wrote' same' ends') =
        record { wrote = wrote ∙ sym wrote'; leaves = same_after w v new new' alike same same'; ends = ends ∙ sym ends'; clock = a ∙ sym a' }
    same_element n again last all answers answers' more more' w v out other new new' end end' alike clock done done' (Element.nothing none a wrote same ends) (Element.no_head answer later bad is c) = absurd (empty_bad all none bad)
    same_element n again last all answers answers' more more' w v out other new new' end end' alike clock done done' (Element.nothing none a wrote same ends) (Element.headed left head at h) =
        absurd (empty_head turns_once all left head none at)
    same_element n again last all answers answers' more more' w v out other new new' end end' alike clock done done' (Element.no_head answer later bad is c) (Element.nothing none a wrote same ends) = absurd (empty_bad all none bad)
    same_element n again last all answers answers' more more' w v out other new new' end end' alike clock done done' (Element.headed left head at h) (Element.nothing none a wrote same ends) =
        absurd (empty_head turns_once all left head none at)
    same_element n again last all answers answers' more more' w v out other new new' end end' alike clock done done' (Element.no_head answer later bad is c) (Element.headed left head at h) = absurd (bad_head all left head bad at)
    same_element n again last all answers answers' more more' w v out other new new' end end' alike clock done done' (Element.headed left head at h) (Element.no_head answer later bad is c) = absurd (bad_head all left head bad at)
    same_element n again last all answers answers' more more' w v out other new new' end end' alike clock done done' (Element.no_head answer later bad is c) (Element.no_head answer' later' bad' is' c') =
        let (came, rest) = same_first answers answers' more more' later later' answer answer' clock is is' in
        with_clock answers answers' later later' out other new new' end end' (same_answers answers answers' later later' answer answer' is is' came)
        (same_closes (refused_due service refusals.BadHead answer false) later later' w v out other new new' end end' alike c
        (subst (λ (a : Option ℕ). Closes (refused_due service refusals.BadHead a false) later' v other new' end') (sym came) c'))
    same_element n again last all answers answers' more more' w v out other new new' end end' alike clock done done' (Element.headed left head at h) (Element.headed left' head' at' h') =
        let (lefts, heads) = one_head turns_once all left left' head head' at at' in
        same_headed n again last left answers answers' more more' head w v out other new new' end end' alike clock done done' h
        (subst (λ (l : List ℕ). Headed n last l answers' head v other new' end') (sym lefts) (subst (λ (x : Head). Headed n last left' answers' x v other new' end') (sym heads) h'))

    pub runs_alike : (service.refuses refusals.Memory).memory ≡ true → (n : ℕ) → Again n
    runs_alike lacks zero all answers answers' more more' w v out other new new' end end' alike clock done done' run run' = absurd run
    runs_alike lacks (suc n) all answers answers' more more' w v out other new new' end end' alike clock done done' run run' =
        same_element n (runs_alike lacks n) (n == 0) all answers answers' more more' w v out other new new' end end' alike clock done done'
        (element_of lacks n all answers w out new end done run) (element_of lacks n all answers' v other new' end' done' run')
