-- What an answer within a tree says of all bytes that were taken from the source.
use Rattle.std.proofs.Common.{◌≡◌, ℕ, ◌+◌, ◌-◌, ◌<◌, ◌≤◌, List, [], ◌∷◌, ◌++◌, length, take, All, Bool, true, false, arith, refl, sym, ap, ◌∙◌, subst, length-append, append_assoc, append-nil}
use Rattle.std.specs.Prelude.{Option, Some, None, Result, Ok, Err, is_some}
use Rattle.std.proofs.lemmas.List.{append_cancel_right}
use Rattle.std.proofs.lemmas.List.Elements.{All-append, All-cons, All-nil}
use Rattle.cert_reader.specs.declared.limits.TheConstants.{MOST_BYTES}
use Rattle.split_frac.specs.Texts.{line}
use Rattle.cert_reader.specs.declared.ends.TextEnd.{TextEnd}
use Rattle.cert_reader.specs.declared.ends.TextEnd.TheVariants.{NotText, ReadFault, TooLong}
use Rattle.cert_reader.specs.declared.forms.Counts.{Counts}
use Rattle.cert_reader.specs.declared.pieces.Piece.{Piece}
use Rattle.cert_reader.specs.declared.pieces.Piece.TheVariants.{Done, Kind, Line, Mark}
use Rattle.cert_reader.specs.Forms.{AreCounts, Certificates, Tree, forms_of}
use Rattle.cert_reader.specs.Order.{AgreeUpTo, form_in}
use Rattle.cert_reader.specs.Reading.{Begins, EndsInTree, ReadsOn, IsAnswer, IsEnd, IsMarkRead, IsRead, IsTreeRead, Reading, with_mark}
use Rattle.cert_reader.specs.Stream.{Held, taken_count}
use Rattle.cert_reader.specs.Text.{CanSay, CanSayAll, IsBrokenText, IsMark, Marks, Numbers, Said, said_text, text_of}
use Rattle.cert_reader.specs.TreeLines.{HasNoTree, IsFirstMark, IsNextMark, tree_front}
use Rattle.cert_reader.proofs.Beginnings.{begins_last, begins_more, broken_behind}
use Rattle.cert_reader.proofs.PieceSteps.{begins_whole, goes_after, goes_so, reading_at, reading_is, reading_of, refused_end, stop_end, total_of, whole_begins}
use Rattle.cert_reader.proofs.TreeLines.{lines_before, no_more, no_tree, with_first, with_more}

-- lines before a tree, and the marks that were read of it
pub record TreePart (held : Held) (k : ℕ) (counts : Counts) (taken : List ℕ) (before : List Said) (marks : List ℕ) : Type 0 where
  pub are_counts : AreCounts counts
  pub within : k < length (forms_of counts)
  pub fits : CanSayAll (take k (forms_of counts)) before
  pub tree : form_in counts k ≡ Tree
  pub some : 1 ≤ length marks
  pub each : All IsMark marks
  pub is_taken : taken ≡ text_of (take k (forms_of counts)) before ++ ((tree_front ++ marks) ++ held.ahead)
  pub total : length taken ≡ held.given + length held.ahead

-- the lines before it
part_begins : (held : Held) (k : ℕ) (counts : Counts) (taken : List ℕ) (before : List Said) (marks rest : List ℕ) → TreePart held k counts taken before marks
    → Begins Certificates (text_of (take k (forms_of counts)) before ++ rest) k counts before rest
part_begins held k counts taken before marks rest h = record { are_counts = h.are_counts; within = (let w = h.within in omega arith); fits = h.fits; text = refl }

-- the tree's line, whole
tree_line : (counts : Counts) (k : ℕ) (marks rest : List ℕ) → form_in counts k ≡ Tree → (tree_front ++ marks) ++ 10 ∷ rest ≡ said_text (form_in counts k) (Marks marks) ++ rest
unfolding line
tree_line counts k marks rest tree = sym (append_assoc (tree_front ++ marks) (10 ∷ []) rest) ∙ ap (λ f. said_text f (Marks marks) ++ rest) (sym tree)

-- with its LF after them, such marks are one line more
part_whole : (held : Held) (k : ℕ) (counts : Counts) (taken : List ℕ) (before : List Said) (marks rest : List ℕ) → TreePart held k counts taken before marks
    → Begins Certificates (text_of (take k (forms_of counts)) before ++ ((tree_front ++ marks) ++ 10 ∷ rest)) (k + 1) counts (before ++ Marks marks ∷ []) rest
part_whole held k counts taken before marks rest h =
    begins_more (text_of (take k (forms_of counts)) before ++ ((tree_front ++ marks) ++ 10 ∷ rest)) ((tree_front ++ marks) ++ 10 ∷ rest) rest k counts before (Marks marks)
    (part_begins held k counts taken before marks ((tree_front ++ marks) ++ 10 ∷ rest) h) h.within (subst (λ f. CanSay f (Marks marks)) (sym h.tree) (h.some, h.each)) (tree_line counts k marks rest h.tree)

-- such a part is what a reading within a tree has read
part_read : (held : Held) (k : ℕ) (counts : Counts) (taken : List ℕ) (before : List Said) (marks : List ℕ) → TreePart held k counts taken before marks
    → IsRead (reading_at held (k + 1) counts true) taken (before ++ Marks marks ∷ [])
part_read held k counts taken before marks h =
    let text = text_of (take k (forms_of counts)) before in
    record {
      front = text ++ (tree_front ++ marks);
      is_taken = h.is_taken ∙ sym (append_assoc text (tree_front ++ marks) held.ahead);
      begins = subst (λ bytes. Begins Certificates bytes (k + 1) counts (before ++ Marks marks ∷ []) held.ahead) (sym (append_assoc text (tree_front ++ marks) (10 ∷ held.ahead))) (part_whole held k counts taken before marks held.ahead h);
      total = h.total;
    }

-- and the other way round
record HasPart (held : Held) (k : ℕ) (counts : Counts) (taken : List ℕ) (said : List Said) : Type 0 where
  before : List Said
  marks : List ℕ
  whole : said ≡ before ++ Marks marks ∷ []
  part : TreePart held k counts taken before marks

-- what a reading within a tree has read is the lines before it, and marks of it
read_part : (held : Held) (k : ℕ) (counts : Counts) (taken : List ℕ) (said : List Said) → form_in counts k ≡ Tree → IsRead (reading_at held (k + 1) counts true) taken said → HasPart held k counts taken said
unfolding line
read_part held k counts taken said tree h =
    let less = begins_last (h.front ++ (10 ∷ held.ahead)) held.ahead k counts said h.begins in
    from less.said less.last (subst (λ f. CanSay f less.last) tree less.can) less.whole (less.begins.text ∙ ap (λ f. text_of (take k (forms_of counts)) less.said ++ (said_text f less.last ++ held.ahead)) tree)
    less.begins.fits
  where
    from : (before : List Said) (last : Said) → CanSay Tree last → said ≡ before ++ last ∷ []
        → h.front ++ (10 ∷ held.ahead) ≡ text_of (take k (forms_of counts)) before ++ (said_text Tree last ++ held.ahead) → CanSayAll (take k (forms_of counts)) before → HasPart held k counts taken said
    from before (Marks marks) can whole text fits = record {
      before = before;
      marks = marks;
      whole = whole;
      part = record {
        are_counts = h.begins.are_counts;
        within = (let w = h.begins.within in omega arith);
        fits = fits;
        tree = tree;
        some = can.0;
        each = can.1;
        is_taken = h.is_taken ∙ ap (λ xs. xs ++ held.ahead) (append_cancel_right h.front (text_of (take k (forms_of counts)) before ++ (tree_front ++ marks)) (10 ∷ held.ahead)
            (text ∙ ap (λ xs. text_of (take k (forms_of counts)) before ++ xs) (append_assoc (tree_front ++ marks) (10 ∷ []) held.ahead)
            ∙ sym (append_assoc (text_of (take k (forms_of counts)) before) (tree_front ++ marks) (10 ∷ held.ahead))))
            ∙ append_assoc (text_of (take k (forms_of counts)) before) (tree_front ++ marks) held.ahead;
        total = h.total;
      };
    }
    from before (Numbers numbers) can whole text fits = absurd can

-- the first mark was given out
pub first_read : (a b : Held) (x y : Option (List ℕ)) (lines : ℕ) (known : Counts) (mark : ℕ) → lines < length (forms_of known) → form_in known lines ≡ Tree → IsFirstMark a b x y (lines + 1) (Ok mark)
    → ReadsOn (reading_of a lines known) x y (λ taken said. IsMarkRead (reading_of a lines known) (reading_at b (lines + 1) known true) y taken said (Ok mark))
first_read a b x y lines known mark within tree (is, p) = (p.more, p.took, λ taken said h. (refl, read taken said h))
  where
    read : (taken : List ℕ) (said : List Said) → IsRead (reading_of a lines known) taken said → IsRead (reading_at b (lines + 1) known true) (taken ++ p.more) (with_mark said mark)
    read taken said h =
        let begins = whole_begins a lines known taken said h in
        let text = text_of (take lines (forms_of known)) said in
        subst (IsRead (reading_at b (lines + 1) known true) (taken ++ p.more)) (sym (with_first (take lines (forms_of known)) said mark (lines_before known lines within tree) begins.fits))
        (part_read b lines known (taken ++ p.more) said (mark ∷ []) (record {
          are_counts = begins.are_counts;
          within = within;
          fits = begins.fits;
          tree = tree;
          some = omega arith;
          each = All-cons IsMark mark [] is (All-nil IsMark);
          is_taken = ap (λ xs. xs ++ p.more) begins.text ∙ append_assoc text a.ahead p.more ∙ ap (λ xs. text ++ xs) p.seam;
          total = total_of a b x y (tree_front ++ mark ∷ []) taken p h.total;
        }))

-- no line of a tree comes where one is due
pub first_unread : (a b : Held) (x y : Option (List ℕ)) (lines : ℕ) (known : Counts) (end : TextEnd) → taken_count b ≤ MOST_BYTES → lines < length (forms_of known) → form_in known lines ≡ Tree
    → IsFirstMark a b x y (lines + 1) (Err end) → ReadsOn (reading_of a lines known) x y (λ taken said. IsEnd end y taken)
first_unread a b x y lines known end few within tree stop = refused_end a b x y lines known HasNoTree end few (λ text none. (no_tree lines known text tree none, λ all rest. omega arith)) stop

-- one mark more was given out
pub mark_read : (a b : Held) (x y : Option (List ℕ)) (k : ℕ) (known : Counts) (mark : ℕ) → form_in known k ≡ Tree → IsNextMark a b x y (k + 1) (Ok (Some mark))
    → ReadsOn (reading_at a (k + 1) known true) x y (λ taken said. IsTreeRead (reading_at a (k + 1) known true) (reading_at b (k + 1) known true) y taken said (Ok (Some mark)))
mark_read a b x y k known mark tree (is, p) = (p.more, p.took, λ taken said h. (refl, read taken said (read_part a k known taken said tree h)))
  where
    read : (taken : List ℕ) (said : List Said) → HasPart a k known taken said → IsRead (reading_at b (k + 1) known true) (taken ++ p.more) (with_mark said mark)
    read taken said h =
        let text = text_of (take k (forms_of known)) h.before in
        let marks = h.marks in
        let some = h.part.some in
        subst (IsRead (reading_at b (k + 1) known true) (taken ++ p.more)) (sym (ap (λ xs. with_mark xs mark) h.whole ∙ with_more h.before marks mark))
        (part_read b k known (taken ++ p.more) h.before (marks ++ mark ∷ []) (record {
          are_counts = h.part.are_counts;
          within = h.part.within;
          fits = h.part.fits;
          tree = tree;
          some = omega (arith, length-append marks (mark ∷ []));
          each = All-append IsMark marks (mark ∷ []) h.part.each (All-cons IsMark mark [] is (All-nil IsMark));
          is_taken = ap (λ xs. xs ++ p.more) h.part.is_taken ∙ append_assoc text ((tree_front ++ marks) ++ a.ahead) p.more
              ∙ ap (λ xs. text ++ xs) (append_assoc (tree_front ++ marks) a.ahead p.more ∙ ap (λ xs. (tree_front ++ marks) ++ xs) p.seam ∙ ap (λ xs. tree_front ++ xs) (sym (append_assoc marks (mark ∷ []) b.ahead)));
          total = total_of a b x y (mark ∷ []) taken p h.part.total;
        }))

-- its LF was
pub tree_closed : (a b : Held) (x y : Option (List ℕ)) (k : ℕ) (known : Counts) → form_in known k ≡ Tree → IsNextMark a b x y (k + 1) (Ok None)
    → ReadsOn (reading_at a (k + 1) known true) x y (λ taken said. IsTreeRead (reading_at a (k + 1) known true) (reading_of b (k + 1) known) y taken said (Ok None))
tree_closed a b x y k known tree p = (p.more, p.took, λ taken said h. read taken said (read_part a k known taken said tree h))
  where
    read : (taken : List ℕ) (said : List Said) → HasPart a k known taken said → IsRead (reading_of b (k + 1) known) (taken ++ p.more) said
    read taken said h =
        let text = text_of (take k (forms_of known)) h.before in
        let marks = h.marks in
        begins_whole b (k + 1) known (taken ++ p.more) said
        (subst (λ xs. Begins Certificates (taken ++ p.more) (k + 1) known xs b.ahead) (sym h.whole)
        (subst (λ bytes. Begins Certificates bytes (k + 1) known (h.before ++ Marks marks ∷ []) b.ahead)
        (sym (ap (λ xs. xs ++ p.more) h.part.is_taken ∙ append_assoc text ((tree_front ++ marks) ++ a.ahead) p.more
        ∙ ap (λ xs. text ++ xs) (append_assoc (tree_front ++ marks) a.ahead p.more ∙ ap (λ xs. (tree_front ++ marks) ++ xs) p.seam)))
        (part_whole a k known taken h.before marks b.ahead h.part)))
        (total_of a b x y (10 ∷ []) taken p h.part.total)

-- the tree goes on otherwise
pub tree_unread : (a b : Held) (x y : Option (List ℕ)) (k : ℕ) (known : Counts) (end : TextEnd) → taken_count b ≤ MOST_BYTES → form_in known k ≡ Tree → IsNextMark a b x y (k + 1) (Err end)
    → ReadsOn (reading_at a (k + 1) known true) x y (λ taken said. IsEnd end y taken)
tree_unread a b x y k known (NotText line) few tree (is, (text, p, ahead, at, never)) = (
  p.more,
  p.took,
  λ taken said h. (
    subst (IsBrokenText (taken ++ p.more)) (sym is) (broken taken said (read_part a k known taken said tree h)),
    (let total = total_of a b x y text taken p h.total in omega arith),
    at,
  ),
)
  where
    broken : (taken : List ℕ) (said : List Said) → HasPart a k known taken said → IsBrokenText (taken ++ p.more) (k + 1)
    broken taken said h =
        let front = text_of (take k (forms_of known)) h.before in
        let marks = h.marks in
        let within = h.part.within in
        subst (λ bytes. IsBrokenText bytes (k + 1))
        (sym (ap (λ xs. xs ++ p.more) h.part.is_taken ∙ append_assoc front ((tree_front ++ marks) ++ a.ahead) p.more
        ∙ ap (λ xs. front ++ xs) (append_assoc (tree_front ++ marks) a.ahead p.more ∙ ap (λ xs. (tree_front ++ marks) ++ xs) (p.seam ∙ ap (λ xs. text ++ xs) ahead ∙ append-nil text))))
        (broken_behind (front ++ (tree_front ++ (marks ++ text))) (tree_front ++ (marks ++ text)) k known h.before (part_begins a k known taken h.before marks (tree_front ++ (marks ++ text)) h.part)
        (λ all none. omega arith) (no_tree k known (tree_front ++ (marks ++ text)) tree (no_more marks text h.part.each never)))
tree_unread a b x y k known TooLong few tree stop = stop_end a x y (k + 1) known true TooLong stop
tree_unread a b x y k known ReadFault few tree stop = stop_end a x y (k + 1) known true ReadFault stop

-- the first mark was given out: a reading that is given by its fields has read it
pub first_read_at : (r : Reading) (a b : Held) (x y : Option (List ℕ)) (lines : ℕ) (known : Counts) (in_tree : Bool) (mark : ℕ) → reading_at a lines known in_tree ≡ r → r.in_tree ≡ false → lines < length (forms_of known)
    → form_in known lines ≡ Tree → IsFirstMark a b x y (lines + 1) (Ok mark) → ReadsOn r x y (λ taken said. IsMarkRead r (reading_at b (lines + 1) known true) y taken said (Ok mark))
first_read_at r a b x y lines known in_tree mark e whole within tree first =
    subst (λ s. ReadsOn s x y (λ taken said. IsMarkRead s (reading_at b (lines + 1) known true) y taken said (Ok mark))) (reading_is r a lines known in_tree false e whole)
    (first_read a b x y lines known mark within tree first)

-- where no first mark was given out, a reading that is given by its fields ends so
pub first_unread_at : (r : Reading) (a b : Held) (x y : Option (List ℕ)) (lines : ℕ) (known : Counts) (in_tree : Bool) (end : TextEnd) → reading_at a lines known in_tree ≡ r → r.in_tree ≡ false → taken_count b ≤ MOST_BYTES
    → lines < length (forms_of known) → form_in known lines ≡ Tree → IsFirstMark a b x y (lines + 1) (Err end) → ReadsOn r x y (λ taken said. IsEnd end y taken)
first_unread_at r a b x y lines known in_tree end e whole few within tree stop =
    subst (λ s. ReadsOn s x y (λ taken said. IsEnd end y taken)) (reading_is r a lines known in_tree false e whole) (first_unread a b x y lines known end few within tree stop)

-- the tree's place is one less than the lines
lines_back : (lines : ℕ) → 0 < lines → lines - 1 + 1 ≡ lines
lines_back lines some = omega arith

-- a reading within a tree that is given by its fields read one mark more
mark_read_at : (r : Reading) (a b : Held) (x y : Option (List ℕ)) (lines : ℕ) (known : Counts) (in_tree : Bool) (mark : ℕ) → reading_at a lines known in_tree ≡ r → r.in_tree ≡ true → EndsInTree lines known
    → IsNextMark a b x y lines (Ok (Some mark)) → ReadsOn r x y (λ taken said. IsTreeRead r (reading_at b lines known true) y taken said (Ok (Some mark)))
mark_read_at r a b x y lines known in_tree mark e within (some, tree) next =
    subst (λ s. ReadsOn s x y (λ taken said. IsTreeRead s (reading_at b lines known true) y taken said (Ok (Some mark)))) (reading_is r a lines known in_tree true e within)
    (subst (λ n. ReadsOn (reading_at a n known true) x y (λ taken said. IsTreeRead (reading_at a n known true) (reading_at b n known true) y taken said (Ok (Some mark)))) (lines_back lines some)
    (mark_read a b x y (lines - 1) known mark tree (subst (λ n. IsNextMark a b x y n (Ok (Some mark))) (sym (lines_back lines some)) next)))

-- a reading within a tree that is given by its fields read the LF after its marks
tree_closed_at : (r : Reading) (a b : Held) (x y : Option (List ℕ)) (lines : ℕ) (known : Counts) (in_tree : Bool) → reading_at a lines known in_tree ≡ r → r.in_tree ≡ true → EndsInTree lines known
    → IsNextMark a b x y lines (Ok None) → ReadsOn r x y (λ taken said. IsTreeRead r (reading_of b lines known) y taken said (Ok None))
tree_closed_at r a b x y lines known in_tree e within (some, tree) next =
    subst (λ s. ReadsOn s x y (λ taken said. IsTreeRead s (reading_of b lines known) y taken said (Ok None))) (reading_is r a lines known in_tree true e within)
    (subst (λ n. ReadsOn (reading_at a n known true) x y (λ taken said. IsTreeRead (reading_at a n known true) (reading_of b n known) y taken said (Ok None))) (lines_back lines some)
    (tree_closed a b x y (lines - 1) known tree (subst (λ n. IsNextMark a b x y n (Ok None)) (sym (lines_back lines some)) next)))

-- a reading within a tree that is given by its fields read on, and stays in the tree if that was a mark
pub next_read_at : (r : Reading) (a b : Held) (x y : Option (List ℕ)) (lines : ℕ) (known : Counts) (in_tree : Bool) (next : Option ℕ) → reading_at a lines known in_tree ≡ r → r.in_tree ≡ true → EndsInTree lines known
    → IsNextMark a b x y lines (Ok next) → ReadsOn r x y (λ taken said. IsTreeRead r (reading_at b lines known (is_some next)) y taken said (Ok next))
next_read_at r a b x y lines known in_tree (Some mark) e within tree read = mark_read_at r a b x y lines known in_tree mark e within tree read
next_read_at r a b x y lines known in_tree None e within tree read = tree_closed_at r a b x y lines known in_tree e within tree read

-- where the tree goes on otherwise, a reading that is given by its fields ends so
pub tree_unread_at : (r : Reading) (a b : Held) (x y : Option (List ℕ)) (lines : ℕ) (known : Counts) (in_tree : Bool) (end : TextEnd) → reading_at a lines known in_tree ≡ r → r.in_tree ≡ true → EndsInTree lines known
    → taken_count b ≤ MOST_BYTES → IsNextMark a b x y lines (Err end) → ReadsOn r x y (λ taken said. IsEnd end y taken)
tree_unread_at r a b x y lines known in_tree end e within (some, tree) few stop =
    subst (λ s. ReadsOn s x y (λ taken said. IsEnd end y taken)) (reading_is r a lines known in_tree true e within)
    (subst (λ n. ReadsOn (reading_at a n known true) x y (λ taken said. IsEnd end y taken)) (lines_back lines some)
    (tree_unread a b x y (lines - 1) known end few tree (subst (λ n. IsNextMark a b x y n (Err end)) (sym (lines_back lines some)) stop)))

-- a mark that was read is a piece
pub mark_piece : (a b : Reading) (x y : Option (List ℕ)) (mark : ℕ) → 0 < a.lines → ReadsOn a x y (λ taken said. IsTreeRead a b y taken said (Ok (Some mark))) → ReadsOn a x y (λ taken said. IsAnswer a b y taken said (Ok (Mark mark)))
mark_piece a b x y mark some p = goes_so a x y (λ taken said. IsTreeRead a b y taken said (Ok (Some mark))) (λ taken said. IsAnswer a b y taken said (Ok (Mark mark))) (λ taken said h. (some, h.0, h.1)) p

-- an answer stays one where the lines and counts before it are the same
answer_same : (a b c : Reading) (z : Option (List ℕ)) (taken : List ℕ) (said : List Said) (r : Result Piece TextEnd) → b.lines ≡ a.lines → b.counts ≡ a.counts → IsAnswer b c z taken said r → IsAnswer a c z taken said r
answer_same a b c z taken said (Ok (Kind kind)) lines counts h = (sym lines ∙ h.0, h.1, h.2, h.3)
answer_same a b c z taken said (Ok (Line numbers)) lines counts h =
    (subst (λ n. 0 < n) lines h.0, h.1 ∙ ap (λ n. n + 1) lines, subst (λ n. AgreeUpTo n a.counts c.counts) lines (subst (λ k. AgreeUpTo b.lines k c.counts) counts h.2), h.3)
answer_same a b c z taken said (Ok (Mark mark)) lines counts h = (subst (λ n. 0 < n) lines h.0, h.1 ∙ counts, h.2)
answer_same a b c z taken said (Ok Done) lines counts h = (ap (λ n. n + 1) (sym lines) ∙ h.0, subst (λ n. AgreeUpTo n a.counts c.counts) lines (subst (λ k. AgreeUpTo b.lines k c.counts) counts h.1), h.2, h.3, h.4)
answer_same a b c z taken said (Err end) lines counts h = h

-- what follows a tree whose line ended is an answer to the reading before it, too
pub answer_behind_tree : (a b c : Reading) (x y z : Option (List ℕ)) (r : Result Piece TextEnd) → b.lines ≡ a.lines → b.counts ≡ a.counts → ReadsOn a x y (λ taken said. IsTreeRead a b y taken said (Ok None))
    → ReadsOn b y z (λ taken said. IsAnswer b c z taken said r) → ReadsOn a x z (λ taken said. IsAnswer a c z taken said r)
answer_behind_tree a b c x y z r lines counts p q =
    goes_so a x z (λ taken said. IsAnswer b c z taken said r) (λ taken said. IsAnswer a c z taken said r) (λ taken said h. answer_same a b c z taken said r lines counts h)
    (goes_after a b x y z (λ said. said) (λ taken said. IsAnswer b c z taken said r) p q)
