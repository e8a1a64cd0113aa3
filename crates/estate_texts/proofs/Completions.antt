-- The first lines of the text of an estate are those of a text, in which the shortest lines follow.
use Rattle.std.proofs.Common.{◌≡◌, ℕ, ℤ, pos, zero, suc, ◌≤◌, List, [], ◌∷◌, ◌++◌, length, map, replicate, take, drop, arith, refl, sym, ap, ◌∙◌, append_assoc, append-nil, All, inl, inr}
use Rattle.std.proofs.lemmas.List.{length-replicate}
use Rattle.std.proofs.lemmas.List.Elements.{All-cons, All-nil, All-replicate}
use Rattle.cert_reader.specs.declared.forms.Word.TheVariants as word
use Rattle.cert_reader.specs.Numbers.{IsSmall}
use Rattle.estate_texts.specs.declared.forms.NumberForm.{NumberForm}
use Rattle.estate_texts.specs.Forms.{AreHeld, CanHold, body_forms, body_lines, numbers_between}
use Rattle.estate_texts.specs.Given.{CanGive, GivenLine, given_content}
use Rattle.estate_texts.specs.Lines.{IsEstateMark, marks_content, numbers_content}
use Rattle.estate_texts.specs.Texts.{CanSayEstate, EstateView, estate_lines, head_lines, last_lines}
use Rattle.estate_texts.proofs.Refusals.{Completes}

-- the fewest zeros
least_row : NumberForm → List ℤ
least_row form = replicate form.least (pos 0)

-- each form has room for its fewest numbers
AreWide : List NumberForm → Type 0
AreWide [] = Unit {0}
AreWide (f ∷ forms) = (f.least ≤ f.most) × AreWide forms

least_held : (form : NumberForm) → form.least ≤ form.most → CanHold form (least_row form)
unfolding least_row
least_held form low =
    let long : length (replicate form.least (pos 0)) ≡ form.least = length-replicate form.least (pos 0) in
    record { enough = omega arith; few = omega arith; small = All-replicate IsSmall form.least (pos 0) (omega arith) }

all_held : (forms : List NumberForm) → AreWide forms → AreHeld forms (map least_row forms)
unfolding AreWide
all_held [] w = tt
all_held (f ∷ forms) w = (least_held f w.0, all_held forms w.1)

-- lines of numbers that were read, and the shortest for the others
held_more : (forms : List NumberForm) (body : List (List ℤ)) → AreWide forms → AreHeld (take (length body) forms) body → AreHeld forms (body ++ map least_row (drop (length body) forms))
unfolding AreWide
held_more forms [] w h = all_held forms w
held_more [] (x ∷ body) w h = absurd h
held_more (f ∷ forms) (x ∷ body) w h = (h.0, held_more forms body w.1 h.1)

pub lines_more : (forms : List NumberForm) (body more : List (List ℤ)) → AreHeld (take (length body) forms) body
    → body_lines forms (body ++ more) ≡ body_lines forms body ++ body_lines (drop (length body) forms) more
lines_more [] [] more h = refl
lines_more (f ∷ forms) [] more h = refl
lines_more [] (x ∷ body) more h = absurd h
lines_more (f ∷ forms) (x ∷ body) more h = ap (λ ls. numbers_content f.word x ∷ ls) (lines_more forms body more h.1)

wide-append : (forms others : List NumberForm) → AreWide forms → AreWide others → AreWide (forms ++ others)
unfolding AreWide
wide-append [] others a b = b
wide-append (f ∷ forms) others a b = (a.0, wide-append forms others a.1 b)

wide-replicate : (n : ℕ) (f : NumberForm) → f.least ≤ f.most → AreWide (replicate n f)
unfolding AreWide
wide-replicate zero f low = tt
wide-replicate (suc n) f low = (low, wide-replicate n f low)

wide_forms : (n g : ℕ) → AreWide (body_forms n g)
unfolding AreWide
wide_forms n g = (
  omega arith,
  (
    omega arith,
    wide-append (replicate n (numbers_between word.Values g g)) (numbers_between word.Owners g g ∷ numbers_between word.Steps 1 1 ∷ numbers_between word.Short 0 n ∷ [])
        (wide-replicate n (numbers_between word.Values g g) (omega arith)) (omega arith, (omega arith, (omega arith, tt))),
  ),
)

-- what a text says with these counts, these lines of numbers and of weights, and the shortest tree
filled : ℕ → ℕ → List (List ℤ) → List GivenLine → List ℕ → EstateView
filled n g body given marks = record { players = n; goods = g; body = body; given = given; marks = marks }

one_mark : (n : ℕ) → All (IsEstateMark n) (45 ∷ [])
one_mark n = All-cons (IsEstateMark n) 45 [] (inr (inl refl)) (All-nil (IsEstateMark n))

-- a text with these counts
pub record Counted (n g : ℕ) : Type 0 where
  pub players : (1 ≤ n) × (n ≤ 12)
  pub goods : (1 ≤ g) × (g ≤ 24)

-- the first four lines, as far as they were read
start : (n g : ℕ) → EstateView
start n g = filled n g (map least_row (body_forms n g)) [] (45 ∷ [])

start_can : (n g : ℕ) → Counted n g → CanSayEstate (start n g)
unfolding start filled
start_can n g c = record {
  players = c.players;
  goods = c.goods;
  body = all_held (body_forms n g) (wide_forms n g);
  given = All-nil (CanGive n);
  some = omega arith;
  marks = one_mark n;
}

start_lines : (n g : ℕ) → (more : List (List ℕ)) × (estate_lines (start n g) ≡ head_lines n g ++ more)
unfolding start filled
start_lines n g = (_, refl)

pub completes_none : Completes []
completes_none = record { view = start 1 1; can = start_can 1 1 (record { players = (omega arith, omega arith); goods = (omega arith, omega arith) }); more = estate_lines (start 1 1); lines = refl }

pub completes_version : Completes (numbers_content word.Fairsplit (pos 2 ∷ []) ∷ [])
completes_version =
    let s = start_lines 1 1 in
    record {
      view = start 1 1;
      can = start_can 1 1 (record { players = (omega arith, omega arith); goods = (omega arith, omega arith) });
      more = numbers_content word.KindGoods [] ∷ numbers_content word.Players (pos 1 ∷ []) ∷ numbers_content word.Goods (pos 1 ∷ []) ∷ s.0;
      lines = s.1;
    }

pub completes_kind : Completes (numbers_content word.Fairsplit (pos 2 ∷ []) ∷ numbers_content word.KindGoods [] ∷ [])
completes_kind =
    let s = start_lines 1 1 in
    record {
      view = start 1 1;
      can = start_can 1 1 (record { players = (omega arith, omega arith); goods = (omega arith, omega arith) });
      more = numbers_content word.Players (pos 1 ∷ []) ∷ numbers_content word.Goods (pos 1 ∷ []) ∷ s.0;
      lines = s.1;
    }

pub completes_players : (n : ℕ) → 1 ≤ n → n ≤ 12 → Completes (numbers_content word.Fairsplit (pos 2 ∷ []) ∷ numbers_content word.KindGoods [] ∷ numbers_content word.Players (pos n ∷ []) ∷ [])
completes_players n some few =
    let s = start_lines n 1 in
    record {
      view = start n 1;
      can = start_can n 1 (record { players = (some, few); goods = (omega arith, omega arith) });
      more = numbers_content word.Goods (pos 1 ∷ []) ∷ s.0;
      lines = s.1;
    }

-- the lines of numbers, as far as they were read
pub completes_body : (n g : ℕ) (body : List (List ℤ)) → Counted n g → AreHeld (take (length body) (body_forms n g)) body → Completes (head_lines n g ++ body_lines (body_forms n g) body)
unfolding filled
completes_body n g body c h =
    let forms : List NumberForm = body_forms n g in
    let left : List (List ℤ) = map least_row (drop (length body) forms) in
    let late : List (List ℕ) = body_lines (drop (length body) forms) left in
    record {
      view = filled n g (body ++ left) [] (45 ∷ []);
      can = record {
        players = c.players;
        goods = c.goods;
        body = held_more forms body (wide_forms n g) h;
        given = All-nil (CanGive n);
        some = omega arith;
        marks = one_mark n;
      };
      more = late ++ last_lines [] (45 ∷ []);
      lines = ap (λ ls. head_lines n g ++ (ls ++ last_lines [] (45 ∷ []))) (lines_more forms body left h)
          ∙ ap (λ ls. head_lines n g ++ ls) (append_assoc (body_lines forms body) late (last_lines [] (45 ∷ [])))
          ∙ sym (append_assoc (head_lines n g) (body_lines forms body) (late ++ last_lines [] (45 ∷ [])));
    }

-- and the lines of weights and prices
pub completes_given : (n g : ℕ) (body : List (List ℤ)) (given : List GivenLine) → Counted n g → AreHeld (body_forms n g) body → All (CanGive n) given
    → Completes (head_lines n g ++ (body_lines (body_forms n g) body ++ map given_content given))
unfolding filled
completes_given n g body given c h each =
    let forms : List NumberForm = body_forms n g in
    let late : List (List ℕ) = marks_content (45 ∷ []) ∷ numbers_content word.End [] ∷ [] in
    record {
      view = filled n g body given (45 ∷ []);
      can = record { players = c.players; goods = c.goods; body = h; given = each; some = omega arith; marks = one_mark n };
      more = late;
      lines = ap (λ ls. head_lines n g ++ ls) (sym (append_assoc (body_lines forms body) (map given_content given) late))
          ∙ sym (append_assoc (head_lines n g) (body_lines forms body ++ map given_content given) late);
    }

-- and the tree
pub completes_tree : (n g : ℕ) (body : List (List ℤ)) (given : List GivenLine) (marks : List ℕ) → Counted n g → AreHeld (body_forms n g) body → All (CanGive n) given → 1 ≤ length marks
    → All (IsEstateMark n) marks → Completes (head_lines n g ++ (body_lines (body_forms n g) body ++ (map given_content given ++ marks_content marks ∷ [])))
unfolding filled
completes_tree n g body given marks c h each some are =
    let forms : List NumberForm = body_forms n g in
    let tree : List (List ℕ) = marks_content marks ∷ [] in
    let late : List (List ℕ) = numbers_content word.End [] ∷ [] in
    record {
      view = filled n g body given marks;
      can = record { players = c.players; goods = c.goods; body = h; given = each; some = some; marks = are };
      more = late;
      lines = ap (λ ls. head_lines n g ++ (body_lines forms body ++ ls)) (sym (append_assoc (map given_content given) tree late))
          ∙ ap (λ ls. head_lines n g ++ ls) (sym (append_assoc (body_lines forms body) (map given_content given ++ tree) late))
          ∙ sym (append_assoc (head_lines n g) (body_lines forms body ++ (map given_content given ++ tree)) late);
    }

-- and all lines
pub completes_all : (view : EstateView) → CanSayEstate view → Completes (estate_lines view)
completes_all view can = record { view = view; can = can; more = []; lines = sym (append-nil (estate_lines view)) }
