-- One cut, one reply.
use Rattle.std.proofs.Common.{◌≡◌, ℕ, ◌<◌, List, [], ◌∷◌, ◌++◌, length, Option, None, Some, refl, sym, ap, ◌∙◌, subst, arith, length-append, codes}
use Rattle.httparse.specs.Grammar.{RequestHead, print_request}
use Rattle.httparse.proofs.GrammarLemmas.{request_unique, print_request-append}
use Rattle.httpdate.specs.Text.{imf_fixdate}
use Rattle.httpdate.proofs.Theorems.{unix_secs_injective}
use Rattle.split_http.specs.declared.bodies.BodyTurn.{BodyTurn}
use Rattle.split_http.specs.declared.bodies.BodyTurn.TheVariants as bodies
use Rattle.split_http.specs.declared.head.Head.{Head}
use Rattle.split_http.specs.declared.heads.HeadTurn.{HeadTurn}
use Rattle.split_http.specs.declared.heads.HeadTurn.TheVariants as turns
use Rattle.split_http.specs.declared.replies.HttpReply.{HttpReply}
use Rattle.split_http.specs.Heads.{IsHead, HeadText, IsHeadOf, text_of}
use Rattle.split_http.specs.Paths.{IsPathOf}
use Rattle.split_http.specs.Replies.{IsReply, IsDateLine, reply_with}
use Rattle.split_http.specs.Turns.{HeadSays, BodySays, IsHeadDone, IsBodyDone, IsSameBody}
use Rattle.split_http.proofs.PathLemmas.{same_path}

-- where the same bytes begin with two heads, the heads are equal
pub one_head : (a b : RequestHead) (r q : List ℕ) → IsHead a → IsHead b → print_request a ++ r ≡ print_request b ++ q → (a ≡ b) × (r ≡ q)
one_head a b r q x y is = request_unique (print_request a ++ r) a b r q (x.valid, refl) (y.valid, is)

-- a target has one path
one_path : (target : List ℕ) (a b : Option (List ℕ)) → IsPathOf target a → IsPathOf target b → a ≡ b
one_path target None None p q = refl
one_path target None (Some b) p q = absurd (p b q)
one_path target (Some a) None p q = absurd (q a p)
one_path target (Some a) (Some b) (u, spells, is, some) (v, spelled, was, more) = ap Some (is ∙ same_path target u v spells spelled ∙ sym was)

-- a head says one thing
one_saying : (text : HeadText) (a b : Head) → IsHeadOf text a → IsHeadOf text b → a ≡ b
one_saying text a b p q =
    let verb : a.verb ≡ b.verb = p.verb ∙ sym q.verb in
    let path : a.path ≡ b.path = one_path text.target a.path b.path p.path q.path in
    let key : a.key ≡ b.key = p.key ∙ sym q.key in
    let refused : a.refused ≡ b.refused = p.refused ∙ sym q.refused in
    let count : a.length ≡ b.length = p.body ∙ sym q.body in
    let expects : a.expects ≡ b.expects = p.expects ∙ sym q.expects in
    let closes : a.closes ≡ b.closes = p.closes ∙ sym q.closes in
    rw (verb, path, key, refused, count, expects, closes) refl

-- a head isn't empty
some_head : (h : RequestHead) (rest : List ℕ) → IsHead h → [] ≡ print_request h ++ rest → ⊥
some_head h rest head is =
    let size = ap length (is ∙ print_request-append h rest) in
    let method : 0 < length h.method = head.valid.method.0 in
    omega (arith, size, method, length-append {A = ℕ})

-- one turn where a head would begin
pub one_turn : (all rest other : List ℕ) (t u : HeadTurn) → HeadSays (Some all) (Some rest) t → HeadSays (Some all) (Some other) u
    → IsHeadDone t → IsHeadDone u → (t ≡ u) × (rest ≡ other)
one_turn all rest other (turns.Head a) (turns.Head b) (h, x, says, is) (k, y, said, was) d e =
    let same = one_head h k rest other x y (sym is ∙ was) in
    (ap turns.Head (one_saying (text_of h) a b says (subst (λ z. IsHeadOf (text_of z) b) (sym same.0) said)), same.1)
one_turn all rest other (turns.Head a) turns.BadHead (h, x, says, is) (kept, (bytes, told, bad)) d e = absurd (bad.1 h rest x (told ∙ is))
one_turn all rest other (turns.Head a) turns.End (h, x, says, is) (kept, told) d e = absurd (some_head h rest x (told ∙ is))
one_turn all rest other turns.BadHead (turns.Head b) (kept, (bytes, told, bad)) (k, y, said, was) d e = absurd (bad.1 k other y (told ∙ was))
one_turn all rest other turns.BadHead turns.BadHead (kept, x) (keeps, y) d e = (refl, kept ∙ sym keeps)
one_turn all rest other turns.BadHead turns.End (kept, (bytes, told, bad)) (keeps, none) d e = absurd (omega (arith, bad.0, ap length told, ap length none))
one_turn all rest other turns.End (turns.Head b) (kept, told) (k, y, said, was) d e = absurd (some_head k other y (told ∙ was))
one_turn all rest other turns.End turns.BadHead (keeps, none) (kept, (bytes, told, bad)) d e = absurd (omega (arith, bad.0, ap length told, ap length none))
one_turn all rest other turns.End turns.End (kept, x) (keeps, y) d e = (refl, kept ∙ sym keeps)
one_turn all rest other (turns.Head a) turns.LinkFault x y d e = absurd e
one_turn all rest other (turns.Head a) (turns.NoMemory verb) x y d e = absurd e
one_turn all rest other turns.BadHead turns.LinkFault x y d e = absurd e
one_turn all rest other turns.BadHead (turns.NoMemory verb) x y d e = absurd e
one_turn all rest other turns.End turns.LinkFault x y d e = absurd e
one_turn all rest other turns.End (turns.NoMemory verb) x y d e = absurd e
one_turn all rest other turns.LinkFault u x y d e = absurd d
one_turn all rest other (turns.NoMemory verb) u x y d e = absurd d

-- equal first parts of one list
same_front : (xs ys r q : List ℕ) → length xs ≡ length ys → xs ++ r ≡ ys ++ q → (xs ≡ ys) × (r ≡ q)
same_front [] [] r q size is = (refl, is)
same_front [] (y ∷ ys) r q size is = absurd (omega (arith, size))
same_front (x ∷ xs) [] r q size is = absurd (omega (arith, size))
same_front (x ∷ xs) (y ∷ ys) r q size is =
    let tail : length xs ≡ length ys = omega (arith, size) in
    let first : x ≡ y = cc in
    let more : xs ++ r ≡ ys ++ q = cc in
    let same = same_front xs ys r q tail more in
    (rw (first, same.0) refl, same.1)

-- one turn where a body would be
pub one_body : (all rest other : List ℕ) (before now then : Option (List ℕ)) (head : Head) (t u : BodyTurn)
    → BodySays (Some all) (Some rest) before now head t → BodySays (Some all) (Some other) before then head u
    → IsBodyDone t → IsBodyDone u → IsSameBody t u × (rest ≡ other)
one_body all rest other before now then head (bodies.Body a) (bodies.Body b) (x, size, is, w) (y, sized, was, v) d e =
    same_front a.items b.items rest other (size ∙ sym sized) (sym is ∙ was)
one_body all rest other before now then head (bodies.Body a) (bodies.Refused row) (x, size, is, w) (y, kept, v) d e = absurd cc
one_body all rest other before now then head (bodies.Body a) bodies.Cut (x, size, is, w) (y, (bytes, told, few, end), v) d e =
    absurd (omega (arith, size, few, ap length told, ap length is, length-append a.items rest))
one_body all rest other before now then head (bodies.Refused row) (bodies.Body b) (y, kept, v) (x, size, is, w) d e = absurd cc
one_body all rest other before now then head (bodies.Refused row) (bodies.Refused another) (x, kept, w) (y, keeps, v) d e = (cc, kept ∙ sym keeps)
one_body all rest other before now then head (bodies.Refused row) bodies.Cut (x, kept, w) (y, cut, v) d e = absurd cc
one_body all rest other before now then head bodies.Cut (bodies.Body b) (y, (bytes, told, few, end), v) (x, size, is, w) d e =
    absurd (omega (arith, size, few, ap length told, ap length is, length-append b.items other))
one_body all rest other before now then head bodies.Cut (bodies.Refused row) (y, cut, v) (x, kept, w) d e = absurd cc
one_body all rest other before now then head bodies.Cut bodies.Cut (y, (bytes, told, few, end), v) (z, (others, tells, less, ends), w) d e = (tt, end ∙ sym ends)
one_body all rest other before now then head (bodies.Body a) bodies.LinkFault x y d e = absurd e
one_body all rest other before now then head (bodies.Body a) bodies.NoMemory x y d e = absurd e
one_body all rest other before now then head (bodies.Refused row) bodies.LinkFault x y d e = absurd e
one_body all rest other before now then head (bodies.Refused row) bodies.NoMemory x y d e = absurd e
one_body all rest other before now then head bodies.Cut bodies.LinkFault x y d e = absurd e
one_body all rest other before now then head bodies.Cut bodies.NoMemory x y d e = absurd e
one_body all rest other before now then head bodies.LinkFault u x y d e = absurd d
one_body all rest other before now then head bodies.NoMemory u x y d e = absurd d

-- a moment has one line
one_line : (moment : Option ℕ) (a b : List ℕ) → IsDateLine moment a → IsDateLine moment b → a ≡ b
one_line None a b p q = p ∙ sym q
one_line (Some moment) a b (d, at, is) (e, was, says) =
    let same = unix_secs_injective d e (at ∙ sym was) in
    is ∙ ap (λ parts. codes "Date: " ++ imf_fixdate parts ++ codes "\r\n") same ∙ sym says

-- a reply has one text
pub one_reply : (reply : HttpReply) (a b : List ℕ) → IsReply reply a → IsReply reply b → a ≡ b
one_reply reply a b (line, date, is) (other, dated, was) = is ∙ ap (λ z. reply_with z reply) (one_line reply.moment line other date dated) ∙ sym was
