-- The router finds where a path leads.
use Rattle.std.proofs.Common.{◌≡◌, ℕ, zero, suc, ◌+◌, ◌-◌, ◌<◌, ◌==◌, ◌⊎◌, inl, inr, nat_eq, List, [], ◌∷◌, ◌++◌, length, map, drop, get_or, Some, None, Bool, true, false, cond, refl, sym, ap, ◌∙◌, arith, codes, lit<, drop-cons, length-drop, get_or-drop, if◌then◌else◌}
use Rattle.std.proofs.lemmas.Bool.Decides.{nat_tests}
use Rattle.std.specs.List.{starts_with}
use Rattle.matchit.specs.Rows.{Rows, Seen, prepend, ends, rows, rows_of, param_token}
use Rattle.matchit.specs.Seek.{seek, first, segment, cuts, param_step, longest_suffix, after_param}
use Rattle.matchit.specs.Level.{IsText, AllSegment, AreSuffixes}
use Rattle.matchit.specs.Router.{RouteOf, rename, map_key}
use Rattle.matchit.proofs.SeekLemmas.{first-prefix}
use Rattle.matchit.proofs.ParamLemmas.{drop-length, after_param-end, after_param-stop, after_param-kid}
use Rattle.matchit.proofs.LongestLemmas.{longest-kid}
use Rattle.matchit.proofs.RenameLemmas.{first-rename}
use Rattle.split_http.specs.Places.{Endpoint, creation, tails, id_len, endpoint_in, endpoint_after_slash, endpoint_after_word, endpoint_of}
use Rattle.split_http.specs.Rows.{route_rows}
use Rattle.split_http.proofs.LiteralSeek.{AreTexts, AreTexts-test, IsText-test, first-texts, seek-empty, param_step-empty, or_else-none}
use Rattle.split_http.proofs.Segments.{SlashAt, NoSlash, slash_or_none, cuts_with, cuts_empty, cuts_none, segment-len}

-- the routes after the id and a slash, by number
abbrev numbered_from : ℕ → List (List ℕ × Endpoint) → Rows
numbered_from n [] = []
numbered_from n (([], endpoint) ∷ rest) = numbered_from (suc n) rest
numbered_from n ((b ∷ word, endpoint) ∷ rest) = (word, n) ∷ numbered_from (suc n) rest

abbrev words : Rows
words = numbered_from 0 tails

-- the number of the route that ends with the id
abbrev last : ℕ
last = length words

-- the slash after an id, and those words after it
abbrev node : Seen
node = record { prefix = 47 ∷ []; tails = words; height = 1 }

-- it is the only one
abbrev nodes : List Seen
nodes = node ∷ []

-- the routes after `/instances/`, from the id on
abbrev id_rows : Rows
id_rows = rows_of nodes ++ ends (Some last)

-- the routes after the slash that follows `/instances`
abbrev slash_rows : Rows
slash_rows = prepend (param_token ∷ []) id_rows

-- the routes after `/instances`
abbrev word_rows : Rows
word_rows = prepend (47 ∷ []) slash_rows ++ ends (Some (suc last))

-- all routes, by number
abbrev all_rows : Rows
all_rows = prepend (codes "/instances") word_rows

-- where a number leads
abbrev numbered : ℕ → Endpoint
numbered n = get_or (map (λ (tail : List ℕ × Endpoint). tail.1) tails) n creation

-- where a route leads
abbrev pub endpoint_value : RouteOf Endpoint → Endpoint
endpoint_value route = route.value

-- these are the rows of the router
same_rows : rename endpoint_value route_rows ≡ rename numbered all_rows
same_rows = refl

-- each of them begins with the slash
slashed : (rs : Rows) → AllSegment (47 ∷ []) (prepend (47 ∷ []) rs)
slashed [] = tt
slashed ((word, n) ∷ rest) = (refl, slashed rest)

-- the slash and its words are such rows as the lemmas on parameters ask for
suffixes : AreSuffixes nodes
suffixes = (record { some_prefix = lit< tt; some_rows = lit< tt; all_segment = slashed words }, tt, tt)

-- the longest suffix of a segment is the slash, where the slash cuts it
longest : (seg : List ℕ) → longest_suffix seg (rows_of nodes) ≡ cond (cuts seg (47 ∷ [])) (47 ∷ []) []
longest seg = longest-kid seg [] (47 ∷ []) (rows_of nodes) (slashed words) (lit< tt)

-- the words are bytes alone
word_texts : AreTexts (rename numbered (rows node))
word_texts = AreTexts-test (rename numbered (rows node)) refl

-- after an id the router looks the tail up
tail_place : (b : ℕ) (rest : List ℕ) → map_key numbered (first (rows node) (b ∷ rest)) ≡ endpoint_in tails (b ∷ rest)
tail_place b rest = sym (first-rename numbered (rows node) (b ∷ rest)) ∙ first-texts (b ∷ rest) (rename numbered (rows node)) word_texts

-- where that leads, by the length of the id
place_at : (rest : List ℕ) (n : ℕ) → id_len rest ≡ n → endpoint_after_slash rest ≡ (if n == 0 then None else endpoint_in tails (drop n rest))
place_at rest n e = ap (λ m. if m == 0 then None else endpoint_in tails (drop m rest)) e

-- a number that is not 0 fails the test for 0
nonzero : (n : ℕ) → (n ≡ 0 → ⊥) → (n == 0) ≡ false
nonzero n h = grind (arith, nat_tests)

-- a number that is not above 0 is 0
zero_from : (n : ℕ) → (0 < n → ⊥) → n ≡ 0
zero_from zero h = refl
zero_from (suc n) h = absurd (h (omega arith))

-- no test is both true and false
clash : (v : Bool) → v ≡ true → v ≡ false → ⊥
clash v a b = cc

-- after the id's start
id_place : (c : ℕ) (q : List ℕ) → map_key numbered (after_param id_rows (c ∷ q)) ≡ endpoint_after_slash (c ∷ q)
id_place c q = by (slash_or_none (c ∷ q)) (cuts (segment (c ∷ q)) (47 ∷ [])) refl
  where
    by : SlashAt (c ∷ q) ⊎ NoSlash (c ∷ q) → (v : Bool) → cuts (segment (c ∷ q)) (47 ∷ []) ≡ v
        → map_key numbered (after_param id_rows (c ∷ q)) ≡ endpoint_after_slash (c ∷ q)
    by (inr s) v e =
        let none = cuts_none (c ∷ q) s in
        let found = after_param-end nodes (Some last) c q suffixes (longest (segment (c ∷ q)) ∙ ap (λ v. cond v (47 ∷ []) []) none) s.slash in
        let some : (length (c ∷ q) == 0) ≡ false = nonzero _ (λ z. omega arith) in
        let past : drop (length (c ∷ q)) (c ∷ q) ≡ [] = drop-length (c ∷ q) in
        ap (map_key numbered) found
        ∙ sym (place_at (c ∷ q) (length (c ∷ q)) s.all ∙ ap (λ v. if v then None else endpoint_in tails (drop (length (c ∷ q)) (c ∷ q))) some ∙ ap (endpoint_in tails) past)
    by (inl s) true e =
        let n = id_len (c ∷ q) in
        let found = after_param-kid nodes 0 node (Some last) c q suffixes (lit< tt) (sym (longest (segment (c ∷ q)) ∙ ap (λ v. cond v (47 ∷ []) []) e)) in
        let size : length (segment (c ∷ q)) - 1 ≡ n = omega (arith, segment-len (c ∷ q) s) in
        let rest : drop n (c ∷ q) ≡ get_or (c ∷ q) n 0 ∷ drop (suc n) (c ∷ q) = drop-cons (c ∷ q) n 0 s.within in
        let some : (n == 0) ≡ false = nonzero n (λ z. clash _ e (cuts_empty (c ∷ q) s z)) in
        let place : endpoint_after_slash (c ∷ q) ≡ endpoint_in tails (drop n (c ∷ q)) =
        place_at (c ∷ q) n refl ∙ ap (λ v. if v then None else endpoint_in tails (drop n (c ∷ q))) some in
        ap (map_key numbered) (found ∙ ap (λ k. first (rows node) (drop k (c ∷ q))) size ∙ ap (first (rows node)) rest)
        ∙ tail_place (get_or (c ∷ q) n 0) (drop (suc n) (c ∷ q))
        ∙ ap (endpoint_in tails) (sym rest) ∙ sym place
    by (inl s) false e =
        let none : id_len (c ∷ q) ≡ 0 = zero_from _ (λ l. clash _ (cuts_with (c ∷ q) s l) e) in
        let found = after_param-stop nodes (Some last) c q (longest (segment (c ∷ q)) ∙ ap (λ v. cond v (47 ∷ []) []) e) s.slash in
        ap (map_key numbered) found ∙ sym (place_at (c ∷ q) 0 none)

-- after the slash that follows `/instances` the router finds what is defined
slash_place : (p : List ℕ) → (0 < length p → get_or p 0 0 < 256) → map_key numbered (first slash_rows p) ≡ endpoint_after_slash p
unfolding seek
slash_place [] small = refl
slash_place (c ∷ q) small =
    let low : c < 256 = small (omega arith) in
    let other : (256 == c) ≡ false = grind (arith, nat_tests) in
    rw other (simp (seek-empty {K = ℕ} 0 q, or_else-none {K = ℕ}) (id_place c q))

-- so it does after `/instances`
word_place : (p : List ℕ) → ((i : ℕ) → i < length p → get_or p i 0 < 256) → map_key numbered (first word_rows p) ≡ endpoint_after_word p
unfolding seek
word_place [] bytes = refl
word_place (b ∷ p) bytes = by (47 == b) refl
  where
    by : (v : Bool) → (47 == b) ≡ v → map_key numbered (first word_rows (b ∷ p)) ≡ (if v then endpoint_after_slash p else None)
    by true e =
        rw e (simp (param_step-empty {K = ℕ} (b ∷ p), seek-empty {K = ℕ} ((param_step {K = ℕ} [] (b ∷ p)).0 - 1) p, or_else-none {K = ℕ})
        (slash_place p (λ l. bytes 1 (omega arith))))
    by false e =
        rw e (simp (param_step-empty {K = ℕ} (b ∷ p), seek-empty {K = ℕ} 0 p, seek-empty {K = ℕ} ((param_step {K = ℕ} [] (b ∷ p)).0 - 1) p))

-- `/instances` is bytes alone
word_text : IsText (codes "/instances")
word_text = IsText-test (codes "/instances") refl

-- the router finds where the path leads
pub endpoint_found : (path : List ℕ) → ((i : ℕ) → i < length path → get_or path i 0 < 256) → map_key endpoint_value (first route_rows path) ≡ endpoint_of path
endpoint_found path bytes =
    sym (first-rename endpoint_value route_rows path)
    ∙ ap (λ r. first r path) same_rows
    ∙ first-rename numbered all_rows path
    ∙ ap (map_key numbered) (first-prefix (codes "/instances") word_rows path word_text)
    ∙ by (starts_with nat_eq path (codes "/instances"))
  where
    by : (v : Bool) → map_key numbered (cond v (first word_rows (drop 10 path)) None) ≡ (if v then endpoint_after_word (drop 10 path) else None)
    by true = word_place (drop 10 path) (λ i l. rw get_or-drop (bytes (10 + i) (omega (arith, length-drop 10 path))))
    by false = refl
