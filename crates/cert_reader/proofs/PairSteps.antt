-- The text of a pair that is read line by line.
use Rattle.std.proofs.Common.{◌≡◌, ℕ, ◌≤◌, List, [], ◌∷◌, ◌++◌, length, map, take, arith, sym, ap, subst, length-take}
use Rattle.std.specs.Prelude.{Option, Ok, Err}
use Rattle.std.specs.Io.KnownBytes.{Consumes, IsAtEnd}
use Rattle.std.proofs.KnownBytes.{Consumes-trans}
use Rattle.std.proofs.lemmas.List.{length-map, map-append}
use Rattle.cert_reader.specs.declared.ends.TextEnd.{TextEnd}
use Rattle.cert_reader.specs.declared.forms.Counts.TheVariants.{Pair}
use Rattle.cert_reader.specs.declared.limits.TheConstants.{MOST_BYTES}
use Rattle.cert_reader.specs.declared.pair.PairText.{PairText}
use Rattle.cert_reader.specs.Forms.{Form, Pairs, forms_of}
use Rattle.cert_reader.specs.Gathered.{Gathered, line_said}
use Rattle.cert_reader.specs.Pairs.{IsReadPair, pair_said, pair_view}
use Rattle.cert_reader.specs.Reading.{ReadsOnIn, IsFinished, IsLineRead, IsReadOf, Reading}
use Rattle.cert_reader.specs.Text.{IsTextOf}
use Rattle.cert_reader.proofs.FormPlaces.{pairs_nine}
use Rattle.cert_reader.proofs.Fronts.{can_many}
use Rattle.cert_reader.proofs.Gathering.{Took}
use Rattle.cert_reader.proofs.HeadAndEnd.{end_said}
use Rattle.cert_reader.proofs.PairParts.{ended}

-- one line more was gathered
pub pair_line : (a b : Reading) (f x y : Option (List ℕ)) (taken : List ℕ) (lines : List Gathered) (line : Gathered) → Consumes f x taken → IsReadOf Pairs a taken (map line_said lines)
    → ReadsOnIn Pairs a x y (λ taken said. IsLineRead Pairs a b y taken said (Ok line)) → Took f y (λ all. IsReadOf Pairs b all (map line_said (lines ++ line ∷ [])))
pair_line a b f x y taken lines line before h (more, took, then) =
    (taken ++ more, Consumes-trans f x y taken more before took, subst (IsReadOf Pairs b (taken ++ more)) (sym (map-append line_said lines (line ∷ []))) (then taken (map line_said lines) h).2)

-- none was, and the reading ends
pub pair_end : (a b : Reading) (f x y : Option (List ℕ)) (taken : List ℕ) (lines : List Gathered) (end : TextEnd) → Consumes f x taken → IsReadOf Pairs a taken (map line_said lines)
    → ReadsOnIn Pairs a x y (λ taken said. IsLineRead Pairs a b y taken said (Err end)) → Took f y (λ all. IsReadPair y all (Err end))
pair_end a b f x y taken lines end before h (more, took, then) = (taken ++ more, Consumes-trans f x y taken more before took, then taken (map line_said lines) h)

-- something comes after the last line
pub pair_behind : (b c : Reading) (f y z : Option (List ℕ)) (lines : List Gathered) (end : TextEnd) → Took f y (λ all. IsReadOf Pairs b all (map line_said lines))
    → ReadsOnIn Pairs b y z (λ taken said. IsFinished Pairs c z taken said (Err end)) → Took f z (λ all. IsReadPair z all (Err end))
pair_behind b c f y z lines end (all, before, h) (more, took, then) = (all ++ more, Consumes-trans f y z all more before took, then all (map line_said lines) h)

-- all lines were read, and nothing follows them
pub pair_whole : (b c : Reading) (f y z : Option (List ℕ)) (goods : ℕ) (lines : List Gathered) (last : Gathered) → c.counts ≡ Pair goods → Took f y (λ all. IsReadOf Pairs b all (map line_said (lines ++ last ∷ [])))
    → ReadsOnIn Pairs b y z (λ taken said. IsFinished Pairs c z taken said (Ok tt)) → Took f z (λ all. IsTextOf Pairs all (Pair goods) (ended lines) × (length all ≤ MOST_BYTES) × IsAtEnd z)
pair_whole b c f y z goods lines last is (all, before, h) (more, took, then) =
    let end = then all (map line_said (lines ++ last ∷ [])) h in
    let text = subst (λ counts. IsTextOf Pairs (all ++ more) counts (map line_said (lines ++ last ∷ []))) is end.0 in
    let split = subst (IsTextOf Pairs (all ++ more) (Pair goods)) (map-append line_said lines (last ∷ [])) text in
    (all ++ more, Consumes-trans f y z all more before took, (subst (λ l. IsTextOf Pairs (all ++ more) (Pair goods) (map line_said lines ++ l ∷ [])) (end_said (Pair goods) (map line_said lines) (line_said last) split.fits) split, end.1, end.2))

-- the text says what the lines do
pub pair_read : (f z : Option (List ℕ)) (goods : ℕ) (lines : List Gathered) (text : PairText) → text.goods ≡ goods → pair_said (pair_view text) ≡ ended lines
    → Took f z (λ all. IsTextOf Pairs all (Pair goods) (ended lines) × (length all ≤ MOST_BYTES) × IsAtEnd z) → Took f z (λ all. IsReadPair z all (Ok text))
pair_read f z goods lines text e g (all, took, (is, few, end)) =
    (all, took, (subst (λ counts. IsTextOf Pairs all counts (pair_said (pair_view text))) (ap Pair (sym e)) (subst (IsTextOf Pairs all (Pair goods)) (sym g) is), few, end))

-- as many lines were gathered as were read, and fewer than nine are read where one is to come
pub pair_few : (reading : Reading) (taken : List ℕ) (lines : List Gathered) → IsReadOf Pairs reading taken (map line_said lines) → (length lines ≡ reading.lines) × (length (forms_of reading.counts) ≡ 9)
pair_few reading taken lines h =
    let many = can_many (take reading.lines (forms_of reading.counts)) (map line_said lines) h.begins.fits in
    let each : length (map line_said lines) ≡ length lines = length-map lines line_said in
    let within = h.begins.within in
    let cut = length-take {A = Form} reading.lines (forms_of reading.counts) in
    (omega (arith, many, each, within, cut), pairs_nine reading.counts h.begins.are_counts)
