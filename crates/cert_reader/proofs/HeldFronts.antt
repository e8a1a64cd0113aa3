-- What is held up to the next LF.
use Rattle.std.proofs.Common.{◌≡◌, ℕ, ◌+◌, ◌-◌, ◌<◌, ◌≤◌, List, ◌++◌, length, take, drop, arith, sym, ap, ◌∙◌, subst, Bool}
use Rattle.std.specs.Bool.{MatchBool}
use Rattle.std.proofs.lemmas.List.{drop-drop, drop-take, get_or-take, length-take, length-take-le, take-append-drop, take-take}
use Rattle.cert_reader.specs.Cuts.{IsFront}
use Rattle.cert_reader.specs.Stream.{Held, IsFrontKept}
use Rattle.cert_reader.specs.declared.limits.TheConstants.{LONGEST_LINE}

-- the bytes of a piece that are held, and those held when some of them were given out
abbrev part : List ℕ → ℕ → ℕ → List ℕ
part piece from to = take (to - from) (drop from piece)

pub front_of_held : (piece : List ℕ) (from to total count : ℕ) (old new : List ℕ) (kept : Bool) → from ≤ to → to - from ≤ total → IsFront 10 (take (to - from) (drop from piece)) count
    → MatchBool kept (new ≡ old ++ take count (drop from piece)) ((new ≡ old) × (LONGEST_LINE < length old + count))
    → IsFrontKept (record { ahead = take (to - from) (drop from piece); given = total - (to - from); line = old })
    (record { ahead = take (to - (from + count)) (drop (from + count) piece); given = total - (to - (from + count)); line = new }) kept
front_of_held piece from to total count old new kept order counted is line =
    let within = is.within in
    let room : count ≤ to - from = (let cut = length-take (to - from) (drop from piece) in omega arith) in
    let long : length (take count (part piece from to)) ≡ count = length-take-le count (part piece from to) is.within in
    let same : take count (part piece from to) ≡ take count (drop from piece) = take-take count (to - from) (drop from piece) room in
    let both : to - from ≡ count + (to - (from + count)) = omega arith in
    let rest : drop count (part piece from to) ≡ part piece (from + count) to =
    ap (λ n. drop count (take n (drop from piece))) both ∙ drop-take count (to - (from + count)) (drop from piece) ∙ ap (take (to - (from + count))) (drop-drop count from piece) in
    record {
      front = take count (part piece from to);
      plain = record { none = λ k low e. is.before k (let l = long in omega arith) (sym (get_or-take count (part piece from to) k 0 (let l = long in omega arith)) ∙ e) };
      seam = sym (take-append-drop count (part piece from to)) ∙ ap (λ xs. take count (part piece from to) ++ xs) rest;
      given = (let l = long in omega arith);
      line = subst (λ xs. MatchBool kept (new ≡ old ++ xs) ((new ≡ old) × (LONGEST_LINE < length old + length xs))) (sym same)
          (subst (λ n. MatchBool kept (new ≡ old ++ take count (drop from piece)) ((new ≡ old) × (LONGEST_LINE < length old + n))) (sym (ap length (sym same) ∙ long)) line);
    }

-- the same of a reader that is given by its fields
pub front_of_reader : (start : Held) (piece : List ℕ) (from to total count : ℕ) (old new : List ℕ) (kept : Bool) → record { ahead = take (to - from) (drop from piece); given = total - (to - from); line = old } ≡ start → from ≤ to → to - from ≤ total
    → IsFront 10 (take (to - from) (drop from piece)) count → MatchBool kept (new ≡ old ++ take count (drop from piece)) ((new ≡ old) × (LONGEST_LINE < length old + count))
    → IsFrontKept start (record { ahead = take (to - (from + count)) (drop (from + count) piece); given = total - (to - (from + count)); line = new }) kept
front_of_reader start piece from to total count old new kept is order counted front line =
    subst (λ before. IsFrontKept before (record { ahead = take (to - (from + count)) (drop (from + count) piece); given = total - (to - (from + count)); line = new }) kept) is (front_of_held piece from to total count old new kept order counted front line)
