-- What is known of the calls of an object that hands out links and takes them back, if it reveals
-- the links.
use Rattle.std.specs.Prelude.{◌≡◌, ℕ, ⊤, List, [], ◌∷◌, ◌++◌, MatchOption, MatchResult, Option, None, Some, Result, Ok, Err}

-- the first link to come was handed out, or none if there is none; a failed call hands out none
abbrev pub Accepts : {L E : Type 0} → Option (List L) → Option (List L) → Result (Option L) E → Type 0
Accepts None new result = ⊤
Accepts (Some links) new result =
    MatchResult result
    (λ next. MatchOption next ((links ≡ []) × (new ≡ Some [])) (λ link. (rest : List _) × (links ≡ link ∷ rest) × (new ≡ Some rest)))
    (λ _. new ≡ Some links)

-- how many links the call handed out
abbrev pub handed_out : {L E : Type 0} → Result (Option L) E → ℕ
handed_out (Ok None) = 0
handed_out (Ok (Some link)) = 1
handed_out (Err error) = 0

-- the call answered that there are no more links
abbrev pub AnswersNone : {L E : Type 0} → Result (Option L) E → Type 0
AnswersNone (Ok None) = ⊤
AnswersNone (Ok (Some link)) = ⊥
AnswersNone (Err error) = ⊥

-- the first link to come was given, and a failed call gives none
abbrev pub Dials : {L E : Type 0} → Option (List L) → Option (List L) → Result L E → Type 0
Dials None new result = ⊤
Dials (Some links) new result = MatchResult result (λ link. (rest : List _) × (links ≡ link ∷ rest) × (new ≡ Some rest)) (λ _. new ≡ Some links)

-- the link was given back
abbrev pub TakesBack : {L : Type 0} → Option (List L) → Option (List L) → L → Type 0
TakesBack None new link = ⊤
TakesBack (Some links) new link = new ≡ Some (links ++ link ∷ [])
