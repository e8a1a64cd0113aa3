-- One more link of a port.
use Rattle.std.proofs.Common.{◌≡◌, ◌⊎◌, ℕ, ◌+◌, ◌-◌, ◌<◌, List, [], ◌∷◌, ◌++◌, length, map, take, Option, None, Some, Ok, Err, Result, refl, sym, ap, ◌∙◌, subst, append_assoc, append-nil, length-append, inl, inr, zero, suc, le_of_suc-le-suc, not-suc-le-zero, zero-lt-suc}
use Rattle.std.proofs.Math.Nat.{le_of_sub-eq-zero, sub-pos_iff_lt}
use Rattle.std.proofs.Math.Seq.{take-nil}
use Rattle.std.proofs.lemmas.List.{length-map, take-append-le}
use Rattle.split_base.specs.Clocks.{ClockRun}
use Rattle.split_base.specs.Ports.{Accepts, TakesBack}
use Rattle.serving.proofs.Going.{clock_trans}
use Rattle.serving.specs.Ports.{GivesBack, HandsOut, LinkGone, LinkServed, PortRun, PortServed}
use Rattle.serving.specs.Runs.{Service}
use Rattle.serving.specs.Served.{LinkTells}

map_last : {A B : Type 0} (f : A → B) (xs : List A) (x : A) → map f (xs ++ x ∷ []) ≡ map f xs ++ f x ∷ []
map_last f [] x = refl
map_last f (y ∷ ys) x = ap (λ l. f y ∷ l) (map_last f ys x)

hands_one : {L E : Type 0} (a b c : Option (List L)) (begun : List L) (link : L) (r : Result (Option L) E) → HandsOut a begun b → Accepts b c r → r ≡ Ok (Some link)
    → HandsOut a (begun ++ link ∷ []) c
hands_one None b c begun link r p q e = tt
hands_one {L} {E} (Some xs) b c begun link r p q e =
    let one : Accepts {L = L} {E = E} (Some p.0) c (Ok (Some link)) = subst (λ z. Accepts (Some p.0) c z) e (subst (λ z. Accepts z c r) p.2 q) in
    (one.0, p.1 ∙ ap (λ z. begun ++ z) one.1 ∙ sym (append_assoc begun (link ∷ []) one.0), one.2)

pub hands_none : {L E : Type 0} (a b c : Option (List L)) (begun : List L) (r : Result (Option L) E) → HandsOut a begun b → Accepts b c r
    → (r ≡ Ok None) ⊎ ((e : E) × (r ≡ Err e)) → HandsOut a begun c
hands_none None b c begun r p q e = tt
hands_none {L} {E} (Some xs) b c begun r p q (inl e) =
    let none : Accepts {L = L} {E = E} (Some p.0) c (Ok None) = subst (λ z. Accepts (Some p.0) c z) e (subst (λ z. Accepts z c r) p.2 q) in
    (p.0, p.1, none.1 ∙ ap Some (sym none.0))
hands_none {L} {E} (Some xs) b c begun r p q (inr e) =
    let err : Accepts {L = L} {E = E} (Some p.0) c (Err e.0) = subst (λ z. Accepts (Some p.0) c z) e.1 (subst (λ z. Accepts z c r) p.2 q) in
    (p.0, p.1, err)

gives_one : {L : Type 0} (a b c : Option (List L)) (ended : List L) (link : L) → GivesBack a ended b → TakesBack b c link → GivesBack a (ended ++ link ∷ []) c
gives_one None b c ended link p q = tt
gives_one (Some xs) b c ended link p q =
    let one : TakesBack (Some (xs ++ ended)) c link = subst (λ z. TakesBack z c link) p q in
    one ∙ ap Some (append_assoc xs ended (link ∷ []))

take_room : {A : Type 0} (n : ℕ) (xs : List A) (x : A) → length xs < n → take n (xs ++ x ∷ []) ≡ take n xs ++ x ∷ []
take_room zero xs x room = absurd (not-suc-le-zero room)
take_room (suc n) [] x room = ap (λ l. x ∷ l) (take-nil n)
take_room (suc n) (y ∷ xs) x room = ap (λ l. y ∷ l) (take_room n xs x (le_of_suc-le-suc room))

-- one more was done with: given back where there was still a place, and else dropped
gives_last : {L : Type 0} (left places : ℕ) (a b c : Option (List L)) (ended : List L) (link : L) → left ≡ places - length ended → GivesBack a (take places ended) b
    → (0 < left → TakesBack b c link) → (left ≡ 0 → c ≡ b) → GivesBack a (take places (ended ++ link ∷ [])) c
gives_last zero places a b c ended link full p given dropped =
    subst (λ z. GivesBack a z c) (sym (take-append-le places ended (link ∷ []) (le_of_sub-eq-zero (sym full)))) (subst (λ z. GivesBack a (take places ended) z) (sym (dropped refl)) p)
gives_last (suc more) places a b c ended link room p given dropped =
    subst (λ z. GivesBack a z c) (sym (take_room places ended link (sub-pos_iff_lt.0 (subst (λ n. 0 < n) room (zero-lt-suc more))))) (gives_one a b c (take places ended) link p (given (zero-lt-suc more)))

run_one : {L W : Type 0} (service : Service W) (tells : LinkTells L) (links : List (L × L)) (answers now : List (Option ℕ)) (w mid new : W) (begun ended : L)
    → PortRun service tells links answers w mid → LinkServed service tells begun ended now mid new → PortRun service tells (links ++ (begun, ended) ∷ []) (answers ++ now) w new
run_one service tells [] answers now w mid new begun ended p q =
    (now, [], new, ap (λ z. z ++ now) p.0 ∙ sym (append-nil now), subst (λ z. LinkServed service tells begun ended now z new) p.1 q, (refl, refl))
run_one service tells (link ∷ links) answers now w mid new begun ended p q =
    (p.0, p.1 ++ now, p.2, ap (λ z. z ++ now) p.3 ∙ append_assoc p.0 p.1 now, p.4, run_one service tells links p.1 now p.2 mid new begun ended p.5 q)

pub ports_start : {L C W : Type 0} (service : Service W) (tells : LinkTells L) (gives : C → Option ℕ → C → Type 0) (faults : C → ℕ) (clock : C)
    (come back : Option (List L)) (places : ℕ) (stands : W → Type 0) (w : W)
    → stands w → PortServed service tells come come back back places (ClockRun gives faults clock clock) stands w 0
ports_start {L} service tells gives faults clock come back places stands w st = record {
  links = [];
  answers = [];
  new = w;
  number = refl;
  handed = start come;
  given = subst (λ z. GivesBack back z back) (sym (take-nil places)) (none back);
  clock = refl;
  serving = st;
  run = (refl, refl);
}
  where
    start : (come : Option (List L)) → HandsOut come [] come
    start None = tt
    start (Some links) = (links, refl, refl)

    none : (back : Option (List L)) → GivesBack back [] back
    none None = tt
    none (Some links) = ap Some (sym (append-nil links))

pub ports_stay : {L E W : Type 0} (service : Service W) (tells : LinkTells L) (come come_now come_then back back_now back_then : Option (List L)) (places : ℕ)
    (asked : List (Option ℕ) → Type 0) (stands : W → Type 0) (w : W) (count : ℕ) (r : Result (Option L) E)
    → PortServed service tells come come_now back back_now places asked stands w count → Accepts come_now come_then r → (r ≡ Ok None) ⊎ ((e : E) × (r ≡ Err e)) → back_then ≡ back_now
    → PortServed service tells come come_then back back_then places asked stands w count
ports_stay service tells come come_now come_then back back_now back_then places asked stands w count r p q e same = record {
  links = p.links;
  answers = p.answers;
  new = p.new;
  number = p.number;
  handed = hands_none come come_now come_then (map (λ l. l.0) p.links) r p.handed q e;
  given = subst (λ z. GivesBack back (take places (map (λ l. l.1) p.links)) z) (sym same) p.given;
  clock = p.clock;
  serving = p.serving;
  run = p.run;
}

pub ports_on : {L C E W : Type 0} (service : Service W) (tells : LinkTells L) (gives : C → Option ℕ → C → Type 0) (faults : C → ℕ) (first clock after : C)
    (come come_now come_then come_last back back_now back_mid back_then : Option (List L)) (places places_now : ℕ) (stands stands_now : W → Type 0) (w : W) (count : ℕ)
    (link : L) (r : Result (Option L) E)
    → PortServed service tells come come_now back back_now places (ClockRun gives faults first clock) stands w count
    → Accepts come_now come_then r → r ≡ Ok (Some link) → places_now ≡ places - count → come_last ≡ come_then → back_mid ≡ back_now
    → ((w : W) → stands w → LinkGone service tells link back_mid back_then places_now (ClockRun gives faults clock after) stands_now w)
    → PortServed service tells come come_last back back_then places (ClockRun gives faults first after) stands_now w (count + 1)
ports_on {L} service tells gives faults first clock after come come_now come_then come_last back back_now back_mid back_then places places_now stands stands_now w count link r p q e room same_come same_back served =
    let one = served p.new p.serving in
    record {
      links = p.links ++ (link, one.ended) ∷ [];
      answers = p.answers ++ one.answers;
      new = one.new;
      number = length-append p.links ((link, one.ended) ∷ []) ∙ ap (λ n. n + 1) p.number;
      handed = subst (λ z. HandsOut come (map (λ l. l.0) (p.links ++ (link, one.ended) ∷ [])) z) (sym same_come) (subst (λ z. HandsOut come z come_then) (sym (map_last (λ l. l.0) p.links (link, one.ended)))
          (hands_one come come_now come_then (map (λ l. l.0) p.links) link r p.handed q e));
      given = subst (λ z. GivesBack back (take places z) back_then) (sym (map_last (λ l. l.1) p.links (link, one.ended)))
          (gives_last places_now places back back_now back_then (map (λ l. l.1) p.links) one.ended (room ∙ ap (λ n. places - n) (sym (length-map p.links (λ (l : L × L). l.1) ∙ p.number))) p.given
          (λ more. subst (λ z. TakesBack z back_then one.ended) same_back (one.given more)) (λ none. one.dropped none ∙ same_back));
      clock = clock_trans gives faults first clock after p.answers one.answers p.clock one.clock;
      serving = one.serving;
      run = run_one service tells p.links p.answers one.answers w p.new one.new link one.ended p.run one.served;
    }
