-- Moves of a walk.
use Rattle.std.proofs.Common.{◌≡◌, ℕ, suc, ◌+◌, ◌-◌, ◌<◌, ◌≤◌, List, [], ◌∷◌, ◌++◌, length, length-append, take, map, reverse, cond, Bool, true, false, All, arith, refl, sym, ap, ◌∙◌, subst, inl, inr, ◌⊎◌, append-nil, zero, Option, None, Some, IsSome, drop, slice_index_or, slice_set}
use Rattle.std.specs.Option.{option_to_list}
use Rattle.std.specs.List.{filter, range_with_len, refill}
use Rattle.std.proofs.lemmas.List.{length_push, length-reverse, reverse-append, get_or_append_left, get_or_at, set_at, take_at}
use Rattle.std.proofs.Math.Seq.{get_or-append_seam}
use Rattle.std.proofs.lemmas.List.Elements.{All-append, All-cons, All-nil, All-map, All-head, All-tail, All-weaker, filter_passes}
use Rattle.bid_rules.specs.declared.goods.GoodsCase.{GoodsCase}
use Rattle.bid_rules.specs.Goods.{player_count, AreOwners}
use Rattle.nash_bounds.specs.Lanes.{IsFork, IsLaneTable}
use Rattle.nash_bounds.specs.Counted.{is_counted, best}
use Rattle.nash_search.specs.Best.{IsKept, list_of}
use Rattle.nash_search.specs.Waiting.{HaveForks, owners_of, waiting_prefixes, to_come, count_all, best_all, IsWalk, AreRules, IsReadyForNext, WalksOn}
use Rattle.nash_bounds.specs.declared.lanes.Lanes.{Lanes}
use Rattle.nash_search.specs.declared.levels.Level.{Level}
use Rattle.nash_search.specs.declared.walk.Walk.{Walk}
use Rattle.nash_search.specs.declared.rules.Rules.{Rules}
use Rattle.nash_search.proofs.WaitingOwners.{map_append, waits_last, waits_shorter, counted_next, count_all-cons}
use Rattle.nash_search.proofs.LevelForks.{forks_front, forks_longer, forks_shorter, forks_push, fork_last, forks_blank}
use Rattle.nash_search.proofs.CountedBelow.{count-some}

-- there are as many lists of owners as levels
levels_length : (levels : List Level) → length (map owners_of levels) ≡ length levels
levels_length [] = refl
levels_length (l ∷ levels) = ap suc (levels_length levels)

-- the same path and levels have the same to come
pub come_from : (old new : Walk) → new.path.items ≡ old.path.items → new.levels.items ≡ old.levels.items → to_come new ≡ to_come old
come_from old new path levels = ap (λ xs. waiting_prefixes [] xs (map owners_of new.levels.items)) path ∙ ap (λ (ls : List Level). waiting_prefixes [] old.path.items (map owners_of ls)) levels

-- a walk whose path, levels and rules stay is a walk
pub walk_from : (case : GoodsCase) (old new : Walk) → IsWalk case old → new.table ≡ old.table → new.path.items ≡ old.path.items → new.levels.items ≡ old.levels.items
    → new.rules ≡ old.rules → IsKept case new.best → IsWalk case new
walk_from case old new is table path levels rules kept = record {
  table = rw table is.table;
  forks = rw (path, levels) is.forks;
  short = rw path is.short;
  owned = rw path is.owned;
  levelled = rw (levels, path) is.levelled;
  players = rw levels is.players;
  counted = rw (come_from old new path levels, rules) is.counted;
  kept = kept;
  rules = rw rules is.rules;
}

-- the last level and the others
pub come_last : (path : List ℕ) (front : List Level) (last : Level) → length front ≡ length path
    → waiting_prefixes [] path (map owners_of (front ++ last ∷ [])) ≡ map (λ owner. path ++ owner ∷ []) (reverse last.owners.items) ++ waiting_prefixes [] path (map owners_of front)
come_last path front last e =
    let n = levels_length front in
    ap (waiting_prefixes [] path) (map_append owners_of front (last ∷ [])) ∙ waits_last [] path (map owners_of front) last.owners.items (omega arith)

-- the levels above a path's last owner hold what waits, without that owner
pub come_shorter : (path : List ℕ) (owner : ℕ) (levels : List Level) → length levels ≡ length path + 1 → waiting_prefixes [] (path ++ owner ∷ []) (map owners_of levels) ≡ waiting_prefixes [] path (map owners_of levels)
come_shorter path owner levels e = let n = levels_length levels in waits_shorter [] path owner (map owners_of levels) (omega arith)

-- a longer path that has no owner for some good
pub longer_short : (case : GoodsCase) (walk : Walk) (owner : ℕ) (longer : List ℕ) (n : ℕ) → IsWalk case walk → longer ≡ walk.path.items ++ owner ∷ [] → n ≡ length longer → (n ≡ case.facts.goods → ⊥)
    → length longer < case.facts.goods
longer_short case walk owner longer n is path long other =
    let short = is.short in
    let m : length longer ≡ length walk.path.items + 1 = ap length path ∙ length_push walk.path.items owner in
    omega arith

-- a level more
pub come_deeper : (case : GoodsCase) (old new : Walk) (owner : ℕ) (level : Level) → length old.levels.items ≡ length old.path.items + 1 → new.path.items ≡ old.path.items ++ owner ∷ []
    → new.levels.items ≡ old.levels.items ++ level ∷ []
    → reverse level.owners.items ≡ filter (λ o. is_counted case old.rules.floor old.rules.above (new.path.items ++ o ∷ [])) (range_with_len 1 (player_count case))
    → to_come new ≡ counted_next case old.rules.floor old.rules.above (old.path.items ++ owner ∷ []) (player_count case) ++ to_come old
come_deeper case old new owner level here path levels is =
    let n = length_push old.path.items owner in
    let longer = old.path.items ++ owner ∷ [] in
    let is' : reverse level.owners.items ≡ filter (λ o. is_counted case old.rules.floor old.rules.above (longer ++ o ∷ [])) (range_with_len 1 (player_count case)) =
    subst (λ xs. reverse level.owners.items ≡ filter (λ o. is_counted case old.rules.floor old.rules.above (xs ++ o ∷ [])) (range_with_len 1 (player_count case))) path is in
    ap (λ xs. waiting_prefixes [] xs (map owners_of new.levels.items)) path
    ∙ ap (λ (ls : List Level). waiting_prefixes [] longer (map owners_of ls)) levels
    ∙ come_last longer old.levels.items level (omega arith)
    ∙ ap (λ xs. map (λ o. longer ++ o ∷ []) xs ++ waiting_prefixes [] longer (map owners_of old.levels.items)) is'
    ∙ ap (λ ws. counted_next case old.rules.floor old.rules.above longer (player_count case) ++ ws) (come_shorter old.path.items owner old.levels.items here)

-- a walk with one more owner on its path and one more level is a walk
pub walk_deeper : (case : GoodsCase) (old new : Walk) (owner : ℕ) (level : Level) → IsWalk case old → length old.levels.items ≡ length old.path.items + 1 → 1 ≤ owner → owner ≤ player_count case
    → new.path.items ≡ old.path.items ++ owner ∷ [] → new.levels.items ≡ old.levels.items ++ level ∷ [] → AreOwners case level.owners.items
    → reverse level.owners.items ≡ filter (λ o. is_counted case old.rules.floor old.rules.above (new.path.items ++ o ∷ [])) (range_with_len 1 (player_count case))
    → length new.path.items < case.facts.goods → new.table ≡ old.table → IsFork case new.path.items level.lanes → new.rules ≡ old.rules → IsKept case new.best → IsWalk case new
walk_deeper case old new owner level is here a b path levels owners next short table fork rules kept =
    let O : ℕ → Type 0 = λ o. (1 ≤ o) × (o ≤ player_count case) in
    let L : Level → Type 0 = λ l. AreOwners case l.owners.items in
    let longer = old.path.items ++ owner ∷ [] in
    let C : List ℕ → Type 0 = λ ws. is_counted case old.rules.floor old.rules.above ws ≡ true in
    let n = length_push old.path.items owner in
    let m = length_push old.levels.items level in
    let p : ℕ → Bool = λ o. is_counted case old.rules.floor old.rules.above (longer ++ o ∷ []) in
    let come = come_deeper case old new owner level here path levels next in
    let all : All C (counted_next case old.rules.floor old.rules.above longer (player_count case) ++ to_come old) =
    All-append C (counted_next case old.rules.floor old.rules.above longer (player_count case)) (to_come old)
    (All-map C (λ o. longer ++ o ∷ []) (filter p (range_with_len 1 (player_count case))) (filter_passes p (range_with_len 1 (player_count case)))) is.counted in
    record {
      table = rw table is.table;
      forks = rw (path, levels) (forks_push case longer old.levels.items level (omega arith) (forks_longer case old.path.items owner old.levels.items (omega arith) is.forks)
          (λ some. subst (λ xs. IsFork case xs level.lanes) path fork));
      short = short;
      owned = rw path (All-append O old.path.items (owner ∷ []) is.owned (All-cons O owner [] (a, b) (All-nil O)));
      levelled = inr (ap length levels ∙ (let e : length (old.levels.items ++ level ∷ []) ≡ length longer + 1 = omega arith in e) ∙ ap (λ xs. length xs + 1) (sym path));
      players = rw levels (All-append L old.levels.items (level ∷ []) is.players (All-cons L level [] owners (All-nil L)));
      counted = rw (come, rules) all;
      kept = kept;
      rules = rw rules is.rules;
    }

-- what holds of all entries of two lists holds of those of the first
pub all_front : {X : Type 0} (P : X → Type 0) (xs ys : List X) → All P (xs ++ ys) → All P xs
all_front P xs ys h = λ k d l. subst P (get_or_append_left xs ys d k l) (h k d (let n = length-append xs ys in omega arith))

-- what holds of all entries holds of the last
pub All-last : {X : Type 0} (P : X → Type 0) (xs : List X) (x : X) → All P (xs ++ x ∷ []) → P x
All-last P xs x h = subst P (get_or-append_seam xs x [] x) (h (length xs) x (let n = length_push xs x in omega arith))

-- what is left without the last entry is the front
pub pop_front : {X : Type 0} (old new front : List X) (last : X) → old ≡ front ++ last ∷ [] → new ≡ take (length old - 1) old → new ≡ front
pop_front old new front last is taken =
    let n : length old ≡ length front + 1 = ap length is ∙ length_push front last in
    let m : length old - 1 ≡ length front = omega arith in
    taken ∙ ap (λ k. take k old) m ∙ ap (take (length front)) is ∙ take_at front (last ∷ []) (length front) refl

-- the last level is read
pub read_last : (old now front : List Level) (last other : Level) (k : ℕ) → now ≡ old → old ≡ front ++ last ∷ [] → k ≡ length old → slice_index_or now (k - 1) other ≡ last
read_last old now front last other k same is here =
    let n : length old ≡ length front + 1 = ap length is ∙ length_push front last in
    let m : length front ≡ k - 1 = omega arith in
    ap (λ (ls : List Level). slice_index_or ls (k - 1) other) (same ∙ is) ∙ get_or_at front last [] other (k - 1) m

-- the last level is written, and the others stay
pub write_last : (old now front : List Level) (last next : Level) (k : ℕ) → now ≡ old → old ≡ front ++ last ∷ [] → k ≡ length old → refill (length old) old (slice_set now (k - 1) next) ≡ front ++ next ∷ []
write_last old now front last next k same is here =
    let n : length old ≡ length front + 1 = ap length is ∙ length_push front last in
    let m : length front ≡ k - 1 = omega arith in
    let set : slice_set now (k - 1) next ≡ front ++ next ∷ [] = ap (λ (ls : List Level). slice_set ls (k - 1) next) (same ∙ is) ∙ set_at front last [] next (k - 1) m in
    let long : length (slice_set now (k - 1) next) ≡ length old = ap length set ∙ length_push front next ∙ sym n in
    take_at (slice_set now (k - 1) next) (drop (length (slice_set now (k - 1) next)) old) (length old) long ∙ set

-- somebody waits at the last level of a settled walk that has levels
pub settled_last : (walk : Walk) → IsReadyForNext walk → 0 < length walk.levels.items → (front : List Level) × (last : Level) × (walk.levels.items ≡ front ++ last ∷ []) × (0 < length last.owners.items)
settled_last walk (inl none) some = absurd (let z : length walk.levels.items ≡ 0 = ap length none in omega arith)
settled_last walk (inr last) some = last

-- where there is a level, there is one more than owners
pub here_of : (case : GoodsCase) (walk : Walk) (front : List Level) (last : Level) → IsWalk case walk → walk.levels.items ≡ front ++ last ∷ [] → length front ≡ length walk.path.items
here_of case walk front last is levels = go is.levelled
  where
    go : (walk.levels.items ≡ []) ⊎ (length walk.levels.items ≡ length walk.path.items + 1) → length front ≡ length walk.path.items
    go (inl none) = absurd (let e : length (front ++ last ∷ []) ≡ length walk.levels.items = ap length (sym levels) in let z : length walk.levels.items ≡ 0 = ap length none in let n = length_push front last in omega arith)
    go (inr e) = let f : length walk.levels.items ≡ length (front ++ last ∷ []) = ap length levels in let n = length_push front last in omega arith

-- nobody waits at the last level
pub come_stuck : (case : GoodsCase) (walk : Walk) (front : List Level) (last : Level) → IsWalk case walk → walk.levels.items ≡ front ++ last ∷ [] → last.owners.items ≡ []
    → to_come walk ≡ waiting_prefixes [] walk.path.items (map owners_of front)
come_stuck case walk front last is levels none =
    ap (λ (ls : List Level). waiting_prefixes [] walk.path.items (map owners_of ls)) levels
    ∙ come_last walk.path.items front last (here_of case walk front last is levels)
    ∙ ap (λ xs. map (λ owner. walk.path.items ++ owner ∷ []) (reverse xs) ++ waiting_prefixes [] walk.path.items (map owners_of front)) none

-- no level is left where the front is empty
pub no_levels : (front : List Level) → length front ≡ 0 → front ≡ []
no_levels [] e = refl
no_levels (f ∷ front) e = absurd (omega arith)

-- no levels hold nothing
come_empty : (path : List ℕ) → waiting_prefixes [] path [] ≡ []
come_empty [] = refl
come_empty (o ∷ path) = refl

-- without levels nothing is to come
pub come_none : (walk : Walk) → walk.levels.items ≡ [] → to_come walk ≡ []
come_none walk none = ap (λ (ls : List Level). waiting_prefixes [] walk.path.items (map owners_of ls)) none ∙ come_empty walk.path.items

-- a walk without its last level, at which nobody waits, and its last owner is a walk, and as much is to come
pub walk_back : (case : GoodsCase) (old new : Walk) (front : List Level) (last : Level) (popped : Option ℕ) → IsWalk case old → old.levels.items ≡ front ++ last ∷ [] → last.owners.items ≡ []
    → new.levels.items ≡ front → old.path.items ≡ new.path.items ++ option_to_list popped → (0 < length old.path.items → IsSome popped) → new.table ≡ old.table → new.rules ≡ old.rules
    → new.best ≡ old.best → IsWalk case new × (to_come new ≡ to_come old)
walk_back case old new front last None is levels none rest path some table rules best =
    let here = here_of case old front last is levels in
    let same : old.path.items ≡ new.path.items = path ∙ append-nil new.path.items in
    let empty : length old.path.items ≡ 0 = none_left (length old.path.items) some in
    let gone : new.levels.items ≡ [] = rest ∙ no_levels front (omega arith) in
    let come : to_come new ≡ to_come old = come_none new gone ∙ sym (come_stuck case old front last is levels none ∙ ap (λ (ls : List Level). waiting_prefixes [] old.path.items (map owners_of ls)) (no_levels front (omega arith)) ∙ come_empty old.path.items) in (
      record {
        table = rw table is.table;
        forks = rw gone (λ k other l. absurd (omega arith));
        short = rw (sym same) is.short;
        owned = rw (sym same) is.owned;
        levelled = inl gone;
        players = rw gone (All-nil (λ (l : Level). AreOwners case l.owners.items));
        counted = rw (come, rules) is.counted;
        kept = rw best is.kept;
        rules = rw rules is.rules;
      },
      come,
    )
  where
    none_left : (n : ℕ) → (0 < n → false ≡ true) → n ≡ 0
    none_left zero some = refl
    none_left (suc n) some = let e : false ≡ true = some (omega arith) in cc
walk_back case old new front last (Some owner) is levels none rest path some table rules best =
    let O : ℕ → Type 0 = λ o. (1 ≤ o) × (o ≤ player_count case) in
    let L : Level → Type 0 = λ l. AreOwners case l.owners.items in
    let here = here_of case old front last is levels in
    let n : length old.path.items ≡ length new.path.items + 1 = ap length path ∙ length_push new.path.items owner in
    let m : length new.levels.items ≡ length front = ap length rest in
    let short = is.short in
    let come : to_come new ≡ to_come old =
    ap (λ (ls : List Level). waiting_prefixes [] new.path.items (map owners_of ls)) rest
    ∙ sym (come_shorter new.path.items owner front (omega arith))
    ∙ ap (λ xs. waiting_prefixes [] xs (map owners_of front)) (sym path)
    ∙ sym (come_stuck case old front last is levels none) in
    let forks : HaveForks case old.path.items front = forks_front case old.path.items front (last ∷ []) (subst (HaveForks case old.path.items) levels is.forks) in (
      record {
        table = rw table is.table;
        forks = rw rest (forks_shorter case new.path.items owner front (omega arith) (subst (λ xs. HaveForks case xs front) path forks));
        short = omega arith;
        owned = all_front O new.path.items (owner ∷ []) (subst (All O) path is.owned);
        levelled = inr (omega arith);
        players = rw rest (all_front L front (last ∷ []) (subst (All L) levels is.players));
        counted = rw (come, rules) is.counted;
        kept = rw best is.kept;
        rules = rw rules is.rules;
      },
      come,
    )

-- the next prefix that waits
pub come_next : (case : GoodsCase) (old new : Walk) (front : List Level) (level rest : Level) (owner : ℕ) → IsWalk case old → old.levels.items ≡ front ++ level ∷ [] → level.owners.items ≡ rest.owners.items ++ owner ∷ []
    → new.levels.items ≡ front ++ rest ∷ [] → new.path.items ≡ old.path.items → to_come old ≡ (old.path.items ++ owner ∷ []) ∷ to_come new
come_next case old new front level rest owner is levels last after path =
    let here = here_of case old front level is levels in
    let p = old.path.items in
    let f : ℕ → List ℕ = λ o. p ++ o ∷ [] in
    ap (λ (ls : List Level). waiting_prefixes [] p (map owners_of ls)) levels
    ∙ come_last p front level here
    ∙ ap (λ xs. map f (reverse xs) ++ waiting_prefixes [] p (map owners_of front)) last
    ∙ ap (λ xs. map f xs ++ waiting_prefixes [] p (map owners_of front)) (reverse-append rest.owners.items (owner ∷ []))
    ∙ ap (λ ws. (p ++ owner ∷ []) ∷ ws) (sym (come_last p front rest here))
    ∙ ap (λ (ls : List Level). (p ++ owner ∷ []) ∷ waiting_prefixes [] p (map owners_of ls)) (sym after)
    ∙ ap (λ xs. (p ++ owner ∷ []) ∷ waiting_prefixes [] xs (map owners_of new.levels.items)) (sym path)

-- a walk whose last waiting owner is taken off is a walk without that owner
pub walk_next : (case : GoodsCase) (old new : Walk) (front : List Level) (level rest : Level) (owner : ℕ) → IsWalk case old → old.levels.items ≡ front ++ level ∷ [] → level.owners.items ≡ rest.owners.items ++ owner ∷ []
    → new.levels.items ≡ front ++ rest ∷ [] → rest.lanes ≡ level.lanes → new.path.items ≡ old.path.items → new.table ≡ old.table → new.rules ≡ old.rules → new.best ≡ old.best
    → IsWalk case new × ((1 ≤ owner) × (owner ≤ player_count case)) × IsFork case old.path.items level.lanes × (is_counted case old.rules.floor old.rules.above (old.path.items ++ owner ∷ []) ≡ true)
walk_next case old new front level rest owner is levels last after lanes path table rules best =
    let O : ℕ → Type 0 = λ o. (1 ≤ o) × (o ≤ player_count case) in
    let L : Level → Type 0 = λ l. AreOwners case l.owners.items in
    let C : List ℕ → Type 0 = λ ws. is_counted case old.rules.floor old.rules.above ws ≡ true in
    let here = here_of case old front level is levels in
    let players : All L (front ++ level ∷ []) = subst (All L) levels is.players in
    let own : L level = All-last L front level players in
    let own' : All O (rest.owners.items ++ owner ∷ []) = subst (All O) last own in
    let come = come_next case old new front level rest owner is levels last after path in
    let counted : All C ((old.path.items ++ owner ∷ []) ∷ to_come new) = subst (All C) come is.counted in
    let n = length_push front rest in
    let forks : HaveForks case old.path.items (front ++ level ∷ []) = subst (HaveForks case old.path.items) levels is.forks in
    let some : 0 < length level.owners.items = (let e : length level.owners.items ≡ length (rest.owners.items ++ owner ∷ []) = ap length last in let m = length_push rest.owners.items owner in omega arith) in
    let fork : IsFork case old.path.items level.lanes = fork_last case old.path.items front level here forks some in (
      record {
        table = rw table is.table;
        forks = rw (path, after) (forks_push case old.path.items front rest here (forks_front case old.path.items front (level ∷ []) forks) (λ some. subst (IsFork case old.path.items) (sym lanes) fork));
        short = rw path is.short;
        owned = rw path is.owned;
        levelled = inr (ap length after ∙ (let e : length (front ++ rest ∷ []) ≡ length old.path.items + 1 = omega arith in e) ∙ ap (λ xs. length xs + 1) (sym path));
        players = rw after (All-append L front (rest ∷ []) (all_front L front (level ∷ []) players) (All-cons L rest [] (all_front O rest.owners.items (owner ∷ []) own') (All-nil L)));
        counted = rw rules (All-tail C (old.path.items ++ owner ∷ []) (to_come new) counted);
        kept = rw best is.kept;
        rules = rw rules is.rules;
      },
      All-last O rest.owners.items owner own',
      fork,
      All-head C (old.path.items ++ owner ∷ []) (to_come new) counted,
    )

-- a walk that stays has gone nowhere
pub goes_none : (case : GoodsCase) (walk : Walk) → WalksOn case walk walk
goes_none case walk = record { rules = refl; nodes = refl; best = refl }

-- two goes one after another are one
pub goes_on : (case : GoodsCase) (a b c : Walk) → WalksOn case a b → WalksOn case b c → WalksOn case a c
goes_on case a b c one two = record {
  rules = two.rules ∙ one.rules;
  nodes = one.nodes ∙ subst (λ (r : Rules). b.nodes + count_all case r.floor r.above (to_come b) ≡ c.nodes + count_all case r.floor r.above (to_come c)) one.rules two.nodes;
  best = one.best ∙ subst (λ (r : Rules). best_all case r.floor r.above (to_come b) (list_of b.best) ≡ best_all case r.floor r.above (to_come c) (list_of c.best)) one.rules two.best;
}

-- who waits is counted
pub more_left : (case : GoodsCase) (walk : Walk) (front : List Level) (last : Level) → IsWalk case walk → walk.levels.items ≡ front ++ last ∷ [] → 0 < length last.owners.items
    → 0 < count_all case walk.rules.floor walk.rules.above (to_come walk)
more_left case walk front last is levels some =
    let come = ap (λ (ls : List Level). waiting_prefixes [] walk.path.items (map owners_of ls)) levels ∙ come_last walk.path.items front last (here_of case walk front last is levels) in
    let n = length-reverse last.owners.items in
    go (reverse last.owners.items) (omega arith) come
  where
    go : (os : List ℕ) → 0 < length os → to_come walk ≡ map (λ owner. walk.path.items ++ owner ∷ []) os ++ waiting_prefixes [] walk.path.items (map owners_of front) → 0 < count_all case walk.rules.floor walk.rules.above (to_come walk)
    go [] l come = absurd (omega arith)
    go (o ∷ os) l come =
        let C : List ℕ → Type 0 = λ ws. is_counted case walk.rules.floor walk.rules.above ws ≡ true in
        let x = walk.path.items ++ o ∷ [] in
        let rest = map (λ owner. walk.path.items ++ owner ∷ []) os ++ waiting_prefixes [] walk.path.items (map owners_of front) in
        let all : All C (x ∷ rest) = subst (All C) come is.counted in
        let one = count-some case walk.rules.floor walk.rules.above (case.facts.goods - length x) x (All-head C x rest all) in
        let cons = count_all-cons case walk.rules.floor walk.rules.above x rest in
        let same : count_all case walk.rules.floor walk.rules.above (to_come walk) ≡ count_all case walk.rules.floor walk.rules.above (x ∷ rest) = ap (count_all case walk.rules.floor walk.rules.above) come in
        omega arith

-- a settled walk with a level has counted prefixes to come
pub settled_left : (case : GoodsCase) (walk : Walk) → IsWalk case walk → IsReadyForNext walk → 0 < length walk.levels.items → 0 < count_all case walk.rules.floor walk.rules.above (to_come walk)
settled_left case walk is settled some = let last = settled_last walk settled some in more_left case walk last.0 last.1 is last.2 last.3

-- levels at which nobody waits have nothing to come
pub come_blank : (above path : List ℕ) (levels : List Level) → All (λ (l : Level). l.owners.items ≡ []) levels → waiting_prefixes above path (map owners_of levels) ≡ []
come_blank above [] [] h = refl
come_blank above (o ∷ path) [] h = refl
come_blank above [] (l ∷ levels) h =
    ap (λ xs. map (λ owner. above ++ owner ∷ []) (reverse xs)) (All-head (λ (l : Level). l.owners.items ≡ []) l levels h)
come_blank above (o ∷ path) (l ∷ levels) h =
    ap (λ ws. ws ++ map (λ owner. above ++ owner ∷ []) (reverse l.owners.items)) (come_blank (above ++ o ∷ []) path levels (All-tail (λ (l : Level). l.owners.items ≡ []) l levels h))
    ∙ ap (λ xs. map (λ owner. above ++ owner ∷ []) (reverse xs)) (All-head (λ (l : Level). l.owners.items ≡ []) l levels h)

-- one prefix waits alone
pub come_alone : (path : List ℕ) (levels : List Level) (last : Level) (owner : ℕ) → All (λ (l : Level). l.owners.items ≡ []) levels → length levels ≡ length path → last.owners.items ≡ owner ∷ []
    → waiting_prefixes [] path (map owners_of (levels ++ last ∷ [])) ≡ (path ++ owner ∷ []) ∷ []
come_alone path levels last owner blank here is =
    come_last path levels last here
    ∙ ap (λ xs. map (λ o. path ++ o ∷ []) (reverse xs) ++ waiting_prefixes [] path (map owners_of levels)) is
    ∙ ap (λ ws. (path ++ owner ∷ []) ∷ ws) (come_blank [] path levels blank)

-- the levels before the first step: none, or as many empty ones as the path has owners, and one at which one owner waits
abbrev pub IsFirst : Walk → Lanes → ℕ → Bool → Type 0
IsFirst walk lanes owner true = (front : List Level) × (last : Level) × (walk.levels.items ≡ front ++ last ∷ []) × (length front ≡ length walk.path.items) × All (λ (l : Level). l.owners.items ≡ []) front × (last.owners.items ≡ owner ∷ []) × (last.lanes ≡ lanes)
IsFirst walk lanes owner false = walk.levels.items ≡ []

-- the first prefix is to come, if it waits
first_come : (walk : Walk) (lanes : Lanes) (owner : ℕ) (waits : Bool) → IsFirst walk lanes owner waits → to_come walk ≡ cond waits ((walk.path.items ++ owner ∷ []) ∷ []) []
first_come walk lanes owner true first = ap (λ (ls : List Level). waiting_prefixes [] walk.path.items (map owners_of ls)) first.2 ∙ come_alone walk.path.items first.0 first.1 owner first.4 first.3 first.5
first_come walk lanes owner false first = come_none walk first

-- the first levels are none, or one more than the path's owners
first_levelled : (walk : Walk) (lanes : Lanes) (owner : ℕ) (waits : Bool) → IsFirst walk lanes owner waits → (walk.levels.items ≡ []) ⊎ (length walk.levels.items ≡ length walk.path.items + 1)
first_levelled walk lanes owner true first = inr (let e : length walk.levels.items ≡ length (first.0 ++ first.1 ∷ []) = ap length first.2 in let n = length_push first.0 first.1 in let m = first.3 in omega arith)
first_levelled walk lanes owner false first = inl first

-- the first walk is settled
first_settled : (walk : Walk) (lanes : Lanes) (owner : ℕ) (waits : Bool) → IsFirst walk lanes owner waits → IsReadyForNext walk
first_settled walk lanes owner true first = inr (first.0, first.1, first.2, (let e : length first.1.owners.items ≡ 1 = ap length first.5 in omega arith))
first_settled walk lanes owner false first = inl first

-- the owners at the first levels are players
first_players : (case : GoodsCase) (walk : Walk) (lanes : Lanes) (owner : ℕ) (waits : Bool) → IsFirst walk lanes owner waits → 1 ≤ owner → owner ≤ player_count case → All (λ (l : Level). AreOwners case l.owners.items) walk.levels.items
first_players case walk lanes owner false first a b = rw first (All-nil (λ (l : Level). AreOwners case l.owners.items))
first_players case walk lanes owner true first a b =
    let O : ℕ → Type 0 = λ o. (1 ≤ o) × (o ≤ player_count case) in
    let L : Level → Type 0 = λ l. AreOwners case l.owners.items in
    let blank : All L first.0 = All-weaker (λ (l : Level). l.owners.items ≡ []) L (λ l e. subst (All O) (sym e) (All-nil O)) first.0 first.4 in
    let own : L first.1 = subst (All O) (sym first.5) (All-cons O owner [] (a, b) (All-nil O)) in
    subst (All L) (sym first.2) (All-append L first.0 (first.1 ∷ []) blank (All-cons L first.1 [] own (All-nil L)))

-- the first levels have the lanes that they need
first_forks : (case : GoodsCase) (walk : Walk) (lanes : Lanes) (owner : ℕ) (waits : Bool) → IsFirst walk lanes owner waits → IsFork case walk.path.items lanes → HaveForks case walk.path.items walk.levels.items
first_forks case walk lanes owner false first fork = rw first (λ k other l. absurd (omega arith))
first_forks case walk lanes owner true first fork =
    rw first.2 (forks_push case walk.path.items first.0 first.1 first.3 (forks_blank case walk.path.items first.0 first.4) (λ some. subst (IsFork case walk.path.items) (sym first.6) fork))

-- what is to come first is counted
first_counted : (case : GoodsCase) (walk : Walk) (owners : List ℕ) (waits : Bool) → is_counted case walk.rules.floor walk.rules.above owners ≡ waits
    → All (λ ws. is_counted case walk.rules.floor walk.rules.above ws ≡ true) (cond waits (owners ∷ []) [])
first_counted case walk owners true counted = All-cons (λ ws. is_counted case walk.rules.floor walk.rules.above ws ≡ true) owners [] counted (All-nil (λ ws. is_counted case walk.rules.floor walk.rules.above ws ≡ true))
first_counted case walk owners false counted = All-nil (λ ws. is_counted case walk.rules.floor walk.rules.above ws ≡ true)

-- the walk before the first step is a walk
pub first_walk : (case : GoodsCase) (walk : Walk) (lanes : Lanes) (owners : List ℕ) (owner : ℕ) (waits : Bool) → owners ≡ walk.path.items ++ owner ∷ [] → length owners ≤ case.facts.goods → AreOwners case owners
    → 1 ≤ owner → owner ≤ player_count case → IsFirst walk lanes owner waits → waits ≡ is_counted case walk.rules.floor walk.rules.above owners → IsLaneTable case walk.table → IsFork case walk.path.items lanes
    → IsKept case walk.best → AreRules walk.rules
    → IsWalk case walk × IsReadyForNext walk × (to_come walk ≡ cond (is_counted case walk.rules.floor walk.rules.above owners) (owners ∷ []) [])
first_walk case walk lanes owners owner waits path short owned a b first counted table fork kept rules =
    let O : ℕ → Type 0 = λ o. (1 ≤ o) × (o ≤ player_count case) in
    let C : List ℕ → Type 0 = λ ws. is_counted case walk.rules.floor walk.rules.above ws ≡ true in
    let n : length owners ≡ length walk.path.items + 1 = ap length path ∙ length_push walk.path.items owner in
    let come : to_come walk ≡ cond waits (owners ∷ []) [] = first_come walk lanes owner waits first ∙ ap (λ ws. cond waits (ws ∷ []) []) (sym path) in (
      record {
        table = table;
        forks = first_forks case walk lanes owner waits first fork;
        short = omega arith;
        owned = all_front O walk.path.items (owner ∷ []) (subst (All O) path owned);
        levelled = first_levelled walk lanes owner waits first;
        players = first_players case walk lanes owner waits first a b;
        counted = subst (All C) (sym come) (first_counted case walk owners waits (sym counted));
        kept = kept;
        rules = rules;
      },
      first_settled walk lanes owner waits first,
      come ∙ ap (λ t. cond t (owners ∷ []) []) counted,
    )

-- levels that are none where the owner doesn't wait are first ones
pub first_of : (walk : Walk) (lanes : Lanes) (owner : ℕ) (waits : Bool) → (waits ≡ false → walk.levels.items ≡ []) → (waits ≡ true → IsFirst walk lanes owner true) → IsFirst walk lanes owner waits
first_of walk lanes owner true none one = one refl
first_of walk lanes owner false none one = none refl
