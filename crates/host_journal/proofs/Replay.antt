-- Opening a journal: its events one by one, and the raise at the end.
use Rattle.std.proofs.Common.{◌≡◌, inl, inr, ℕ, ◌≤◌, List, [], ◌∷◌, ◌++◌, map, refl, sym, ◌∙◌, ap, subst, arith}
use Rattle.std.proofs.lemmas.List.Elements.{All-nil, All-weaker}
use Rattle.split_base.specs.Disk.{Only, Rests}
use Rattle.gate_log.specs.Records.{Stands, HoldsRecords, IsVersion}
use Rattle.gate_log.specs.Log.{LogView, IsLogOf, IsReading}
use Rattle.sealed_core.specs.Host.{HostView, EventView, Created, BidKept, Closed, Withdrawn, CanApply, apply}
use Rattle.sealed_core.specs.Sealed.{empty}
use Rattle.host_journal.specs.Spelling.{IsEvent, IsOfVersion, Spells, spelling}
use Rattle.host_journal.specs.Journal.{AreKept, HasOpened, HoldsFrom, HoldsOne, IsOpened, IsReplaying, IsReplayed}
use Rattle.host_journal.proofs.Appending.{bodies_are}
use Rattle.host_journal.proofs.Kept.{kept_push, after_push}

-- no call at all changes nothing
pub rests_none : {D : Type 0} (seen : D → List ℕ) (images : D → List ℕ → Type 0) (moment : D → ℕ) (left_since : D → ℕ → List ℕ → Type 0) (disk : D) → Rests seen images moment left_since disk disk
rests_none seen images moment left_since disk = record {
  same = refl;
  adds_none = λ c now. now;
  time = record { later = omega arith; nothing_else = λ t c le left. inl left; keeps = λ t c le left. left };
}

-- before the first record there are no events
pub none_kept : (version : ℕ) (secret : List ℕ) → AreKept version secret []
none_kept version secret = record { each = All-nil IsEvent; of_version = All-nil (IsOfVersion version); may_apply = tt }

-- an event of a version is of a later one
of_later : (v w : ℕ) → v ≤ w → w ≤ 2 → (e : EventView) → IsOfVersion v e → IsOfVersion w e
of_later v w le most (Created moment c) of = of
of_later v w le most (BidKept moment id member turn bid) of = of
of_later v w le most (Closed moment id) of = of
of_later v w le most (Withdrawn moment id member turn) of = omega (arith, le, most, of)

-- events that were kept in a version are kept in a later one
pub kept_later : (v w : ℕ) (secret : List ℕ) (events : List EventView) → v ≤ w → w ≤ 2 → AreKept v secret events → AreKept w secret events
kept_later v w secret events le most kept = record {
  each = kept.each;
  of_version = All-weaker (IsOfVersion v) (IsOfVersion w) (of_later v w le most) events kept.of_version;
  may_apply = kept.may_apply;
}

-- there are two versions
pub version_least : (gate version : ℕ) → IsVersion gate version → 1 ≤ version
version_least gate version (inl (shut, is)) = omega (arith, is)
version_least gate version (inr (opened, is)) = omega (arith, is)

-- and no more than two
pub version_most : (gate version : ℕ) → IsVersion gate version → version ≤ 2
version_most gate version (inl (shut, is)) = omega (arith, is)
version_most gate version (inr (opened, is)) = omega (arith, is)

-- what a raise of version 1 may leave
pub raised_from : (version : ℕ) (secret : List ℕ) (bodies : List (List ℕ)) (file : List ℕ) → version ≡ 1 → HoldsRecords secret bodies file → HoldsFrom version secret bodies file
raised_from version secret bodies file one (later, stands) = (later, omega (arith, one, version_least stands.gate later stands.is_version), stands)

-- the next record's event is taken up
pub one_more : (file : List ℕ) (log next : LogView) (h g : HostView) (secret : List ℕ) (events : List EventView) (body : List ℕ) (e : EventView) → IsReplaying file log h secret events → next.version ≡ log.version
    → IsReading file next secret (map spelling events ++ body ∷ []) → Spells e body → IsOfVersion next.version e → CanApply h e → g ≡ apply h e → IsReplaying file next g secret (events ++ e ∷ [])
one_more file log next h g secret events body e r version reading spells of can applied = record {
  reading = subst (IsReading file next secret) (bodies_are events e body spells.1) reading;
  kept = kept_push next.version secret events e (subst (λ (v : ℕ). AreKept v secret events) (sym version) r.kept) spells.0 of (subst (λ (k : HostView). CanApply k e) r.is_host can);
  is_host = applied ∙ ap (λ (k : HostView). apply k e) r.is_host ∙ sym (after_push secret events e);
}

-- the log of what was read
pub log_of_read : (file : List ℕ) (images : List ℕ → Type 0) (log : LogView) (h : HostView) (secret : List ℕ) (events : List EventView) → Only file images → IsReplayed file log h secret events
    → IsLogOf images log secret (map spelling events)
log_of_read file images log h secret events only r = record {
  each = λ f now. subst (Stands log.version secret (map spelling events)) (sym (only f now)) r.has.stands;
  place = r.place;
}

-- files have one meaning
abbrev pub OneMeaning : Type 0
OneMeaning = (v w : ℕ) (secret word : List ℕ) (bodies others : List (List ℕ)) (file : List ℕ) → Stands v secret bodies file → Stands w word others file → (v ≡ w) × (secret ≡ word) × (bodies ≡ others)

-- what a raise may leave of a file that was read holds what the file held
pub still_one : OneMeaning → (file : List ℕ) (log : LogView) (h : HostView) (secret word : List ℕ) (events : List EventView) (lists : List (List EventView)) → IsReplayed file log h secret events
    → HoldsOne word lists file → (f : List ℕ) → HoldsFrom log.version secret (map spelling events) f → HoldsOne word lists f
still_one law file log h secret word events lists r (all, among, (version, has)) f (later, le, stands) =
    let one = law version log.version word secret (map spelling all) (map spelling events) file has.stands r.has.stands in
    let same : Stands later word (map spelling all) f =
    subst (λ (s : List ℕ). Stands later s (map spelling all) f) (sym one.1) (subst (λ (bodies : List (List ℕ)). Stands later secret bodies f) (sym one.2) stands) in
    let most : later ≤ 2 = version_most stands.gate later stands.is_version in
    let least : version ≤ later = omega (arith, one.0, le) in
    (all, among, (later, record { stands = same; kept = kept_later version later word all least most has.kept }))

-- what was opened
pub opened_of : (old new : List ℕ) (images : List ℕ → Type 0) (log raised : LogView) (h : HostView) (secret : List ℕ) (events : List EventView) → IsReplayed old log h secret events → raised.version ≡ 2 → images new
    → IsLogOf images raised secret (map spelling events) → IsOpened old new images raised h
opened_of old new images log raised h secret events r two now is_log =
    let v = r.has.stands in
    let most : log.version ≤ raised.version = omega (arith, version_most v.gate log.version v.is_version, two) in
    let kept : AreKept raised.version secret events = kept_later log.version raised.version secret events most (omega (arith, two)) r.has.kept in
    record {
      secret = secret;
      events = events;
      before = (log.version, r.has);
      after = record { stands = subst (λ (v : ℕ). Stands v secret (map spelling events) new) two (is_log.each new now); kept = subst (λ (v : ℕ). AreKept v secret events) two kept };
      journal = record { is_log = is_log; kept = kept; is_host = r.is_host };
    }

-- the same, of these events
pub has_opened : (old new : List ℕ) (images : List ℕ → Type 0) (log raised : LogView) (h : HostView) (secret : List ℕ) (events : List EventView) → IsReplayed old log h secret events → raised.version ≡ 2 → images new
    → IsLogOf images raised secret (map spelling events) → HasOpened old new images raised h secret events
has_opened old new images log raised h secret events r two now is_log =
    let v = r.has.stands in
    let most : log.version ≤ raised.version = omega (arith, version_most v.gate log.version v.is_version, two) in
    let kept : AreKept raised.version secret events = kept_later log.version raised.version secret events most (omega (arith, two)) r.has.kept in
    record {
      before = (log.version, r.has);
      after = record { stands = subst (λ (v : ℕ). Stands v secret (map spelling events) new) two (is_log.each new now); kept = subst (λ (v : ℕ). AreKept v secret events) two kept };
      journal = record { is_log = is_log; kept = kept; is_host = r.is_host };
    }

-- before the first record is taken up
pub starts_empty : (file : List ℕ) (log : LogView) (h : HostView) (secret : List ℕ) → IsReading file log secret [] → h ≡ empty secret → IsReplaying file log h secret []
starts_empty file log h secret reading fresh = record { reading = reading; kept = none_kept log.version secret; is_host = fresh }
