-- Instances keep their keys when one is added or changed.
use Rattle.std.proofs.Common.{◌≡◌, ℕ, zero, suc, ◌+◌, ◌<◌, List, [], ◌∷◌, ◌++◌, length, set, get_or, ap, sym, subst, ◌∙◌, arith}
use Rattle.body_fields.specs.declared.creations.Creation.{Creation}
use Rattle.sealed_core.specs.declared.host.Instance.{Instance}
use Rattle.sealed_core.specs.Keyed.{AreKeyed, IsKeyed}
use Rattle.sealed_core.specs.Keys.{keys_of}

-- one more instance with the keys of the next id
pub keyed_push : (secret : List ℕ) (xs : List Instance) (x : Instance) (id : ℕ) → AreKeyed secret id xs → IsKeyed secret (id + length xs) x → AreKeyed secret id (xs ++ x ∷ [])
keyed_push secret [] x id all own = let same : id + 0 ≡ id = omega arith in (subst (λ (n : ℕ). IsKeyed secret n x) same own, tt)
keyed_push secret (y ∷ xs) x id all own =
    let same : id + suc (length xs) ≡ id + 1 + length xs = omega arith in
    (all.0, keyed_push secret xs x (id + 1) all.1 (subst (λ (n : ℕ). IsKeyed secret n x) same own))

-- an instance whose keys and members are the same
pub keyed_same : (old new : Instance) → new.creation ≡ old.creation → new.keys.items ≡ old.keys.items → (secret : List ℕ) (id : ℕ) → IsKeyed secret id old → IsKeyed secret id new
keyed_same old new creation keys secret id keyed =
    keys ∙ keyed ∙ ap (λ (c : Creation). keys_of secret id (length c.members.items)) (sym creation)

-- a change of one that leaves its keys
pub keyed_set : (secret : List ℕ) (xs : List Instance) (p : ℕ) (old new : Instance) (id : ℕ) → AreKeyed secret id xs → old ≡ get_or xs p old
    → ((n : ℕ) → IsKeyed secret n old → IsKeyed secret n new) → AreKeyed secret id (set xs p new)
keyed_set secret [] p old new id all is stays = tt
keyed_set secret (x ∷ xs) zero old new id all is stays = (stays id (subst (IsKeyed secret id) (sym is) all.0), all.1)
keyed_set secret (x ∷ xs) (suc p) old new id all is stays = (all.0, keyed_set secret xs p old new (id + 1) all.1 is stays)

-- the instance at a place has the keys of its id
pub keyed_at : (secret : List ℕ) (xs : List Instance) (p : ℕ) (i : Instance) (id : ℕ) → AreKeyed secret id xs → p < length xs → i ≡ get_or xs p i → IsKeyed secret (id + p) i
keyed_at secret [] p i id all there is = absurd (omega (arith, there))
keyed_at secret (x ∷ xs) zero i id all there is =
    let same : id ≡ id + 0 = omega arith in subst (λ (n : ℕ). IsKeyed secret n i) same (subst (IsKeyed secret id) (sym is) all.0)
keyed_at secret (x ∷ xs) (suc p) i id all there is =
    let same : id + 1 + p ≡ id + suc p = omega arith in
    subst (λ (n : ℕ). IsKeyed secret n i) same (keyed_at secret xs p i (id + 1) all.1 (omega (arith, there)) is)
