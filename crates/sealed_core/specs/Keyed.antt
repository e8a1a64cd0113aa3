-- Instances that keep the keys of their organisers and members, made from a host's secret. Only the invariant
-- of `Host` and contracts of private functions use this.
use Rattle.std.specs.Prelude.{◌≡◌, ℕ, ◌+◌, List, [], ◌∷◌, length, ⊤}
use Rattle.sealed_core.specs.declared.host.Instance.{Instance}
use Rattle.sealed_core.specs.Keys.{keys_of}

-- the instance keeps the keys that the secret gives to this id
abbrev pub IsKeyed : List ℕ → ℕ → Instance → Type 0
IsKeyed secret id instance = instance.keys.items ≡ keys_of secret id (length instance.creation.members.items)

-- so do all of these instances, the first of which has this id
abbrev pub AreKeyed : List ℕ → ℕ → List Instance → Type 0
AreKeyed secret id [] = ⊤
AreKeyed secret id (instance ∷ more) = IsKeyed secret id instance × AreKeyed secret (id + 1) more
