-- The last request of a link.
use Rattle.std.proofs.Common.{◌≡◌, ◌==◌, ◌<◌, ℕ, zero, suc, true, Option, None, is_some, refl, zero-lt-suc}
use Rattle.serving.specs.declared.ends.LinkEnd.{LinkEnd}

none_is : (end : Option LinkEnd) → end ≡ None → is_some end ≡ true → ⊥
none_is end none is = absurd (cc)

-- where the link went on after a request, it wasn't the last
pub some_left : (n : ℕ) (end : Option LinkEnd) → end ≡ None → ((n == 0) ≡ true → is_some end ≡ true) → 0 < n
some_left zero end none ends = absurd (none_is end none (ends refl))
some_left (suc n) end none ends = zero-lt-suc n
