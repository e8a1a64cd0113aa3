-- The order of pairs of welfare, and its tests.
use Rattle.std.proofs.Common.{◌≡◌, true, false, arith, ap, ◌∙◌}
use Rattle.std.proofs.lemmas.Bool.Decides.{nat_tests}
use Rattle.bid_rules.specs.declared.pair.Pair.{Pair}
use Rattle.bid_rules.specs.Pairs.{IsAtMost, IsLess, is_at_most, is_less}

-- a pair that passes the test is at most the other
pub at_most-from : (a b : Pair) → is_at_most a b ≡ true → IsAtMost a b
at_most-from a b h = grind (arith, nat_tests)

-- and one that is at most the other passes the test
pub at_most-to : (a b : Pair) → IsAtMost a b → is_at_most a b ≡ true
at_most-to a b h = grind (arith, nat_tests)

-- a pair that passes the test is smaller
pub less-from : (a b : Pair) → is_less a b ≡ true → IsLess a b
less-from a b h = grind (arith, nat_tests)

-- and one that is smaller passes the test
pub less-to : (a b : Pair) → IsLess a b → is_less a b ≡ true
less-to a b h = grind (arith, nat_tests)

-- what is not at most is greater
pub not_at_most : (a b : Pair) → is_at_most a b ≡ false → IsLess b a
not_at_most a b h = grind (arith, nat_tests)

-- what is not smaller is at most
pub not_less : (a b : Pair) → is_less a b ≡ false → IsAtMost b a
not_less a b h = grind (arith, nat_tests)

-- what is at most a pair that is at most a third is at most the third
pub at_most_trans : (a b c : Pair) → IsAtMost a b → IsAtMost b c → IsAtMost a c
at_most_trans a b c h k = grind arith

-- what is smaller than a pair that is at most a third is smaller than the third
pub less_through : (a b d : Pair) → IsLess a b → IsAtMost b d → IsLess a d
less_through a b d h l = grind arith

-- what is at most a pair that is smaller than a third is smaller than the third
pub at_most_less : (a b d : Pair) → IsAtMost a b → IsLess b d → IsLess a d
at_most_less a b d h l = grind arith

-- what is smaller is at most
pub less_at_most : (a b : Pair) → IsLess a b → IsAtMost a b
less_at_most a b h = grind arith

-- of two pairs, not both is one smaller and the other at most it
pub less_not : (a b : Pair) → IsLess a b → IsAtMost b a → ⊥
less_not a b h k = grind arith

-- a pair is at most itself
pub at_most_itself : (a : Pair) → IsAtMost a a
at_most_itself a = grind arith

-- pairs with the same numbers are the same
pub same_pair : (a b : Pair) → a.count ≡ b.count → a.product ≡ b.product → a ≡ b
same_pair a b c p = ap (λ n. let q : Pair = record { count = n; product = a.product } in q) c ∙ ap (λ n. let q : Pair = record { count = b.count; product = n } in q) p

-- neither is greater: the same
pub same_from_at_most : (a b : Pair) → IsAtMost a b → IsAtMost b a → a ≡ b
same_from_at_most a b h k = same_pair a b (count a b h k) (product a b h k)
  where
    count : (a b : Pair) → IsAtMost a b → IsAtMost b a → a.count ≡ b.count
    count a b h k = grind arith

    product : (a b : Pair) → IsAtMost a b → IsAtMost b a → a.product ≡ b.product
    product a b h k = grind arith
