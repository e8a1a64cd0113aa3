-- A code with a phrase is a code, and the host's statuses have one.
use Rattle.std.proofs.Common.{◌≡◌, ℕ, List, Option, Some, None, IsSome, IsTrue, Bool, true, false, refl, subst, ◌||◌, if◌then◌else◌, ◌==◌, lit≤, lit<, arith}
use Rattle.std.proofs.lemmas.Bool.Decides.{nat_tests}
use Rattle.http.specs.StatusCode.{IsStatusCode, reason_phrase}
use Rattle.split_http.specs.Replies.{is_host_status}

-- one test of the chain
test : (n k : ℕ) (x : List ℕ) (rest : Option (List ℕ)) → IsStatusCode k → (IsSome rest → IsStatusCode n)
    → IsSome (if n == k then Some x else rest) → IsStatusCode n
test n k x rest ok next some = grind (arith, nat_tests)

-- a number with a phrase is a status code
pub reason_phrase-code : (n : ℕ) → IsSome (reason_phrase n) → IsStatusCode n
reason_phrase-code n =
    test n 100 _ _ (lit≤ tt, lit< tt) (
    test n 101 _ _ (lit≤ tt, lit< tt) (
    test n 102 _ _ (lit≤ tt, lit< tt) (
    test n 103 _ _ (lit≤ tt, lit< tt) (
    test n 200 _ _ (lit≤ tt, lit< tt) (
    test n 201 _ _ (lit≤ tt, lit< tt) (
    test n 202 _ _ (lit≤ tt, lit< tt) (
    test n 203 _ _ (lit≤ tt, lit< tt) (
    test n 204 _ _ (lit≤ tt, lit< tt) (
    test n 205 _ _ (lit≤ tt, lit< tt) (
    test n 206 _ _ (lit≤ tt, lit< tt) (
    test n 207 _ _ (lit≤ tt, lit< tt) (
    test n 208 _ _ (lit≤ tt, lit< tt) (
    test n 226 _ _ (lit≤ tt, lit< tt) (
    test n 300 _ _ (lit≤ tt, lit< tt) (
    test n 301 _ _ (lit≤ tt, lit< tt) (
    test n 302 _ _ (lit≤ tt, lit< tt) (
    test n 303 _ _ (lit≤ tt, lit< tt) (
    test n 304 _ _ (lit≤ tt, lit< tt) (
    test n 305 _ _ (lit≤ tt, lit< tt) (
    test n 307 _ _ (lit≤ tt, lit< tt) (
    test n 308 _ _ (lit≤ tt, lit< tt) (
    test n 400 _ _ (lit≤ tt, lit< tt) (
    test n 401 _ _ (lit≤ tt, lit< tt) (
    test n 402 _ _ (lit≤ tt, lit< tt) (
    test n 403 _ _ (lit≤ tt, lit< tt) (
    test n 404 _ _ (lit≤ tt, lit< tt) (
    test n 405 _ _ (lit≤ tt, lit< tt) (
    test n 406 _ _ (lit≤ tt, lit< tt) (
    test n 407 _ _ (lit≤ tt, lit< tt) (
    test n 408 _ _ (lit≤ tt, lit< tt) (
    test n 409 _ _ (lit≤ tt, lit< tt) (
    test n 410 _ _ (lit≤ tt, lit< tt) (
    test n 411 _ _ (lit≤ tt, lit< tt) (
    test n 412 _ _ (lit≤ tt, lit< tt) (
    test n 413 _ _ (lit≤ tt, lit< tt) (
    test n 414 _ _ (lit≤ tt, lit< tt) (
    test n 415 _ _ (lit≤ tt, lit< tt) (
    test n 416 _ _ (lit≤ tt, lit< tt) (
    test n 417 _ _ (lit≤ tt, lit< tt) (
    test n 418 _ _ (lit≤ tt, lit< tt) (
    test n 421 _ _ (lit≤ tt, lit< tt) (
    test n 422 _ _ (lit≤ tt, lit< tt) (
    test n 423 _ _ (lit≤ tt, lit< tt) (
    test n 424 _ _ (lit≤ tt, lit< tt) (
    test n 425 _ _ (lit≤ tt, lit< tt) (
    test n 426 _ _ (lit≤ tt, lit< tt) (
    test n 428 _ _ (lit≤ tt, lit< tt) (
    test n 429 _ _ (lit≤ tt, lit< tt) (
    test n 431 _ _ (lit≤ tt, lit< tt) (
    test n 451 _ _ (lit≤ tt, lit< tt) (
    test n 500 _ _ (lit≤ tt, lit< tt) (
    test n 501 _ _ (lit≤ tt, lit< tt) (
    test n 502 _ _ (lit≤ tt, lit< tt) (
    test n 503 _ _ (lit≤ tt, lit< tt) (
    test n 504 _ _ (lit≤ tt, lit< tt) (
    test n 505 _ _ (lit≤ tt, lit< tt) (
    test n 506 _ _ (lit≤ tt, lit< tt) (
    test n 507 _ _ (lit≤ tt, lit< tt) (
    test n 508 _ _ (lit≤ tt, lit< tt) (
    test n 510 _ _ (lit≤ tt, lit< tt) (
    test n 511 _ None (lit≤ tt, lit< tt) (
    λ h. cc))))))))))))))))))))))))))))))))))))))))))))))))))))))))))))))

-- one of the host's statuses
one : (n k : ℕ) (rest : Bool) → IsSome (reason_phrase k) → (IsTrue rest → IsSome (reason_phrase n)) → IsTrue ((k == n) || rest) → IsSome (reason_phrase n)
one n k rest ok next = by (k == n) refl
  where
    by : (v : Bool) → (k == n) ≡ v → IsTrue (v || rest) → IsSome (reason_phrase n)
    by true e h =
        let is : k ≡ n = grind (arith, nat_tests) in
        subst (λ m. IsSome (reason_phrase m)) is ok
    by false e h = next h

-- each of them has a phrase
pub host_status-phrase : (n : ℕ) → IsTrue (is_host_status n) → IsSome (reason_phrase n)
host_status-phrase n =
    one n 200 _ refl (
    one n 201 _ refl (
    one n 400 _ refl (
    one n 403 _ refl (
    one n 404 _ refl (
    one n 405 _ refl (
    one n 409 _ refl (
    one n 411 _ refl (
    one n 413 _ refl (
    one n 422 _ refl (
    one n 501 _ refl (
    one n 503 _ refl (
    λ h. cc))))))))))))
