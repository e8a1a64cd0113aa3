use Rattle.std.proofs.Common.{arith, ◌≡◌, length, get_or, ◌-◌, ◌<◌, ◌^◌, ◌≤◌, ◌∙◌, sym, refl}
use Rattle.std.proofs.lemmas.List.{take_all}
use Rattle.cert_reader.proofs.Digits.{long_enough, zero_alone, each_digit, power_small, one_more, front_more, front_step}
use Rattle.std.proofs.Math.Nat.{pow-le-pow_right}
use Rattle.cert_reader.proofs.number.read_digits.Goals as goal
use Rattle.cert_reader.proofs.number.read_digits.Goals.{else-token-gt1-via-then-token-gt1+else-token-eq48, else-token-gt1-via-else-token-gt1}

pub returns-then-token-eq48 : goal.returns-then-token-eq48
returns-then-token-eq48 c n small e = zero_alone n c.args.token.now small e c.if-token-gt1.true c.if-token-eq48.true

pub returns-then-token-eq0 : goal.returns-then-token-eq0
returns-then-token-eq0 c n small e = let long = long_enough n c.args.token.now small e in omega (arith, c.then-token-eq0.either)

pub returns-then-byte-lt48 : goal.returns-then-byte-lt48
returns-then-byte-lt48 c n small e =
    let digit = each_digit n c.args.token.now c.loop-byte.byte-index small e (omega arith) in
    omega arith

pub overflow_mul-value : goal.overflow_mul-value
overflow_mul-value c =
    let small = power_small c.loop-byte.value c.loop-byte.byte-index c.loop-byte.invariant.size (omega arith) in
    omega arith

pub overflow_add-value : goal.overflow_add-value
overflow_add-value c =
    let small = power_small c.loop-byte.value c.loop-byte.byte-index c.loop-byte.invariant.size (omega arith) in
    omega arith

pub loop-byte-init : goal.loop-byte-init
loop-byte-init c = record {
  size = omega arith;
  none = λ _. omega arith;
  lead = elim c.else-token-gt1.branch [ else-token-gt1-via-then-token-gt1+else-token-eq48 w ↦ (λ _ h. w.if-token-eq48.false h) | else-token-gt1-via-else-token-gt1 w ↦ (λ h _. omega arith) ];
  front = λ h _. absurd (omega arith);
  so_far = λ h. absurd (omega arith);
}

pub loop-byte-preserved : goal.loop-byte-preserved
loop-byte-preserved c =
    let v = c.loop-byte.value in
    let i = c.loop-byte.byte-index in
    let inv = c.loop-byte.invariant in
    let token = c.args.token.now in
    let small : v < 10 ^ 24 = power_small v i inv.size (omega arith) in
    let low : 48 ≤ get_or token i 0 = c.if-byte-lt48.false in
    let high : get_or token i 0 ≤ 57 = c.if-byte-gt57.false in
    let within : i < length token = c.loop-byte-test.true in
    record {
      size = one_more v (get_or token i 0 - 48) i inv.size (omega arith);
      none = λ h. absurd (omega arith);
      lead = inv.lead;
      front = λ _ long. front_step v (get_or token i 0) i token refl low inv.lead inv.front long;
      so_far = λ _. front_more v (get_or token i 0) i token within refl low high (omega arith) inv.none (λ some. inv.front some (omega arith)) inv.so_far;
    }

pub returns : goal.returns
returns c =
    let i = c.loop-byte.byte-index in
    let inv = c.loop-byte.invariant in
    let token = c.args.token.now in
    let end : i ≡ length token = omega arith in
    let grows : 10 ^ i ≤ 10 ^ 25 = pow-le-pow_right {n = 10} (omega arith) {i = i} {j = 25} (omega arith) in
    (omega arith, sym (inv.so_far (omega arith) ∙ take_all i token (omega arith)))
