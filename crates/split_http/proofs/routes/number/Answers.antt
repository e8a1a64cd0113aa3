use Rattle.std.proofs.Common.{◌≡◌, ◌<◌, ◌≤◌, ◌^◌, arith, rules, IsTrue, Bool, true, false}
use Rattle.std.specs.Str.Parse.{digits_value}
use Rattle.split_http.proofs.NumberLemmas.{zero_leads, no_digits, number_past, number_stands}
use Rattle.split_http.proofs.routes.number.Goals as goal

clash : (v : Bool) → IsTrue v → v ≡ false → ⊥
clash true a b = cc
clash false a b = cc

pub returns-then-leads_zero : goal.returns-then-leads_zero
returns-then-leads_zero c = zero_leads _ (c.leads_zero.ensures.0 c.if-leads_zero.true)

pub returns-then-number-lt-PAST_IDS : goal.returns-then-number-lt-PAST_IDS
returns-then-number-lt-PAST_IDS c =
    let small : c.in-Some.number < 2 ^ 32 = omega (arith, c.if-number-lt-PAST_IDS.true) in
    let is : c.in-Some.number ≡ digits_value 10 c.args.text.now = omega (arith, c.in-Some.ensures.1) in
    number_stands _ _ c.in-Some.ensures.0 (λ e. clash _ (c.leads_zero.ensures.1 e) c.if-leads_zero.false) is small

pub returns-else-number-lt-PAST_IDS : goal.returns-else-number-lt-PAST_IDS
returns-else-number-lt-PAST_IDS c =
    let great : 2 ^ 32 ≤ digits_value 10 c.args.text.now = omega (arith, c.in-Some.ensures.1, c.if-number-lt-PAST_IDS.false) in
    number_past _ great

pub returns-in-None : goal.returns-in-None
returns-in-None c = no_digits _ (search rules)
