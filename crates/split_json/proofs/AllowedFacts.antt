-- What is answered of facts, by whether they are checked.
use Rattle.std.proofs.Common.{◌≡◌, Bool, true, false, Some, None, Ok, Err, if◌then◌else◌, refl, sym, ap}
use Rattle.std.specs.Option.{ok_or}
use Rattle.body_fields.specs.declared.fields.FieldName.{FieldName}
use Rattle.bid_rules.specs.declared.bids.Facts.{Facts}
use Rattle.bid_rules.specs.Checks.{passes_facts}
use Rattle.bid_rules.specs.Facts.{IsCheckedFacts}
use Rattle.split_lemmas.proofs.Checks.{facts_decided}
use Rattle.split_json.specs.Reading.{facts_or_field}

-- checked facts are allowed
pub allowed_checked : (name : FieldName) (given : Facts) → IsCheckedFacts given → Ok given ≡ facts_or_field name given
unfolding facts_or_field
allowed_checked name given checked = sym (ap (λ (test : Bool). ok_or (if test then Some given else None) name) ((facts_decided given).1 checked))

failed : (test : Bool) → (test ≡ true → ⊥) → test ≡ false
failed true not = absurd (not refl)
failed false not = refl

-- of others the field is named
pub allowed_refused : (name : FieldName) (given : Facts) → (IsCheckedFacts given → ⊥) → Err name ≡ facts_or_field name given
unfolding facts_or_field
allowed_refused name given not =
    let fails = failed (passes_facts given) (λ is. not ((facts_decided given).0 is)) in
    sym (ap (λ (test : Bool). ok_or (if test then Some given else None) name) fails)
