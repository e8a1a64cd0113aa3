-- What a line leaves open has as many ways as are tried.
use Rattle.std.proofs.Common.{◌≡◌, ℕ, zero, suc, ◌+◌, ◌-◌, ◌<◌, ◌==◌, length, refl, ap, sym, subst, ◌∙◌, arith, false}
use Rattle.std.proofs.lemmas.Bool.Decides.{nat_tests}
use Rattle.cert_reader.specs.declared.forms.Counts.{Counts}
use Rattle.cert_reader.specs.declared.forms.Counts.TheVariants.{Fares, Goods, Pair, Rent}
use Rattle.cert_reader.specs.declared.forms.Word.TheVariants as word
use Rattle.cert_reader.specs.declared.places.TheConstants.{FARES_PLACES, FARES_RIDERS, GOODS_COUNT, GOODS_PLAYERS, KIND_LINE, PAIR_GOODS, RENT_MEMBERS}
use Rattle.cert_reader.specs.Forms.{AreInRange, fares_forms, forms_of, goods_forms, led_by, rent_forms}
use Rattle.cert_reader.specs.Order.{AgreeUpTo, choice_count, choice_of, form_in}
use Rattle.cert_reader.proofs.Agreeing.{agree_whole}
use Rattle.cert_reader.proofs.FormPlaces.{lines_some}

-- counts agree with themselves
pub agree_same : (k : ℕ) (counts : Counts) → AgreeUpTo k counts counts
agree_same k (Rent n) = λ _. refl
agree_same k (Goods n goods) = (λ _. refl, λ _. refl)
agree_same k (Fares n places) = (λ _. refl, λ _. refl)
agree_same k (Pair goods) = λ _. refl

-- each way gives counts that a text can have, that agree with those known, and that have the line
pub record IsChoice (index : ℕ) (known counts : Counts) : Type 0 where
  pub are : AreInRange counts
  pub agree : AgreeUpTo index known counts
  pub within : index < length (forms_of counts)

-- a place is none of those before it
not_there : (index place : ℕ) → place < index → (index == place) ≡ false
not_there index place h = grind (arith, nat_tests)

-- after the lines of counts nothing is open: there is one way, and it gives the known counts
choice_after : (index : ℕ) (known : Counts) (choice : ℕ) → 3 < index → choice_of index known choice ≡ known
choice_after index (Pair goods) choice h = rw (not_there index PAIR_GOODS (omega arith))
choice_after index (Rent n) choice h = rw (not_there index KIND_LINE (omega arith), not_there index RENT_MEMBERS (omega arith))
choice_after index (Goods n goods) choice h = rw (not_there index KIND_LINE (omega arith), not_there index GOODS_PLAYERS (omega arith), not_there index GOODS_COUNT (omega arith))
choice_after index (Fares n places) choice h = rw (not_there index KIND_LINE (omega arith), not_there index FARES_RIDERS (omega arith), not_there index FARES_PLACES (omega arith))

count_after : (index : ℕ) (known : Counts) → 3 < index → choice_count index known ≡ 1
count_after index (Pair goods) h = rw (not_there index PAIR_GOODS (omega arith))
count_after index (Rent n) h = rw (not_there index KIND_LINE (omega arith), not_there index RENT_MEMBERS (omega arith))
count_after index (Goods n goods) h = rw (not_there index KIND_LINE (omega arith), not_there index GOODS_PLAYERS (omega arith), not_there index GOODS_COUNT (omega arith))
count_after index (Fares n places) h = rw (not_there index KIND_LINE (omega arith), not_there index FARES_RIDERS (omega arith), not_there index FARES_PLACES (omega arith))

-- each way that is tried gives such counts
pub choice_valid : (index : ℕ) (known : Counts) (choice : ℕ) → AreInRange known → index < length (forms_of known) → choice < choice_count index known → IsChoice index known (choice_of index known choice)
choice_valid zero (Rent n) choice are within low = record { are = are; agree = agree_same zero (Rent n); within = within }
choice_valid zero (Goods n goods) choice are within low = record { are = are; agree = agree_same zero (Goods n goods); within = within }
choice_valid zero (Fares n places) choice are within low = record { are = are; agree = agree_same zero (Fares n places); within = within }
choice_valid zero (Pair goods) choice are within low = record { are = are; agree = agree_same zero (Pair goods); within = within }
choice_valid (suc zero) (Rent n) zero are within low = record { are = (omega arith, omega arith); agree = λ h. absurd (omega arith); within = (let some = lines_some (Rent 1) in omega arith) }
choice_valid (suc zero) (Goods n goods) zero are within low = record { are = (omega arith, omega arith); agree = omega arith; within = (let some = lines_some (Rent 1) in omega arith) }
choice_valid (suc zero) (Fares n places) zero are within low = record { are = (omega arith, omega arith); agree = omega arith; within = (let some = lines_some (Rent 1) in omega arith) }
choice_valid (suc zero) (Rent n) (suc zero) are within low = record { are = (omega arith, omega arith, omega arith, omega arith); agree = omega arith; within = (let some = lines_some (Goods 1 1) in omega arith) }
choice_valid (suc zero) (Goods n goods) (suc zero) are within low = record { are = (omega arith, omega arith, omega arith, omega arith); agree = (λ h. absurd (omega arith), λ h. absurd (omega arith)); within = (let some = lines_some (Goods 1 1) in omega arith) }
choice_valid (suc zero) (Fares n places) (suc zero) are within low = record { are = (omega arith, omega arith, omega arith, omega arith); agree = omega arith; within = (let some = lines_some (Goods 1 1) in omega arith) }
choice_valid (suc zero) (Rent n) (suc (suc choice)) are within low = record { are = (omega arith, omega arith, omega arith, omega arith); agree = omega arith; within = (let some = lines_some (Fares 1 1) in omega arith) }
choice_valid (suc zero) (Goods n goods) (suc (suc choice)) are within low = record { are = (omega arith, omega arith, omega arith, omega arith); agree = omega arith; within = (let some = lines_some (Fares 1 1) in omega arith) }
choice_valid (suc zero) (Fares n places) (suc (suc choice)) are within low = record { are = (omega arith, omega arith, omega arith, omega arith); agree = (λ h. absurd (omega arith), λ h. absurd (omega arith)); within = (let some = lines_some (Fares 1 1) in omega arith) }
choice_valid (suc zero) (Pair goods) choice are within low = record { are = (omega arith, omega arith); agree = λ h. absurd (omega arith); within = (let some = lines_some (Pair (choice + 1)) in omega arith) }
choice_valid (suc (suc zero)) (Pair goods) choice are within low = record { are = are; agree = agree_same 2 (Pair goods); within = within }
choice_valid (suc (suc (suc zero))) (Pair goods) choice are within low = record { are = are; agree = agree_same 3 (Pair goods); within = within }
choice_valid (suc (suc zero)) (Rent n) choice are within low = record { are = (omega arith, omega arith); agree = λ h. absurd (omega arith); within = (let some = lines_some (Rent (choice + 1)) in omega arith) }
choice_valid (suc (suc zero)) (Goods n goods) choice are within low = record { are = (omega arith, omega arith, omega arith, omega arith); agree = (λ h. absurd (omega arith), λ h. absurd (omega arith)); within = (let some = lines_some (Goods (choice + 1) 1) in omega arith) }
choice_valid (suc (suc zero)) (Fares n places) choice are within low = record { are = (omega arith, omega arith, omega arith, omega arith); agree = (λ h. absurd (omega arith), λ h. absurd (omega arith)); within = (let some = lines_some (Fares (choice + 1) 1) in omega arith) }
choice_valid (suc (suc (suc zero))) (Rent n) choice are within low = record { are = are; agree = agree_same 3 (Rent n); within = within }
choice_valid (suc (suc (suc zero))) (Goods n goods) choice are within low = record { are = (are.0, are.1, omega arith, omega arith); agree = (λ _. refl, λ h. absurd (omega arith)); within = (let some = lines_some (Goods n (choice + 1)) in omega arith) }
choice_valid (suc (suc (suc zero))) (Fares n places) choice are within low = record { are = (are.0, are.1, omega arith, omega arith); agree = (λ _. refl, λ h. absurd (omega arith)); within = (let some = lines_some (Fares n (choice + 1)) in omega arith) }
choice_valid (suc (suc (suc (suc index)))) known choice are within low =
    subst (IsChoice (suc (suc (suc (suc index)))) known) (sym (choice_after (suc (suc (suc (suc index)))) known choice (omega arith)))
    (record { are = are; agree = agree_same (suc (suc (suc (suc index)))) known; within = within })

-- and all counts that agree have the form of one of the ways
pub record IsTried (index : ℕ) (known counts : Counts) : Type 0 where
  pub choice : ℕ
  pub low : choice < choice_count index known
  pub same : form_in (choice_of index known choice) index ≡ form_in counts index

-- counts that agree with those known have the form of one of the ways that are tried
pub choice_whole : (index : ℕ) (known counts : Counts) → AreInRange counts → AgreeUpTo index known counts → IsTried index known counts
unfolding rent_forms goods_forms fares_forms
choice_whole index (Pair n) (Rent m) are agree = absurd agree
choice_whole index (Pair n) (Goods m others) are agree = absurd agree
choice_whole index (Pair n) (Fares m others) are agree = absurd agree
choice_whole index (Rent n) (Pair m) are agree = absurd agree
choice_whole index (Goods n goods) (Pair m) are agree = absurd agree
choice_whole index (Fares n places) (Pair m) are agree = absurd agree
choice_whole zero (Pair n) (Pair m) are agree = record { choice = 0; low = omega arith; same = refl }
choice_whole (suc zero) (Pair n) (Pair m) are agree = record {
  choice = m - 1;
  low = (let some = are.0 in let few = are.1 in omega arith);
  same = ap (λ k. led_by word.Goods k 1) (let some = are.0 in let back : m - 1 + 1 ≡ m = omega arith in back);
}
choice_whole (suc (suc zero)) (Pair n) (Pair m) are agree = record { choice = 0; low = omega arith; same = ap (λ k. form_in (Pair k) 2) (agree (omega arith)) }
choice_whole (suc (suc (suc zero))) (Pair n) (Pair m) are agree = record { choice = 0; low = omega arith; same = ap (λ k. form_in (Pair k) 3) (agree (omega arith)) }
choice_whole zero (Rent n) (Rent m) are agree = record { choice = 0; low = omega arith; same = refl }
choice_whole zero (Rent n) (Goods m others) are agree = record { choice = 0; low = omega arith; same = refl }
choice_whole zero (Rent n) (Fares m others) are agree = record { choice = 0; low = omega arith; same = refl }
choice_whole zero (Goods n goods) (Rent m) are agree = record { choice = 0; low = omega arith; same = refl }
choice_whole zero (Goods n goods) (Goods m others) are agree = record { choice = 0; low = omega arith; same = refl }
choice_whole zero (Goods n goods) (Fares m others) are agree = record { choice = 0; low = omega arith; same = refl }
choice_whole zero (Fares n places) (Rent m) are agree = record { choice = 0; low = omega arith; same = refl }
choice_whole zero (Fares n places) (Goods m others) are agree = record { choice = 0; low = omega arith; same = refl }
choice_whole zero (Fares n places) (Fares m others) are agree = record { choice = 0; low = omega arith; same = refl }
choice_whole (suc zero) (Rent n) (Rent m) are agree = record { choice = 0; low = omega arith; same = refl }
choice_whole (suc zero) (Goods n goods) (Rent m) are agree = record { choice = 0; low = omega arith; same = refl }
choice_whole (suc zero) (Fares n places) (Rent m) are agree = record { choice = 0; low = omega arith; same = refl }
choice_whole (suc zero) (Rent n) (Goods m others) are agree = record { choice = 1; low = omega arith; same = refl }
choice_whole (suc zero) (Goods n goods) (Goods m others) are agree = record { choice = 1; low = omega arith; same = refl }
choice_whole (suc zero) (Fares n places) (Goods m others) are agree = record { choice = 1; low = omega arith; same = refl }
choice_whole (suc zero) (Rent n) (Fares m others) are agree = record { choice = 2; low = omega arith; same = refl }
choice_whole (suc zero) (Goods n goods) (Fares m others) are agree = record { choice = 2; low = omega arith; same = refl }
choice_whole (suc zero) (Fares n places) (Fares m others) are agree = record { choice = 2; low = omega arith; same = refl }
choice_whole (suc (suc zero)) (Rent n) (Rent m) are agree = record {
  choice = m - 1;
  low = (let some = are.0 in let few = are.1 in omega arith);
  same = ap (λ k. led_by word.Members k 1) (let some = are.0 in let back : m - 1 + 1 ≡ m = omega arith in back);
}
choice_whole (suc (suc zero)) (Goods n goods) (Goods m others) are agree = record {
  choice = m - 1;
  low = (let some = are.0 in let few = are.1 in omega arith);
  same = ap (λ k. led_by word.Players k 1) (let some = are.0 in let back : m - 1 + 1 ≡ m = omega arith in back);
}
choice_whole (suc (suc zero)) (Fares n places) (Fares m others) are agree = record {
  choice = m - 1;
  low = (let some = are.0 in let few = are.1 in omega arith);
  same = ap (λ k. led_by word.Riders k 1) (let some = are.0 in let back : m - 1 + 1 ≡ m = omega arith in back);
}
choice_whole (suc (suc (suc zero))) (Rent n) (Rent m) are agree = record { choice = 0; low = omega arith; same = refl }
choice_whole (suc (suc (suc zero))) (Goods n goods) (Goods m others) are agree = record {
  choice = others - 1;
  low = (let some = are.2 in let few = are.3 in omega arith);
  same = ap (λ k. led_by word.Goods k 1) (let some = are.2 in let back : others - 1 + 1 ≡ others = omega arith in back);
}
choice_whole (suc (suc (suc zero))) (Fares n places) (Fares m others) are agree = record {
  choice = others - 1;
  low = (let some = are.2 in let few = are.3 in omega arith);
  same = ap (λ k. led_by word.Places k 1) (let some = are.2 in let back : others - 1 + 1 ≡ others = omega arith in back);
}
choice_whole (suc (suc (suc (suc index)))) known counts are agree = record {
  choice = 0;
  low = (let one = count_after (suc (suc (suc (suc index)))) known (omega arith) in omega arith);
  same = ap (λ c. form_in c (suc (suc (suc (suc index))))) (choice_after (suc (suc (suc (suc index)))) known 0 (omega arith) ∙ agree_whole (suc (suc (suc (suc index)))) known counts (omega arith) agree);
}
choice_whole (suc (suc index)) (Rent n) (Goods m others) are agree = absurd (omega arith)
choice_whole (suc (suc index)) (Rent n) (Fares m others) are agree = absurd (omega arith)
choice_whole (suc (suc index)) (Goods n goods) (Rent m) are agree = absurd (omega arith)
choice_whole (suc (suc index)) (Goods n goods) (Fares m others) are agree = absurd (omega arith)
choice_whole (suc (suc index)) (Fares n places) (Rent m) are agree = absurd (omega arith)
choice_whole (suc (suc index)) (Fares n places) (Goods m others) are agree = absurd (omega arith)
