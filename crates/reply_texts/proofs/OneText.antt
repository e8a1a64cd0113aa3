-- A division has one text.
use Rattle.std.proofs.Common.{◌≡◌, ℕ, List, sym, ◌∙◌}
use Rattle.bid_rules.specs.declared.cases.Case.{Case}
use Rattle.bid_rules.specs.declared.cases.Case.TheVariants as case
use Rattle.certificates.specs.declared.division.Division.{Division}
use Rattle.certificates.specs.declared.division.Division.TheVariants.{Rent, Goods, Fares}
use Rattle.reply_texts.specs.Divisions.{IsDivisionText}

pub one_text : (given : Case) (division : Division) (text other : List ℕ) → IsDivisionText given division text → IsDivisionText given division other → text ≡ other
one_text (case.Rent rent) (Rent division) text other a b = a ∙ sym b
one_text (case.Rent rent) (Goods division) text other a b = absurd a
one_text (case.Rent rent) (Fares division) text other a b = absurd a
one_text (case.Goods goods) (Goods division) text other a b = a ∙ sym b
one_text (case.Goods goods) (Rent division) text other a b = absurd a
one_text (case.Goods goods) (Fares division) text other a b = absurd a
one_text (case.Fares fares) (Fares division) text other a b = a ∙ sym b
one_text (case.Fares fares) (Rent division) text other a b = absurd a
one_text (case.Fares fares) (Goods division) text other a b = absurd a
