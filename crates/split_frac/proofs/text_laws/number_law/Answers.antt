use Rattle.std.proofs.Common.{pos, refl}
use Rattle.std.specs.Fmt.{decimal, signed_decimal}
use Rattle.split_frac.specs.Frac.{frac_text, fraction_of}
use Rattle.split_frac.proofs.NumberTexts.{natural_text, texts_of_pairs, whole_text}
use Rattle.split_frac.proofs.text_laws.number_law.Goals as goal

pub returns-clause-natural : goal.returns-clause-natural
returns-clause-natural c = natural_text

pub returns-clause-whole : goal.returns-clause-whole
returns-clause-whole c = whole_text

pub returns-clause-naturals : goal.returns-clause-naturals
returns-clause-naturals c = texts_of_pairs decimal (λ number. (pos number, 1)) natural_text

pub returns-clause-wholes : goal.returns-clause-wholes
returns-clause-wholes c = texts_of_pairs signed_decimal (λ number. (number, 1)) whole_text

pub returns-clause-fractions : goal.returns-clause-fractions
returns-clause-fractions c = texts_of_pairs frac_text fraction_of (λ number. refl)
