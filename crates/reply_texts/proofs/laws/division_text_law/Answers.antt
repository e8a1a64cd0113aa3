use Rattle.std.proofs.Common.{subst}
use Rattle.certificates.specs.declared.division.Division.{Division}
use Rattle.reply_texts.specs.Divisions.{IsDivisionText}
use Rattle.reply_texts.proofs.OneText.{one_text}
use Rattle.reply_texts.proofs.laws.division_text_law.Goals as goal

pub returns : goal.returns
returns c given division other text others valid is same a b =
    one_text given other text others (subst (λ (d : Division). IsDivisionText given d text) (c.division_law.ensures given division other valid is same) a) b
