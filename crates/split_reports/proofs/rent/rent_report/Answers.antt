use Rattle.std.proofs.Common.{◌∙◌}
use Rattle.std.proofs.lemmas.List.{length-map}
use Rattle.std.proofs.lemmas.Result.{IfOk-weaker}
use Rattle.split_reports.specs.Names.{shown_names}
use Rattle.split_reports.specs.Rent.{figures_shown}
use Rattle.split_reports.proofs.RentFigures.{figures_each}
use Rattle.split_reports.proofs.rent.rent_report.Goals as goal

pub rent_text-requires : goal.rent_text-requires
rent_text-requires c =
    figures_each (shown_names c.args.names.now) c.args.case.now c.args.division.now (figures_shown c.figures_of-figures.result) (length-map c.args.names.now.members.now.items (λ text. text.bytes) ∙ c.requires.members)
    (length-map c.args.names.now.items.now.items (λ text. text.bytes) ∙ c.requires.rooms) c.requires.division c.figures_of-figures.ensures

pub returns : goal.returns
returns c = IfOk-weaker c.rent_text.result _ _ (λ text h. (figures_shown c.figures_of-figures.result, c.figures_of-figures.ensures, h)) c.rent_text.ensures
