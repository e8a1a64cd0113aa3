use Rattle.std.proofs.Common.{ℕ, List, Option, Some, IfOk, sym, subst}
use Rattle.std.specs.Option.{option_map}
use Rattle.goods_audit.specs.Domination.{OwnersByGood}
use Rattle.goods_audit.specs.Texts.{IsAuditText}
use Rattle.split_reports.specs.Names.{names_of}
use Rattle.split_json.specs.Reading.{case_data_of}
use Rattle.input_commands.proofs.weighing.audit_beside.Goals as goal

pub returns-in-Some : goal.returns-in-Some
returns-in-Some c =
    let given = names_of (case_data_of c.args.input.now) in
    let case = c.args.case.now in
    let owners = c.args.owners.now in
    let told = subst (λ (others : List ℕ). IfOk c.audit_text.result (λ text. IsAuditText given case owners (Some others) text.items)) c.as_slice.ensures.value c.audit_text.ensures in
    subst (λ (better : Option OwnersByGood). IfOk c.audit_text.result (λ text. IsAuditText given case owners (option_map (λ (others : OwnersByGood). others.items) better) text.items))
    (sym c.in-Some.is) told

pub returns-in-None : goal.returns-in-None
returns-in-None c =
    let given = names_of (case_data_of c.args.input.now) in
    let case = c.args.case.now in
    let owners = c.args.owners.now in
    subst (λ (better : Option OwnersByGood). IfOk c.audit_text-in-None.result (λ text. IsAuditText given case owners (option_map (λ (others : OwnersByGood). others.items) better) text.items))
    (sym c.in-None.is) c.audit_text-in-None.ensures
