use Rattle.std.proofs.Common.{ℕ, List, refl, sym, subst, inl, arith}
use Rattle.bid_rules.specs.declared.cases.Case.TheVariants.{Rent}
use Rattle.bid_rules.specs.declared.rents.RentCase.{RentCase}
use Rattle.bid_rules.specs.Rent.{IsValidRentCase}
use Rattle.certificates.specs.Canonical.{IsCanonical, canonical_text}
use Rattle.certificates.specs.declared.division.Division.TheVariants as division
use Rattle.fair_solver.specs.Replies.{HandsCertificate}
use Rattle.fair_solver.proofs.fair_rent.Goals as goal

pub returns-in-Ok : goal.returns-in-Ok
returns-in-Ok c =
    let case = c.in-Ok.case in
    let is = c.in-Ok.ensures in
    let same = is.1 in
    let valid = subst IsValidRentCase (sym same) is.0.1 in
    let text : List ℕ = canonical_text (Rent case) (division.Rent c.solve_rent-division.result) in
    let canonical : IsCanonical (Rent case) text = (division.Rent c.solve_rent-division.result, c.solve_rent-division.ensures.division, refl) in
    let short = c.certificate_law.ensures.short (Rent case) text valid canonical in
    let put = c.put_rent.ensures.1 (omega (arith, short)) in
    let size = put.0 in
    let hands : HandsCertificate (Rent case) c.put_rent.result c.args.text.now c.put_rent.new.text = (text, canonical, omega (arith, size), λ fits. put.1 (omega (arith, fits))) in
    inl (refl, is.0, subst (λ (x : RentCase). HandsCertificate (Rent x) c.put_rent.result c.args.text.now c.put_rent.new.text) same hands)
