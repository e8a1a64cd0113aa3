use Rattle.std.proofs.Common.{ℕ, List, refl, sym, subst, inl, arith}
use Rattle.bid_rules.specs.declared.cases.Case.TheVariants.{Fares}
use Rattle.bid_rules.specs.declared.cases.FareCase.{FareCase}
use Rattle.bid_rules.specs.Facts.{IsValidFareCase}
use Rattle.certificates.specs.Canonical.{IsCanonical, canonical_text}
use Rattle.certificates.specs.declared.division.Division.TheVariants as division
use Rattle.fair_solver.specs.Replies.{HandsCertificate}
use Rattle.fair_solver.proofs.fair_fares.Goals as goal

pub returns-in-Ok : goal.returns-in-Ok
returns-in-Ok c =
    let case = c.in-Ok.case in
    let is = c.in-Ok.ensures in
    let same = is.1 in
    let valid = subst IsValidFareCase (sym same) is.0.1.2 in
    let done = c.divide_fare.ensures in
    let text : List ℕ = canonical_text (Fares case) (division.Fares done.0) in
    let canonical : IsCanonical (Fares case) text = (division.Fares done.0, done.1, refl) in
    let short = c.certificate_law.ensures.short (Fares case) text valid canonical in
    let put = done.2.1 (omega (arith, short)) in
    let size = put.0 in
    let hands : HandsCertificate (Fares case) c.divide_fare.result c.args.text.now c.divide_fare.new.text = (text, canonical, omega (arith, size), λ fits. put.1 (omega (arith, fits))) in
    inl (refl, is.0, subst (λ (x : FareCase). HandsCertificate (Fares x) c.divide_fare.result c.args.text.now c.divide_fare.new.text) same hands)
