use Rattle.std.proofs.Common.{◌≤◌, ℕ, List, All, length, sym, subst}
use Rattle.reply_texts.proofs.Routes.{route_riders}
use Rattle.reply_texts.proofs.division_texts.fares_value.Goals as goal

pub members_value-requires-clause-players : goal.members_value-requires-clause-players
members_value-requires-clause-players c =
    let case = c.args.case.now in
    let riders = route_riders c.orders_law.ensures.listed case c.args.division.now c.requires.case c.requires.division in
    subst (λ (who : List ℕ). All (λ rider. (1 ≤ rider) × (rider ≤ length who)) c.as_slice-5.result.now) (sym c.as_slice-4.ensures.value)
    (subst (λ (route : List ℕ). All (λ rider. (1 ≤ rider) × (rider ≤ length case.who.items)) route) (sym c.as_slice-5.ensures.value) riders)
