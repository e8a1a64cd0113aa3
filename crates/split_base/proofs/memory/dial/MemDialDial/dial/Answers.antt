use Rattle.std.proofs.Common.{◌≡◌, All, subst, sym}
use Rattle.std.proofs.lemmas.List.Elements.{All-drop}
use Rattle.split_base.specs.MemoryPorts.{PortState, after_asking, after_call, with_one_less, faults_of_link}
use Rattle.split_base.proofs.memory.dial.MemDialDial.dial.Goals as goal

-- the links that are left have had no fault
pub invariant_of-self-in-Some : goal.invariant_of-self-in-Some
invariant_of-self-in-Some c =
    let was = c.self.inside.links in
    let P : PortState → Type 0 = λ p. All (λ link. faults_of_link link ≡ 0) p.to_come in
    let left : P (with_one_less (after_call (after_asking c.args.port was))) = All-drop (λ link. faults_of_link link ≡ 0) 1 was.to_come c.self.invariant in
    subst P (sym c.next.ensures.after)
    (subst (λ (p : PortState). P (with_one_less p)) (sym c.begin.ensures.after) (subst (λ (p : PortState). P (with_one_less (after_call p))) (sym c.ask.ensures) left))
