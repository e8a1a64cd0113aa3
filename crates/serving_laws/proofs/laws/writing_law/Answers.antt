use Rattle.std.proofs.Common.{◌≡◌, ◌∙◌, [], ap, sym, refl}
use Rattle.serving.specs.declared.limits.TheConstants.{MAX_REQUESTS}
use Rattle.serving_laws.specs.Writing.{OneState, answering_so}
use Rattle.serving_laws.proofs.Alike.{runs_alike}
use Rattle.serving_laws.proofs.Unfailing.{unfailing, unfailing_run}
use Rattle.serving_laws.proofs.laws.writing_law.Goals as goal

one_way : {A B : Type 0} (x y : A × B) (a b : A) (c e : B) → x ≡ y → x ≡ (a, c) → y ≡ (b, e) → (a ≡ b) × (c ≡ e)
one_way {A} {B} x y a b c e same is other = (ap (λ (z : A × B). z.0) (sym is ∙ same ∙ other), ap (λ (z : A × B). z.1) (sym is ∙ same ∙ other))

pub returns-clause-one : goal.returns-clause-one
returns-clause-one g c answer all answers w out told new after end stop done done' run run' =
    let so = runs_alike (answering_so g.D.Disk answer) c.cut_law.ensures.head c.reply_law.ensures.one (λ x y. x ≡ y)
    (λ head body moment x y new other said told same r q. one_way (answer head body moment x) (answer head body moment y) new other said told (ap (answer head body moment) same) r.1 q.1)
    refl MAX_REQUESTS all answers answers [] [] w w out told new after end stop refl refl done done' run run' in
    (so.wrote, so.leaves, so.ends)

pub returns-clause-alike : goal.returns-clause-alike
returns-clause-alike g c answer_alike all answers others more besides w v out told new after end stop alike clock done done' still still' run run' =
    let so = runs_alike (unfailing g.D.Disk) c.cut_law.ensures.head c.reply_law.ensures.one OneState answer_alike
    refl MAX_REQUESTS all answers others more besides w v out told new after end stop alike clock done done'
    (unfailing_run g.D.Disk MAX_REQUESTS all answers w out new end done still run) (unfailing_run g.D.Disk MAX_REQUESTS all others v told after stop done' still' run') in
    (so.wrote, so.leaves, so.ends, so.clock)
