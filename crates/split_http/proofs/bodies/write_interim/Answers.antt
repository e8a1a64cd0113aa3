use Rattle.std.proofs.Common.{OnErr, IsTrue, Result, Ok, Err, Bool, true, false, List, ℕ, Option, refl, subst}
use Rattle.split_http.specs.Pieces.{AppendsProperPart}
use Rattle.split_http.specs.Turns.{interim_of}
use Rattle.split_http.proofs.PieceLemmas.{OnErr-front, proper_of_none}
use Rattle.split_http.proofs.bodies.write_interim.Goals as goal

pub returns-clause-part : goal.returns-clause-part
returns-clause-part g c =
    subst (λ line. OnErr c.write_all.result (AppendsProperPart (g.S.Sink.written c.args.sink.now) (g.S.Sink.written c.write_all.new.sink) line)) c.interim.ensures
    (OnErr-front c.write_all.result _ _ _ c.write_all.ensures.prefix)

-- a write fails only where some bytes are due
is_due : {A E : Type 0} (r : Result A E) (due : Bool) (a b : Option (List ℕ)) → OnErr r (AppendsProperPart a b (interim_of due)) → OnErr r (IsTrue due)
is_due (Ok x) due a b h = tt
is_due (Err e) true a b h = refl
is_due (Err e) false a b h = absurd (proper_of_none a b h)

pub returns-clause-due : goal.returns-clause-due
returns-clause-due g c = is_due c.write_all.result c.args.due _ _ (returns-clause-part g c)
