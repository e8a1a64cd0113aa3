use Rattle.std.proofs.Common.{subst, List, arith}
use Rattle.std.specs.Prelude.{All}
use Rattle.std.specs.Str.{IsUtf8}
use Rattle.std.proofs.lemmas.List.{take_all}
use Rattle.std.proofs.lemmas.List.Elements.{All-more}
use Rattle.arrayvec.specs.ArrayString.{ArrayString}
use Rattle.sealed_core.specs.Host.{text}
use Rattle.host_journal.proofs.Fits.{names_more}
use Rattle.host_journal.proofs.writing.put_names.Goals as goal

pub loop-name-preserved : goal.loop-name-preserved
loop-name-preserved c =
    let names = c.args.names.now in
    let i = c.loop-name.name-index in
    let name = c.name-item.result in
    record {
      spelled = rw (c.put_name.ensures.spelled, c.loop-name.invariant.spelled) (names_more c.put.new.body.items names i name c.loop-name-test.true c.name-item.is);
      size = omega (arith, c.put_name.ensures.size, c.loop-name.invariant.size);
      fit = All-more (λ (n : ArrayString). IsUtf8 (text n)) names i name c.loop-name-test.true c.loop-name.invariant.fit (subst (λ (n : ArrayString). IsUtf8 (text n)) c.name-item.is c.put_name.ensures.fits);
    }

pub returns-clause-fit : goal.returns-clause-fit
returns-clause-fit c = subst (λ (names : List ArrayString). All (λ name. IsUtf8 (text name)) names) (take_all c.loop-name.name-index c.args.names.now c.loop-name-test.false) c.loop-name.invariant.fit
