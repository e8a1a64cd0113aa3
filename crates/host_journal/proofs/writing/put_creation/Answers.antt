use Rattle.std.proofs.Common.{List, subst}
use Rattle.std.specs.Prelude.{All}
use Rattle.std.specs.Str.{IsUtf8}
use Rattle.arrayvec.specs.ArrayString.{ArrayString}
use Rattle.sealed_core.specs.Host.{text}
use Rattle.host_journal.proofs.writing.put_creation.Goals as goal

pub returns-clause-members : goal.returns-clause-members
returns-clause-members c = subst (λ (names : List ArrayString). All (λ name. IsUtf8 (text name)) names) c.as_slice.ensures.value c.put_names.ensures.fit

pub returns-clause-items : goal.returns-clause-items
returns-clause-items c = subst (λ (names : List ArrayString). All (λ name. IsUtf8 (text name)) names) c.as_slice-2.ensures.value c.put_names-2.ensures.fit
