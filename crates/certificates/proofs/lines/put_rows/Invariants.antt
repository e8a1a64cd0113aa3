-- The lines so far were put.
use Rattle.std.proofs.Common.{flat_map, map, pos, take}
use Rattle.cert_reader.specs.Text.{wholes}
use Rattle.certificates.specs.Lines.{number_line}
use Rattle.certificates.specs.Puts.{Puts}
use Rattle.certificates.proofs.lines.put_rows.Given as goal

abbrev pub invariant-loop-row : goal.invariant-loop-row
invariant-loop-row g l = Puts (flat_map (λ row. number_line l.word (wholes (map pos row.items))) (take l.row-index l.rows)) l.used l.initial.text l.text l.end
