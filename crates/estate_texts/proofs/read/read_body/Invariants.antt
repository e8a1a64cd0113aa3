use Rattle.std.proofs.Common.{◌≡◌, ◌≤◌, ◌++◌, drop, length, take}
use Rattle.estate_texts.specs.Forms.{AreHeld, body_forms, body_lines, rows_numbers}
use Rattle.estate_texts.specs.Lines.{lines_text}
use Rattle.estate_texts.specs.Texts.{head_lines}
use Rattle.estate_texts.proofs.read.read_body.Given as goal

abbrev pub invariant-loop-index : goal.invariant-loop-index
invariant-loop-index l = record {
  rows : length l.rows.items ≡ l.index;
  within : l.next ≤ length l.text;
  held : AreHeld (take l.index (body_forms l.head.players l.head.goods)) (rows_numbers l.rows.items);
  text : l.text ≡ lines_text (head_lines l.head.players l.head.goods ++ body_lines (body_forms l.head.players l.head.goods) (rows_numbers l.rows.items)) ++ drop l.next l.text;
}
