-- The writer of a dump, between two of its rows. Only contracts of private functions use this.
use Rattle.std.specs.Prelude.{◌≡◌, ℕ, List, Some, false, Vec}
use Rattle.csv.specs.Writing.{default_writer, writer_setup, fields_written, has_written, text_written}
use Rattle.csv.specs.declared.writer.Writer.{Writer}
use Rattle.std.specs.declared.alloc.Global.{Global}

-- the writer has written this text, and has begun no row after it
pub record IsBetweenRows (w : Writer (Vec ℕ Global)) (text : List ℕ) : Type 0 where
  pub setup : writer_setup w ≡ default_writer
  pub fields : fields_written w ≡ 0
  pub clean : has_written w ≡ false
  pub written : text_written (λ v. Some v.items) w ≡ Some text
