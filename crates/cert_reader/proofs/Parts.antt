-- A part of a text, and the piece that it is.
use Rattle.std.proofs.Common.{◌≡◌, ℕ, IfOk, ap, refl}
use Rattle.std.specs.Prelude.{Result, Ok, Err}
use Rattle.cert_reader.specs.declared.ends.TextEnd.{TextEnd}
use Rattle.cert_reader.specs.declared.ends.TextEnd.TheVariants.{NotText, ReadFault, TooLong}
use Rattle.cert_reader.specs.declared.pieces.Part.{Part}
use Rattle.cert_reader.specs.declared.pieces.Part.TheVariants as part
use Rattle.cert_reader.specs.declared.pieces.Piece.TheVariants.{Done}
use Rattle.cert_reader.specs.Gathered.{Gathered}
use Rattle.cert_reader.specs.Reading.{piece_of, with_numbers}
use Rattle.cert_reader.specs.Stream.{faults_after_reading}

-- both count the same faults
pub same_faults : (before : ℕ) (answer : Result Part TextEnd) (numbers : Gathered) → faults_after_reading before (with_numbers answer numbers) ≡ faults_after_reading before answer
same_faults before (Ok one) numbers = refl
same_faults before (Err (NotText line)) numbers = refl
same_faults before (Err ReadFault) numbers = refl
same_faults before (Err TooLong) numbers = refl

-- where the piece is not the last, neither is the part
pub same_more : (answer : Result Part TextEnd) (numbers : Gathered) (P : Type 0) → IfOk answer (λ one. (one ≡ part.Done → ⊥) → P) → IfOk (with_numbers answer numbers) (λ piece. (piece ≡ Done → ⊥) → P)
same_more (Ok one) numbers P h = λ other. h (λ e. other (ap (λ p. piece_of p numbers) e))
same_more (Err end) numbers P h = h
