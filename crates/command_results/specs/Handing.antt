-- What a caller with a buffer is given of an ending.
use Rattle.std.specs.Prelude.{◌≡◌, ◌<◌, ◌≤◌, ℕ, List, Result, length, take}
use Rattle.command_results.specs.Endings.{owed}
use Rattle.command_results.specs.declared.stop.Stop.{Stop}

-- the size is that of the words; a buffer with room for them begins with them, and one without is as it was
pub record IsCopied (words : List ℕ) (size : ℕ) (before after : List ℕ) : Type 0 where
  pub told : size ≡ length words
  pub copied : length words ≤ length before → take (length words) after ≡ words
  pub kept : length before < length words → after ≡ before

-- the status is the one that the ending owes, and so is the text that is handed out
pub record HandsOut (ending : Result (List ℕ) Stop) (status size : ℕ) (before after : List ℕ) : Type 0 where
  pub due : status ≡ (owed ending).status
  pub text : IsCopied (owed ending).text size before after
