-- A page, into which the text of a reply is written. No public contract names these definitions.
use Rattle.std.specs.Prelude.{◌≡◌, ℕ, ◌<◌, ◌++◌, true, false, List, length, Option, Some}
use Rattle.serde_json.specs.Data.{Data}
use Rattle.serde_json.specs.Written.{compact_text}
use Rattle.reply_texts.specs.declared.page.Page.{Page}
use Rattle.reply_texts.specs.declared.sizes.TheConstants.{REPLY_MOST}

-- what was written so far is this text: the page has it, or it is longer than a page
pub record Holds (page : Page) (text : List ℕ) : Type 0 where
  pub fits : page.full ≡ false → page.bytes.items ≡ text
  pub over : page.full ≡ true → REPLY_MOST < length text

-- after what was written so far these bytes were written
abbrev pub Puts : Page → Page → List ℕ → Type 0
Puts old new bytes = (text : List ℕ) → Holds old text → Holds new (text ++ bytes)

-- after what was written so far some first bytes of the whole were written, and these are left
abbrev pub Leaves : Page → Page → List ℕ → List ℕ → Type 0
Leaves old new whole left = (text : List ℕ) → Holds old text → (front : List ℕ) × Holds new front × (text ++ whole ≡ front ++ left)

-- after what was written so far the text of this value was written
abbrev pub PutsValue : Page → Page → Data → Type 0
PutsValue old new value = Puts old new (compact_text value)

-- the same of the value that is found
pub record PutsFound (old new : Page) (found : Option Data) : Type 0 where
  pub value : Data
  pub is : found ≡ Some value
  pub puts : PutsValue old new value
