-- What the sender of a request is told of its reply: the status and the text.
use Rattle.std.specs.Prelude.{Some}
use Rattle.reply_texts.specs.Contents.{ContentView}
use Rattle.reply_texts.specs.Sealing.{Told}

-- the HTTP status and the text
abbrev pub status_and_text : ContentView → Told
status_and_text told = record { status = told.status; text = Some told.text }
