-- The bytes of an HTTP/1.1 reply: the status line, the fields and the body.
use Rattle.std.specs.Prelude.{◌≡◌, ℕ, ◌==◌, Bool, List, [], ◌∷◌, ◌++◌, length, codes, decimal, Option, Some, None, unwrap_or, cond}
use Rattle.std.specs.List.{list_any}
use Rattle.http.specs.StatusCode.{code_digits, reason_phrase}
use Rattle.httpdate.specs.Date.{unix_secs, date_text}
use Rattle.httpdate.specs.declared.date.HttpDate.{HttpDate}
use Rattle.split_http.specs.declared.replies.HttpReply.{HttpReply}
use Rattle.split_http.specs.declared.replies.Allow.{Allow}
use Rattle.split_http.specs.declared.replies.Allow.TheVariants.{GetHead, Post}

-- the line with the date of a second since 1970, or nothing if there is none
abbrev pub IsDateLine : Option ℕ → List ℕ → Type 0
IsDateLine None line = line ≡ []
IsDateLine (Some moment) line = (date : HttpDate) × (unix_secs date ≡ moment) × (line ≡ codes "Date: " ++ date_text date ++ codes "\r\n")

-- the line of the body's type
abbrev pub kind_line : Bool → List ℕ
kind_line plain = cond plain (codes "Content-Type: text/plain; charset=utf-8\r\n") (codes "Content-Type: application/json\r\n")

-- the line with the methods that the route has, if they are told
abbrev pub allow_line : Option Allow → List ℕ
allow_line None = []
allow_line (Some GetHead) = codes "Allow: GET, HEAD\r\n"
allow_line (Some Post) = codes "Allow: POST\r\n"

-- the line that says that the connection closes, if it does
abbrev pub close_line : Bool → List ℕ
close_line close = cond close (codes "Connection: close\r\n") []

-- the body, unless it is to be left out
abbrev pub body_of : HttpReply → List ℕ
body_of reply = cond reply.bodiless [] reply.text.now

-- status line, date line, type, length, the two lines that may come, an empty line, and the body
abbrev pub reply_of_parts : List ℕ → List ℕ → List ℕ → List ℕ → List ℕ → List ℕ → List ℕ → List ℕ → List ℕ
reply_of_parts digits phrase date kind size allow close body =
    codes "HTTP/1.1 " ++ digits ++ codes " " ++ phrase ++ codes "\r\n"
    ++ date ++ kind
    ++ codes "Content-Length: " ++ size ++ codes "\r\n"
    ++ allow ++ close
    ++ codes "\r\n" ++ body

-- the reply with that line for its date
abbrev pub reply_with : List ℕ → HttpReply → List ℕ
reply_with date reply =
    reply_of_parts (code_digits reply.status) (unwrap_or (reason_phrase reply.status) []) date
    (kind_line reply.plain)
    (decimal (length reply.text.now))
    (allow_line reply.allow)
    (close_line reply.close)
    (body_of reply)

-- the bytes are that reply
abbrev pub IsReply : HttpReply → List ℕ → Type 0
IsReply reply bytes = (date : List ℕ) × IsDateLine reply.moment date × (bytes ≡ reply_with date reply)

-- the status is one with which a host replies (RFC 9110, section 15)
abbrev pub is_host_status : ℕ → Bool
is_host_status status =
    list_any (λ s. s == status) (200 ∷ 201 ∷ 400 ∷ 403 ∷ 404 ∷ 405 ∷ 409 ∷ 411 ∷ 413 ∷ 422 ∷ 501 ∷ 503 ∷ [])
