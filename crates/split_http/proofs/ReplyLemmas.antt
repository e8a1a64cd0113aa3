-- From the parts of a reply to the reply.
use Rattle.std.proofs.Common.{◌≡◌, ℕ, List, [], Some, Result, Ok, Err, OnOk, OnErr, decimal, length, ◌++◌, codes, append_assoc, append-nil}
use Rattle.http.specs.StatusCode.{code_digits, reason_phrase}
use Rattle.split_http.specs.declared.replies.HttpReply.{HttpReply}
use Rattle.split_http.specs.Replies.{IsReply, IsDateLine, reply_of_parts, reply_with, allow_line, kind_line, close_line, body_of}

-- the parts are those of the reply
pub record ArePartsOf (reply : HttpReply) (d p t k n a e b : List ℕ) : Type 0 where
  pub digits : d ≡ code_digits reply.status
  pub phrase : reason_phrase reply.status ≡ Some p
  pub date : IsDateLine reply.moment t
  pub kind : k ≡ kind_line reply.plain
  pub size : n ≡ decimal (length reply.text.now)
  pub allow : a ≡ allow_line reply.allow
  pub close : e ≡ close_line reply.close
  pub text : b ≡ body_of reply

-- the pieces in a row are the reply
pub joined-pieces : (digits phrase date kind size allow close body : List ℕ)
    → codes "HTTP/1.1 " ++ (digits ++ (codes " " ++ (phrase ++ (codes "\r\n" ++ (date ++ (kind
    ++ (codes "Content-Length: " ++ (size ++ (codes "\r\n" ++ (allow ++ (close ++ (codes "\r\n" ++ (body ++ [])))))))))))))
    ≡ reply_of_parts digits phrase date kind size allow close body
joined-pieces digits phrase date kind size allow close body = simp (append_assoc, append-nil)

-- so they are the reply, with that line for its date
pub joined-parts : (reply : HttpReply) (digits phrase date kind size allow close text : List ℕ)
    → ArePartsOf reply digits phrase date kind size allow close text
    → reply_of_parts digits phrase date kind size allow close text ≡ reply_with date reply
joined-parts reply digits phrase date kind size allow close text p =
    rw (p.digits, p.phrase, p.kind, p.size, p.allow, p.close, p.text)

-- what was written whole is the reply
pub OnOk-reply : {A E : Type 0} (r : Result A E) (reply : HttpReply) (P : List ℕ → Type 0) (digits phrase date kind size allow close text : List ℕ)
    → ArePartsOf reply digits phrase date kind size allow close text
    → OnOk r (P (reply_of_parts digits phrase date kind size allow close text))
    → OnOk r ((bytes : List ℕ) × IsReply reply bytes × P bytes)
OnOk-reply (Ok x) reply P digits phrase date kind size allow close text p h =
    (_, (date, p.date, joined-parts reply digits phrase date kind size allow close text p), h)
OnOk-reply (Err e) reply P digits phrase date kind size allow close text p h = tt

-- what was written in part is a part of the reply
pub OnErr-reply : {A E : Type 0} (r : Result A E) (reply : HttpReply) (P : List ℕ → Type 0) (digits phrase date kind size allow close text : List ℕ)
    → ArePartsOf reply digits phrase date kind size allow close text
    → OnErr r (P (reply_of_parts digits phrase date kind size allow close text))
    → OnErr r ((bytes : List ℕ) × IsReply reply bytes × P bytes)
OnErr-reply (Ok x) reply P digits phrase date kind size allow close text p h = tt
OnErr-reply (Err e) reply P digits phrase date kind size allow close text p h =
    (_, (date, p.date, joined-parts reply digits phrase date kind size allow close text p), h)
