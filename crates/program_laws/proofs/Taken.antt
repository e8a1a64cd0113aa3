-- A host's reply is taken by a fetch.
use Rattle.std.proofs.Common.{◌≡◌, ℕ, ◌≤◌, Bool, List, ◌++◌, length, Option, Some, None, refl, sym, ap, subst, ◌∙◌, arith, length-append, append_assoc}
use Rattle.std.proofs.lemmas.List.{take_at}
use Rattle.cert_reader.specs.declared.limits.TheConstants.{MOST_BYTES}
use Rattle.httpdate.specs.Date.{date_text}
use Rattle.serving.specs.Dues.{AreBytes, DueView}
use Rattle.remote_check.specs.Fetched.{IsReplyOf}
use Rattle.split_http.specs.declared.replies.HttpReply.{HttpReply}
use Rattle.split_http.specs.Replies.{IsDateLine, IsReply, reply_with}
use Rattle.program_laws.specs.Brought.{Brings, IsToBring}
use Rattle.program_laws.proofs.DateBytes.{date_fits}
use Rattle.program_laws.proofs.ReplyHeads.{HasDate, date_line, head_of, head_printed, head_tells, is_head, reply_bytes}

-- the line of a date is that of a text that may be in a field, or of none
dated : (moment : Option ℕ) (line : List ℕ) → IsDateLine moment line → (date : Option (List ℕ)) × HasDate date × (line ≡ date_line date)
dated None line is = (None, tt, is)
dated (Some moment) line (date, at, is) = (Some (date_text date), date_fits date, is)

-- the parts of a reply that brings its text
brought_bytes : (reply : HttpReply) (text line : List ℕ) (date : Option (List ℕ)) → Brings reply text → line ≡ date_line date
    → reply_with line reply ≡ reply_bytes date reply.plain (length text) reply.close text
brought_bytes reply text line date brings is = rw (brings.status, brings.allow, brings.whole, brings.is_text, is)

-- the bytes of such a reply, and more after them
pub is_taken : (date : Option (List ℕ)) (plain : Bool) (close : Bool) (text rest : List ℕ) → HasDate date → length text ≤ MOST_BYTES
    → IsReplyOf (reply_bytes date plain (length text) close text ++ rest) text
is_taken date plain close text rest fits most = record {
  head = head_of date plain (length text) close;
  rest = text ++ rest;
  begins = record {
    is_head = is_head date plain (length text) close fits most;
    text = ap (λ bytes. bytes ++ rest) (head_printed date plain (length text) close text) ∙ append_assoc _ text rest;
  };
  status = refl;
  told = head_tells date plain (length text) close most;
  most = most;
  whole = omega (arith, length-append text rest);
  is_body = sym (take_at text rest (length text) refl);
}

pub reply_taken : (reply : HttpReply) (bytes rest text : List ℕ) → Brings reply text → IsReply reply bytes → length text ≤ MOST_BYTES → IsReplyOf (bytes ++ rest) text
reply_taken reply bytes rest text brings (line, dates, is) most =
    let told = dated reply.moment line dates in
    let same : bytes ≡ reply_bytes told.0 reply.plain (length text) reply.close text = is ∙ brought_bytes reply text line told.0 brings told.2 in
    subst (λ all. IsReplyOf (all ++ rest) text) (sym same) (is_taken told.0 reply.plain reply.close text rest told.1 most)

-- the same of what is due
pub due_taken : (due : DueView) (bytes rest text : List ℕ) → IsToBring due text → AreBytes due bytes → length text ≤ MOST_BYTES → IsReplyOf (bytes ++ rest) text
due_taken due bytes rest text bring (reply, tells, is) most =
    reply_taken reply bytes rest text
    (record {
      status = tells.status ∙ bring.status;
      allow = tells.allow ∙ bring.allow;
      whole = tells.bodiless ∙ bring.whole;
      is_text = tells.text ∙ bring.is_text;
    })
    is most
