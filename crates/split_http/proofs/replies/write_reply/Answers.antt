use Rattle.std.proofs.Common.{◌∙◌, ap, subst, sym, Some}
use Rattle.std.specs.Io.KnownBytes.{Appends}
use Rattle.split_http.specs.Pieces.{AppendsProperPart}
use Rattle.split_http.proofs.ReplyLemmas.{ArePartsOf, OnOk-reply, OnErr-reply}
use Rattle.split_http.specs.Replies.{IsDateLine}
use Rattle.split_http.proofs.replies.write_reply.Goals as goal

pub returns-clause-whole : goal.returns-clause-whole
returns-clause-whole g c =
    let parts : ArePartsOf c.args.reply.now c.as_bytes.result.now c.as_bytes-2.result.now c.date_or_nothing.result.now c.kind_text.result.now c.as_bytes-3.result.now c.allow_text.result.now c.close_text.result.now c.body.result.now = record {
      digits = c.as_bytes.ensures.value ∙ c.phrase.ensures.digits;
      phrase = c.phrase.ensures.text ∙ ap Some (sym c.as_bytes-2.ensures.value);
      date = subst (IsDateLine _) (sym c.date_or_nothing.ensures) c.date_bytes-date.ensures;
      kind = c.kind_text.ensures;
      size = c.as_bytes-3.ensures.value ∙ c.format-size.ensures.text;
      allow = c.allow_text.ensures;
      close = c.close_text.ensures;
      text = c.body.ensures;
    } in
    OnOk-reply _ _ (Appends _ _) _ _ _ _ _ _ _ _ parts c.write_parts.ensures.whole

pub returns-clause-part : goal.returns-clause-part
returns-clause-part g c =
    let parts : ArePartsOf c.args.reply.now c.as_bytes.result.now c.as_bytes-2.result.now c.date_or_nothing.result.now c.kind_text.result.now c.as_bytes-3.result.now c.allow_text.result.now c.close_text.result.now c.body.result.now = record {
      digits = c.as_bytes.ensures.value ∙ c.phrase.ensures.digits;
      phrase = c.phrase.ensures.text ∙ ap Some (sym c.as_bytes-2.ensures.value);
      date = subst (IsDateLine _) (sym c.date_or_nothing.ensures) c.date_bytes-date.ensures;
      kind = c.kind_text.ensures;
      size = c.as_bytes-3.ensures.value ∙ c.format-size.ensures.text;
      allow = c.allow_text.ensures;
      close = c.close_text.ensures;
      text = c.body.ensures;
    } in
    OnErr-reply _ _ (AppendsProperPart _ _) _ _ _ _ _ _ _ _ parts c.write_parts.ensures.part
