use Rattle.std.proofs.Common.{◌∙◌, [], Some, option_map, ap, arith, sym}
use Rattle.serde_json.specs.Written.{compact_text}
use Rattle.sealed_core.specs.Host.{AreCheckedInstances}
use Rattle.sealed_core.specs.Step.{answer_view}
use Rattle.reply_texts.proofs.Answered.{answered_tells}
use Rattle.reply_texts.proofs.Sealed.{sealed_text}
use Rattle.reply_texts.proofs.replies.put_reply.Goals as goal

pub put_after-requires-clause-tells : goal.put_after-requires-clause-tells
put_after-requires-clause-tells c = answered_tells c.args.host.now.content (answer_view c.args.answered.now) c.requires.answered c.requires.reply

pub put_after-requires-clause-reply : goal.put_after-requires-clause-reply
put_after-requires-clause-reply c = c.requires.reply

pub unreachable-requires : goal.unreachable-requires
unreachable-requires c =
    let found = c.put_after.ensures in
    let holds = found.puts [] c.wipe.ensures in
    let sound : AreCheckedInstances c.args.host.now.content.instances = record { each = c.instances-instances.ensures.sound; few = c.instances-instances.ensures.few } in
    omega (
      arith,
      holds.over c.if-page.true,
      c.reply_size_law.ensures c.args.host.now.content (answer_view c.args.answered.now) (compact_text found.value) sound c.requires.answered (ap (option_map compact_text) found.is),
    )

pub returns-clause-text : goal.returns-clause-text
returns-clause-text c =
    let found = c.put_after.ensures in
    let holds = found.puts [] c.wipe.ensures in
    ap (option_map compact_text) found.is ∙ ap Some (sym (holds.fits c.if-page.false))

pub returns-clause-sealed : goal.returns-clause-sealed
returns-clause-sealed c =
    let found = c.put_after.ensures in
    let holds = found.puts [] c.wipe.ensures in
    sealed_text c.args.host.now.content (c.text_sealing_law.ensures.from_view c.args.host.now.content) (answer_view c.args.answered.now) c.put_after.new.page.bytes.items
    (ap (option_map compact_text) found.is ∙ ap Some (sym (holds.fits c.if-page.false)))
