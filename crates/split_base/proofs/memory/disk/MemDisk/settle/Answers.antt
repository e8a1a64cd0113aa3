use Rattle.std.proofs.Common.{◌≡◌, ◌-◌, List, [], length, refl, sym, ap, arith, ◌∙◌}
use Rattle.std.proofs.lemmas.List.{append-nil}
use Rattle.split_base.specs.declared.memory.disk.Call.TheVariants as call
use Rattle.split_base.specs.Past.{Act, State, DiskState, Synced, total, after_act}
use Rattle.split_base.specs.Replay.{acts_of, bytes_of}
use Rattle.split_base.proofs.KeptDisk.{state_push, state_after, bytes_push}
use Rattle.split_base.proofs.memory.disk.MemDisk.settle.Goals as goal

pub invariant_of-self : goal.invariant_of-self
invariant_of-self c =
    let was = c.self.inside in
    let good = c.self.invariant in
    let calls = was.acts.items in
    let new = c.push_reserved.new.self.items in
    let bytes = was.bytes.items in
    let size : bytes_of calls ≡ length bytes = omega (arith, good.bytes, was.bytes.ok.0) in
    let more = state_push was.first.items calls new bytes bytes [] call.Synced Synced size (sym (append-nil bytes)) c.push_reserved.ensures.items refl in
    let s = state_after was.first.items (acts_of calls bytes) (acts_of new bytes) Synced more in
    let room : was.list ≡ c.args.self.now.list = ap (λ (d : DiskState). d.list) c.self.view_is in
    record {
      file = good.file ∙ sym (ap (λ (s : State). s.seen) s);
      fits = good.fits;
      room = good.room;
      bytes = ap bytes_of c.push_reserved.ensures.items ∙ omega (arith, bytes_push calls call.Synced, good.bytes);
      stable = omega (arith, ap (λ (s : State). total s.later) s, c.len-self-inside.ensures);
      bytes_room = omega (arith, good.bytes_room);
      acts_room = omega (arith, good.acts_room, c.push_reserved.ensures.len, c.push_reserved.ensures.capacity, c.requires, room);
    }

pub returns : goal.returns
returns c =
    let was = c.self.inside in
    let calls = was.acts.items in
    let new = c.push_reserved.new.self.items in
    let bytes = was.bytes.items in
    let size : bytes_of calls ≡ length bytes = omega (arith, c.self.invariant.bytes, was.bytes.ok.0) in
    let more = state_push was.first.items calls new bytes bytes [] call.Synced Synced size (sym (append-nil bytes)) c.push_reserved.ensures.items refl in
    let f : List Act → DiskState = λ l. record {
      first = was.first.items;
      acts = l;
      room = was.room;
      list = was.list - 32;
      fails = was.calls.fails.items;
      stop = was.stop;
      calls = was.calls.made;
      faults = was.calls.faults;
    } in
    ap f more ∙ ap (λ (d : DiskState). after_act d Synced 32) c.self.view_is
