use Rattle.std.proofs.Common.{◌≡◌, ◌+◌, ◌-◌, ℕ, List, [], ◌∷◌, length, take, vec_len, sym, ap, arith, ◌∙◌, length-append}
use Rattle.std.proofs.lemmas.List.{take_all}
use Rattle.split_base.specs.declared.memory.disk.Call.TheVariants as call
use Rattle.split_base.specs.Past.{Act, State, DiskState, Wrote, total, after_write, after_act}
use Rattle.split_base.proofs.Images.{written_fits}
use Rattle.split_base.specs.Replay.{acts_of, bytes_of}
use Rattle.split_base.proofs.KeptDisk.{state_push, state_after, bytes_push}
use Rattle.split_base.proofs.memory.disk.MemDisk.put.Goals as goal

pub invariant_of-self : goal.invariant_of-self
invariant_of-self c =
    let was = c.self.inside in
    let good = c.self.invariant in
    let calls = was.acts.items in
    let new = c.push_reserved.new.self.items in
    let bytes = was.bytes.items in
    let whole = c.extend_within.new.bytes.items in
    let added = c.args.bytes.now in
    let size : bytes_of calls ≡ length bytes = omega (arith, good.bytes, was.bytes.ok.0) in
    let act : Wrote c.args.place (take (length added) added) ∷ [] ≡ Wrote c.args.place added ∷ [] = ap (λ (l : List ℕ). Wrote c.args.place l ∷ []) (take_all (length added) added (omega arith)) in
    let more = state_push was.first.items calls new bytes whole added (call.Wrote c.args.place (length added)) (Wrote c.args.place added) size c.extend_within.ensures.bytes c.push_reserved.ensures.items act in
    let s = state_after was.first.items (acts_of calls bytes) (acts_of new whole) (Wrote c.args.place added) more in
    let held : vec_len c.extend_within.new.bytes ≡ vec_len was.bytes + length added = omega (arith, c.extend_within.new.bytes.ok.0, was.bytes.ok.0, ap length c.extend_within.ensures.bytes, length-append bytes added) in
    let list : was.list ≡ c.args.self.now.list = ap (λ (d : DiskState). d.list) c.self.view_is in
    let room : was.room ≡ c.args.self.now.room = ap (λ (d : DiskState). d.room) c.self.view_is in
    record {
      file = c.write_within.ensures.bytes ∙ ap (λ (l : List ℕ). after_write l c.args.place added) good.file ∙ sym (ap (λ (s : State). s.seen) s);
      fits = omega (arith, c.write_within.new.file.ok.0, ap length c.write_within.ensures.bytes, written_fits was.file.items added c.args.place was.room (omega (arith, good.fits, was.file.ok.0)) (omega (arith, c.requires.room, room)));
      room = omega (arith, good.room, c.write_within.ensures.capacity);
      bytes = ap bytes_of c.push_reserved.ensures.items ∙ omega (arith, bytes_push calls (call.Wrote c.args.place (length added)), good.bytes, held);
      stable = omega (arith, ap (λ (s : State). total s.later) s, good.stable, held);
      bytes_room = omega (arith, good.bytes_room, c.extend_within.ensures.capacity, held, c.requires.list, list);
      acts_room = omega (arith, good.acts_room, c.push_reserved.ensures.len, c.push_reserved.ensures.capacity, c.requires.list, list);
    }

pub returns : goal.returns
returns c =
    let was = c.self.inside in
    let calls = was.acts.items in
    let new = c.push_reserved.new.self.items in
    let bytes = was.bytes.items in
    let whole = c.extend_within.new.bytes.items in
    let added = c.args.bytes.now in
    let size : bytes_of calls ≡ length bytes = omega (arith, c.self.invariant.bytes, was.bytes.ok.0) in
    let act : Wrote c.args.place (take (length added) added) ∷ [] ≡ Wrote c.args.place added ∷ [] = ap (λ (l : List ℕ). Wrote c.args.place l ∷ []) (take_all (length added) added (omega arith)) in
    let more = state_push was.first.items calls new bytes whole added (call.Wrote c.args.place (length added)) (Wrote c.args.place added) size c.extend_within.ensures.bytes c.push_reserved.ensures.items act in
    let taken = length added + 32 in
    let f : List Act → DiskState = λ l. record {
      first = was.first.items;
      acts = l;
      room = was.room;
      list = was.list - taken;
      fails = was.calls.fails.items;
      stop = was.stop;
      calls = was.calls.made;
      faults = was.calls.faults;
    } in
    ap f more ∙ ap (λ (d : DiskState). after_act d (Wrote c.args.place added) taken) c.self.view_is
