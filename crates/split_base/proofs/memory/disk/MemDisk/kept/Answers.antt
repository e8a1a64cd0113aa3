use Rattle.std.proofs.Common.{◌≡◌, ◌+◌, ℕ, List, length, arith, ap, ◌∙◌}
use Rattle.std.proofs.lemmas.Result.{IfOk-weaker}
use Rattle.split_base.specs.declared.memory.disk.Call.{Call}
use Rattle.split_base.specs.Past.{DiskState, state_of, stable_file, after_crash}
use Rattle.split_base.proofs.Images.{on_top_is_image}
use Rattle.split_base.specs.Replay.{acts_of, after_bytes}
use Rattle.split_base.proofs.Replayed.{replay_kept, on_top_no_longer}
use Rattle.split_base.proofs.memory.disk.MemDisk.kept.Goals as goal

-- what is replayed is what a crash leaves
replayed_is : (c : goal.After-replayed) → after_bytes c.deref.result.now (acts_of c.deref-2.result.now c.deref-3.result.now) (c.self.inside.stable + c.min.result) ≡ after_crash c.args.self.now c.args.keep
replayed_is c =
    let was = c.self.inside in
    let good = c.self.invariant in
    let size = was.bytes.ok.0 in
    let left = c.self.inside.stable + c.min.result in
    ap (λ (l : List ℕ). after_bytes l (acts_of c.deref-2.result.now c.deref-3.result.now) left) c.deref.ensures.value
    ∙ ap (λ (l : List Call). after_bytes was.first.items (acts_of l c.deref-3.result.now) left) c.deref-2.ensures.value
    ∙ ap (λ (l : List ℕ). after_bytes was.first.items (acts_of was.acts.items l) left) c.deref-3.ensures.value
    ∙ replay_kept was.first.items was.acts.items was.bytes.items was.stable c.args.keep left (omega (arith, good.bytes, size)) (omega (arith, good.stable, size)) (omega (arith, c.min.ensures, c.len.ensures, size))
    ∙ ap (λ (d : DiskState). after_crash d c.args.keep) c.self.view_is

pub returns-clause-bytes : goal.returns-clause-bytes
returns-clause-bytes c = IfOk-weaker c.replayed.result _ _ (λ file is. is ∙ replayed_is c) c.replayed.ensures

pub returns-clause-size : goal.returns-clause-size
returns-clause-size c =
    let d = c.args.self.now in
    let short = on_top_no_longer (stable_file d.first) d.acts c.args.keep (omega arith) in
    IfOk-weaker c.replayed.result _ _ (λ file is. omega (arith, ap length (is ∙ replayed_is c), short)) c.replayed.ensures

pub returns-clause-image : goal.returns-clause-image
returns-clause-image c = on_top_is_image (state_of c.args.self.now).stable (state_of c.args.self.now).later c.args.keep
