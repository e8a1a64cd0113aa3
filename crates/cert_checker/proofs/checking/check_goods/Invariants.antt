-- The marks so far were taken.
use Rattle.std.proofs.Common.{take}
use Rattle.cert_reader.specs.Views.{goods_view}
use Rattle.goods_rules.specs.State.{IsState, StandsFor}
use Rattle.cert_checker.proofs.checking.check_goods.Given as goal

abbrev pub invariant-loop-k : goal.invariant-loop-k
invariant-loop-k l = record {
  state : IsState l.state;
  stands : StandsFor (goods_view l.text) (take l.k l.marks) l.state;
}
