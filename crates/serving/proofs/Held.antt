-- The bytes that are held where a read of a head failed.
use Rattle.std.proofs.Common.{◌≡◌, ℕ, List, sym, subst}
use Rattle.split_http.specs.declared.heads.HeadTurn.{HeadTurn}
use Rattle.split_http.specs.declared.heads.HeadTurn.TheVariants as turns
use Rattle.split_http.specs.Turns.{CarrySays, MayBecomeHead}

-- where a read failed, the carry holds no whole head
pub held_open : (bytes held : List ℕ) (turn : HeadTurn) → CarrySays bytes held turn → turn ≡ turns.LinkFault → MayBecomeHead held
held_open bytes held turn says is =
    let fault : CarrySays bytes held turns.LinkFault = subst (λ t. CarrySays bytes held t) is says in
    subst MayBecomeHead (sym fault.0) fault.1
