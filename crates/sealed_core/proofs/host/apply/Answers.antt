use Rattle.std.proofs.Common.{None, Some, ap}
use Rattle.sealed_core.specs.Host.{HostView, as_closed, with_turn}
use Rattle.sealed_core.proofs.Room.{places_stay, room_stays}
use Rattle.sealed_core.proofs.host.apply.Goals as goal

pub returns-in-Bid-clause-spare : goal.returns-in-Bid-clause-spare
returns-in-Bid-clause-spare c =
    places_stay c.args.host.now c.keep_turn.new.self (with_turn c.in-Bid.member c.in-Bid.turn (Some c.in-Bid.bid)) c.in-Bid.id (ap (λ (h : HostView). h.instances) c.keep_turn.ensures.content) c.keep_turn.ensures.spare

pub returns-in-Bid-clause-room : goal.returns-in-Bid-clause-room
returns-in-Bid-clause-room c =
    room_stays c.args.host.now c.keep_turn.new.self (with_turn c.in-Bid.member c.in-Bid.turn (Some c.in-Bid.bid)) c.in-Bid.id (ap (λ (h : HostView). h.instances) c.keep_turn.ensures.content) c.keep_turn.ensures.spare

pub returns-in-Close-clause-spare : goal.returns-in-Close-clause-spare
returns-in-Close-clause-spare c = places_stay c.args.host.now c.close.new.self as_closed c.in-Close.id (ap (λ (h : HostView). h.instances) c.close.ensures.content) c.close.ensures.spare

pub returns-in-Close-clause-room : goal.returns-in-Close-clause-room
returns-in-Close-clause-room c = room_stays c.args.host.now c.close.new.self as_closed c.in-Close.id (ap (λ (h : HostView). h.instances) c.close.ensures.content) c.close.ensures.spare

pub returns-in-Withdraw-clause-spare : goal.returns-in-Withdraw-clause-spare
returns-in-Withdraw-clause-spare c =
    places_stay c.args.host.now c.keep_turn-in-Withdraw.new.self (with_turn c.in-Withdraw.member c.in-Withdraw.turn None) c.in-Withdraw.id (ap (λ (h : HostView). h.instances) c.keep_turn-in-Withdraw.ensures.content) c.keep_turn-in-Withdraw.ensures.spare

pub returns-in-Withdraw-clause-room : goal.returns-in-Withdraw-clause-room
returns-in-Withdraw-clause-room c =
    room_stays c.args.host.now c.keep_turn-in-Withdraw.new.self (with_turn c.in-Withdraw.member c.in-Withdraw.turn None) c.in-Withdraw.id (ap (λ (h : HostView). h.instances) c.keep_turn-in-Withdraw.ensures.content) c.keep_turn-in-Withdraw.ensures.spare
