use Rattle.caches.proofs.Hears.{Going}
use Rattle.caches.proofs.table.Caches.react.Given as goal

-- the seats before this one have reacted
abbrev pub invariant-loop-seat : goal.invariant-loop-seat
invariant-loop-seat g l = Going (g.P.Protocol.cells l.protocol) l.heard l.requester l.line l.initial.self l.self l.seat l.heeded
