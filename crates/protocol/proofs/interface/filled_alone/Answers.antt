-- The law leaves no third byte at the cell.
use Rattle.std.proofs.Common.{arith}
use Rattle.protocol.proofs.interface.filled_alone.Goals as goal

pub unreachable-requires : goal.unreachable-requires
unreachable-requires g c = let t = g.met.P.Protocol.lawful c.args.protocol.now c.args.seat 3 in grind (arith, t)
