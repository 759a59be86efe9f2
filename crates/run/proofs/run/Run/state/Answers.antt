-- A seat that passed the check is on the bus.
use Rattle.std.proofs.Common.{arith}
use Rattle.caches.proofs.Places.{caches-long}
use Rattle.run.specs.Views.{system_of}
use Rattle.run.proofs.Clearing.{looked-on}
use Rattle.run.proofs.run.Run.state.Goals as goal

pub state-requires : goal.state-requires
state-requires g c =
    let on = looked-on (system_of g.P.Protocol.cells g.M.Memory.lines c.args.self.now) c.args.seat c.args.line c.in_ok-check_place.ensures.0 in
    omega (arith, on, caches-long c.args.self.now.bus.caches)
