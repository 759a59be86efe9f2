use Rattle.std.proofs.Common.{◌*◌, ◌≤◌}
use Rattle.rules.specs.Accesses.{flushed_sets}
use Rattle.bus.specs.Machines.{Settles}
use Rattle.bus.proofs.bus.Bus.settle_seat.Given as goal

abbrev pub invariant-loop-at : goal.invariant-loop-at
invariant-loop-at g l =
    Settles g.M.Memory.lines g.M.Memory.aside (flushed_sets l.seat l.at) l.written (4 * l.at) l.initial.self l.self
    × (l.written ≤ l.at)
