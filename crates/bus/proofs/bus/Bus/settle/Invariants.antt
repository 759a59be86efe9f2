use Rattle.std.proofs.Common.{◌*◌, ◌≤◌}
use Rattle.rules.specs.Accesses.{flushed_seats}
use Rattle.bus.specs.Machines.{Settles}
use Rattle.bus.proofs.bus.Bus.settle.Given as goal

abbrev pub invariant-loop-seat : goal.invariant-loop-seat
invariant-loop-seat g l =
    Settles g.M.Memory.lines g.M.Memory.aside (flushed_seats l.seat) l.written (256 * l.seat) l.initial.self l.self
    × (l.written ≤ 64 * l.seat)
