use Rattle.std.proofs.Common.{take, ap, arith}
use Rattle.rules.specs.Accesses.{filled, written_held}
use Rattle.bus.specs.Machines.{machine_of}
use Rattle.bus.proofs.Obeying.{onward, renamed}
use Rattle.bus.proofs.bus.Bus.fill_then_write.Goals as goal

pub returns : goal.returns
returns g c =
    let lines = g.M.Memory.lines in
    let aside = g.M.Memory.aside in
    let b = c.args.self.now in
    let log = c.args.log.now in
    let store = c.args.store in
    let seat = c.args.seat in
    let line = c.args.line in
    let cells = g.P.Protocol.cells in
    let m = machine_of lines (take log.made log.places.now) b in
    renamed lines aside (onward lines aside c.fill.ensures.told c.write_held.ensures)
    (ap (λ (p : g.row.P.Denot). written_held (cells p) seat line store.word store.value (filled (cells b.protocol) seat line m)) c.fill.ensures.told.reaches.stays.protocol)
    (omega arith) (omega arith)
