use Rattle.std.proofs.Common.{take, sym, refl, arith, rules}
use Rattle.protocol.specs.Transactions.{digit_transaction}
use Rattle.bus.specs.Machines.{machine_of, Holds, Lacks}
use Rattle.bus.proofs.Cases.{written_held_lem, written-missed}
use Rattle.bus.proofs.Obeying.{renamed}
use Rattle.bus.proofs.bus.Bus.send.Goals as goal

pub returns-then-is_valid : goal.returns-then-is_valid
returns-then-is_valid g c =
    let b = c.args.self.now in
    let log = c.args.log.now in
    let store = c.args.store in
    let held : Holds c.args.seat c.args.line b.caches = search rules in
    renamed g.M.Memory.lines g.M.Memory.aside c.write_held.ensures
    (sym (written_held_lem (g.P.Protocol.cells b.protocol) c.args.seat c.args.line store.word store.value (machine_of g.M.Memory.lines (take log.made log.places.now) b) held))
    (omega arith) (omega arith)

pub returns-else-is_valid : goal.returns-else-is_valid
returns-else-is_valid g c =
    let b = c.args.self.now in
    let log = c.args.log.now in
    let store = c.args.store in
    let cells = g.P.Protocol.cells b.protocol in
    let absent : Lacks c.args.seat c.args.line b.caches = search rules in
    renamed g.M.Memory.lines g.M.Memory.aside c.write_missed.ensures
    (sym (written-missed cells c.args.seat c.args.line store.word store.value (machine_of g.M.Memory.lines (take log.made log.places.now) b) (digit_transaction (cells c.args.seat 0)) absent refl))
    (omega arith) (omega arith)
