use Rattle.std.proofs.Common.{take, sym, ap, ◌∙◌, arith}
use Rattle.protocol.specs.declared.transaction.Transaction.TheVariants.{ThroughInvalidate}
use Rattle.rules.specs.Transactions.{through_invalidate}
use Rattle.rules.specs.Machines.{transact}
use Rattle.rules.specs.Accesses.{saved_from}
use Rattle.bus.specs.Machines.{machine_of}
use Rattle.bus.proofs.Cases.{through-is}
use Rattle.bus.proofs.Obeying.{logged, onward, renamed, listed-few}
use Rattle.bus.proofs.bus.Bus.write_through.Goals as goal

pub returns : goal.returns
returns g c =
    let lines = g.M.Memory.lines in
    let aside = g.M.Memory.aside in
    let b = c.args.self.now in
    let log = c.args.log.now in
    let store = c.args.store in
    let seat = c.args.seat in
    let line = c.args.line in
    let cells = g.P.Protocol.cells in
    let m = machine_of lines (take log.made log.places.now) b in
    renamed lines aside
    (onward lines aside (logged lines aside c.save_owner.ensures c.push_some.ensures) (logged lines aside c.through_invalidate.ensures c.push.ensures))
    (ap (λ (p : g.row.P.Denot). transact ThroughInvalidate seat line (through_invalidate (cells p) seat store.word store.value) (saved_from seat line m)) c.save_owner.ensures.stays.protocol
    ∙ sym (through-is (cells b.protocol) seat line store.word store.value m))
    (omega (arith, listed-few c.save_owner.result)) (omega arith)
