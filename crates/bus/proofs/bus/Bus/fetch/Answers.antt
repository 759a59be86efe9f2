use Rattle.std.proofs.Common.{take, sym, arith, rules}
use Rattle.rules.specs.Accesses.{fetched}
use Rattle.bus.specs.Machines.{machine_of, Holds, Lacks, Tells}
use Rattle.bus.proofs.Cases.{fetched-held, fetched-absent}
use Rattle.bus.proofs.Obeying.{unmoved, renamed}
use Rattle.bus.proofs.bus.Bus.fetch.Goals as goal

pub returns-then-is_valid-clause-reaches : goal.returns-then-is_valid-clause-reaches
returns-then-is_valid-clause-reaches g c =
    let b = c.args.self.now in
    let records = c.args.records.now in
    let held : Holds c.args.seat c.args.line b.caches = search rules in
    unmoved g.M.Memory.lines g.M.Memory.aside b 0 records
    (sym (fetched-held c.args.seat c.args.line (machine_of g.M.Memory.lines (take 0 records) b) (g.P.Protocol.cells b.protocol) held))

pub returns-clause-reaches : goal.returns-clause-reaches
returns-clause-reaches g c =
    let b = c.args.self.now in
    let log = c.new-log.result in
    let absent : Lacks c.args.seat c.args.line b.caches = search rules in
    let told : Tells g.M.Memory.lines g.M.Memory.aside (fetched (g.P.Protocol.cells b.protocol) c.args.seat c.args.line) 2 15 log c.fill.new.log b c.fill.new.self =
    renamed g.M.Memory.lines g.M.Memory.aside c.fill.ensures.told
    (sym (fetched-absent c.args.seat c.args.line (machine_of g.M.Memory.lines (take log.made log.places.now) b) (g.P.Protocol.cells b.protocol) absent))
    (omega arith) (omega arith) in
    search rules
