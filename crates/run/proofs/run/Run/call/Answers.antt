-- Each arm makes the call that it matched, in the first places.
use Rattle.std.proofs.Common.{◌≤◌, length, sym, ap, ◌∙◌, arith, length-take-le}
use Rattle.rules.specs.declared.call.Call.TheVariants.{Read, Write, Flush}
use Rattle.run.specs.Calls.{lent}
use Rattle.run.proofs.Lending.{lent-first}
use Rattle.run.proofs.run.Run.call.Goals as goal

pub returns-in-Read : goal.returns-in-Read
returns-in-Read g c =
    let few : c.min.result ≤ length c.args.records.now = omega (arith, c.min.ensures) in
    let long = length-take-le c.min.result c.args.records.now few in
    lent-first g.P.Protocol.cells g.M.Memory.lines g.M.Memory.aside c.args.self.now c.read.new.self c.args.records.now c.read.new.records c.min.result _ _ c.read.result
    (ap (lent (length c.args.records.now)) c.in-Read.is ∙ ap (Read c.in-Read.seat c.in-Read.address) (sym (long ∙ c.min.ensures))) few (c.read.auto.records ∙ long) c.read.ensures

pub returns-in-Write : goal.returns-in-Write
returns-in-Write g c =
    let few : c.min-in-Write.result ≤ length c.args.records.now = omega (arith, c.min-in-Write.ensures) in
    let long = length-take-le c.min-in-Write.result c.args.records.now few in
    lent-first g.P.Protocol.cells g.M.Memory.lines g.M.Memory.aside c.args.self.now c.write.new.self c.args.records.now c.write.new.records c.min-in-Write.result _ _ c.write.result
    (ap (lent (length c.args.records.now)) c.in-Write.is ∙ ap (Write c.in-Write.seat c.in-Write.address c.in-Write.value) (sym (long ∙ c.min-in-Write.ensures))) few (c.write.auto.records ∙ long) c.write.ensures

pub returns-in-Flush : goal.returns-in-Flush
returns-in-Flush g c =
    let few : c.min-in-Flush.result ≤ length c.args.records.now = omega (arith, c.min-in-Flush.ensures) in
    let long = length-take-le c.min-in-Flush.result c.args.records.now few in
    lent-first g.P.Protocol.cells g.M.Memory.lines g.M.Memory.aside c.args.self.now c.flush.new.self c.args.records.now c.flush.new.records c.min-in-Flush.result _ _ c.flush.result
    (ap (lent (length c.args.records.now)) c.in-Flush.is ∙ ap (Flush c.in-Flush.seat c.in-Flush.address) (sym (long ∙ c.min-in-Flush.ensures))) few (c.flush.auto.records ∙ long) c.flush.ensures
