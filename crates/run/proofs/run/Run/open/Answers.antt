-- The caches are empty and nothing is counted: the run is as the rules open it, and a history begins.
use Rattle.std.proofs.Common.{length, sym, ap, subst}
use Rattle.rules.specs.Systems.{System}
use Rattle.rules.specs.Ledgers.{begun}
use Rattle.rules.specs.Coherence.{Since}
use Rattle.rules.proofs.Promises.{since-promised}
use Rattle.run.specs.Views.{sizes}
use Rattle.run.proofs.Beginning.{begins, as-opened}
use Rattle.run.proofs.run.Run.open.Goals as goal

pub returns : goal.returns
returns g c =
    let z = sizes c.args.agreed.seats c.args.agreed.sets (length (g.M.Memory.lines c.args.memory)) in
    let bus = c.new-bus.ensures in
    let e = as-opened (g.P.Protocol.cells c.args.protocol) _ c.args.agreed (g.M.Memory.lines c.args.memory) _ c.new-bus.result.caches c.new-bus.result.tally
    (ap g.P.Protocol.cells bus.protocol) (ap g.M.Memory.lines bus.memory) bus.caches bus.tally in
    let since = subst (λ (s : System). Since z s (begun 4 (g.M.Memory.lines c.args.memory))) (sym e)
    (begins (g.P.Protocol.cells c.args.protocol) (g.met.P.Protocol.lawful c.args.protocol) c.args.agreed (g.M.Memory.lines c.args.memory) (g.met.M.Memory.lawful c.args.memory).shaped)
    in
    record { system = e; under = bus.protocol; over = bus.memory; since = since; promise = since-promised z _ _ since }
