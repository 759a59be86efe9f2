use Rattle.bus.proofs.Writing.{held-sent, held-silent}
use Rattle.bus.proofs.bus.Bus.write_held.Goals as goal

pub returns-in-Some : goal.returns-in-Some
returns-in-Some g c =
    let lines = g.M.Memory.lines in
    let aside = g.M.Memory.aside in
    let b = c.args.self.now in
    let store = c.args.store in
    held-sent lines aside b (g.P.Protocol.cells b.protocol) c.args.seat c.args.line store.word store.value (g.met.P.Protocol.lawful b.protocol) c.requires.held
    c.state-state.result c.state-state.ensures.value c.in-Some.transaction c.in-Some.ensures c.send_held.ensures

pub returns-in-None : goal.returns-in-None
returns-in-None g c =
    let lines = g.M.Memory.lines in
    let aside = g.M.Memory.aside in
    let b = c.args.self.now in
    let store = c.args.store in
    held-silent lines aside b (g.P.Protocol.cells b.protocol) c.args.seat c.args.line store.word store.value (g.met.P.Protocol.lawful b.protocol) c.requires.held
    c.state-state.result c.state-state.ensures.value c.in-None.ensures c.args.log.now c.write_silently.ensures
