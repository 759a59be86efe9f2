-- The call goes on with the run's history, so that the line of an answered access can be looked at.
use Rattle.std.proofs.Common.{take, refl}
use Rattle.memory.specs.Words.{plain_lines, plain_spare}
use Rattle.run.specs.Views.{system_of}
use Rattle.session.proofs.Making.{access-makes}
use Rattle.session.proofs.Performing.{history-kept, within-after, made_by}
use Rattle.session.proofs.playing.Playing.perform.Goals as goal

pub invariant_of-self : goal.invariant_of-self
invariant_of-self g c =
    let m = access-makes g.P.Protocol.cells plain_lines plain_spare c.args.access c.call_of.result c.call_of.ensures c.call.ensures in
    record { history = history-kept c.args.access m.system c.args.self.now.history }

pub states_after-requires : goal.states_after-requires
states_after-requires g c =
    let m = access-makes g.P.Protocol.cells plain_lines plain_spare c.args.access c.call_of.result c.call_of.ensures c.in_ok-reply.ensures in
    within-after c.args.access c.args.self.now.history m.replies.0 m.system

pub returns : goal.returns
returns g c =
    let m = access-makes g.P.Protocol.cells plain_lines plain_spare c.args.access c.call_of.result c.call_of.ensures c.in_ok-reply.ensures in
    made_by c.args.access (system_of g.P.Protocol.cells plain_lines c.args.self.now.run) (system_of g.P.Protocol.cells plain_lines c.call.new.self)
    _ c.call.new.records c.in_ok-reply.reply m (take c.states_after.result.count c.states_after.result.items) c.states_after.ensures _ refl
