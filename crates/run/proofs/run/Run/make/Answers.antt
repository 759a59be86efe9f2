-- More than four places would answer alike.
use Rattle.std.proofs.Common.{ap, ◌∙◌}
use Rattle.rules.specs.Systems.{Outcome}
use Rattle.run.specs.Views.{system_of}
use Rattle.run.proofs.Replaying.{outcome-lent, answers-lent}
use Rattle.run.proofs.run.Run.make.Goals as goal

pub returns-clause-replies : goal.returns-clause-replies
returns-clause-replies g c = answers-lent (system_of g.P.Protocol.cells g.M.Memory.lines c.args.self.now) c.args.call c.call.result c.call.ensures.replies

pub returns-clause-system : goal.returns-clause-system
returns-clause-system g c =
    c.call.ensures.system ∙ ap (λ (o : Outcome). o.system) (outcome-lent (system_of g.P.Protocol.cells g.M.Memory.lines c.args.self.now) c.args.call)
