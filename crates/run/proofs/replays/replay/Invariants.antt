-- After k turns the run is where the first k calls take it, and their replies are noted.
use Rattle.run.proofs.Replaying.{Progress}
use Rattle.run.proofs.replays.replay.Given as goal

abbrev pub invariant-loop-step : goal.invariant-loop-step
invariant-loop-step g l = Progress g.P.Protocol.cells g.M.Memory.lines g.M.Memory.aside l.initial.run l.run l.initial.steps l.steps l.step-index
