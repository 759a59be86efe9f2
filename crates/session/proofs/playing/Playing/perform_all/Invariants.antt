use Rattle.std.proofs.Common.{◌≡◌, ◌-◌, List, ◌++◌, map, length, vec_items, Option}
use Rattle.memory.specs.Words.{plain_lines}
use Rattle.rules.specs.Systems.{System}
use Rattle.run.specs.Views.{system_of}
use Rattle.trace.specs.Faults.{Stop}
use Rattle.account.specs.Accounts.{Performed, performed}
use Rattle.session.specs.Plays.{Plays}
use Rattle.session.proofs.playing.Playing.perform_all.Given as goal

-- the accesses performed stand in front of whatever is performed from here on
abbrev pub invariant-loop-step : goal.invariant-loop-step
invariant-loop-step g l =
    (l.reader.text.now ≡ l.initial.reader.text.now)
    × ((ps : List Performed) (stop : Option Stop) (last : System)
    → Plays l.initial.reader.text.now l.reader.at (system_of g.P.Protocol.cells plain_lines l.self.run) ps stop last
    → Plays l.initial.reader.text.now l.initial.reader.at (system_of g.P.Protocol.cells plain_lines l.initial.self.run) (map performed (vec_items l.steps) ++ ps) stop last)

-- each access line takes what is left of the text further
abbrev pub decreases-loop-step : goal.decreases-loop-step
decreases-loop-step g l = length l.reader.text.now - l.reader.at
