-- What is still to come, behind the lines counted so far, is what follows from where the counting began.
use Rattle.std.proofs.Common.{◌≡◌, ◌+◌, ◌-◌, ◌≤◌, List, length, Option}
use Rattle.trace.specs.declared.access.Access.{Access}
use Rattle.trace.specs.declared.fault.LineFault.{LineFault}
use Rattle.trace.specs.Texts.{Accesses}
use Rattle.trace.proofs.reader.Reader.count_accesses.Given as goal

abbrev pub invariant-loop-count : goal.invariant-loop-count
invariant-loop-count l =
    (l.ahead.text.now ≡ l.self.text.now) × (l.count ≤ l.ahead.at)
    × ((ys : List Access) (o : Option LineFault) → Accesses l.self.text.now l.ahead.at ys o → (xs : List Access) × Accesses l.self.text.now l.self.at xs o × (length xs ≡ l.count + length ys))

abbrev pub decreases-loop-count : goal.decreases-loop-count
decreases-loop-count l = length l.self.text.now - l.ahead.at
