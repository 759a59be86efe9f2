use Rattle.std.proofs.Common.{◌≡◌}
use Rattle.busbench.proofs.measure.measure_at.Given as goal

-- the addresses come from where they came
abbrev pub invariant-loop-part : goal.invariant-loop-part
invariant-loop-part g l = l.accesses.address ≡ l.initial.accesses.address
