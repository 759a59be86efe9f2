use Rattle.std.proofs.Common.{◌≡◌, length}
use Rattle.busbench.proofs.measure.Accesses.make_all.Given as goal

-- the addresses come from where they came, and the places stay as many
abbrev pub invariant-loop : goal.invariant-loop
invariant-loop g l = (l.self.address ≡ l.initial.self.address) × (length l.records ≡ 4)
