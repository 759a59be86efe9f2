use Rattle.std.proofs.Common.{◌≡◌, drop}
use Rattle.memory.specs.Ages.{over}
use Rattle.memory.proofs.write_buffer.WriteBuffer.send_all.Given as goal

-- the lines that are left, put over what stands below so far, make what reads answer
abbrev pub invariant-loop-waiting : goal.invariant-loop-waiting
invariant-loop-waiting g l =
    (over (drop l.waiting-index l.fn.self.queue) (g.M.Memory.lines l.self.1.0) ≡ over l.fn.self.queue (g.M.Memory.lines l.fn.self.below))
    × (g.M.Memory.aside l.self.1.0 ≡ g.M.Memory.aside l.fn.self.below)
