use Rattle.memory.proofs.Queued.{wide-rest}
use Rattle.memory.proofs.write_buffer.WriteBuffer.send_oldest.Goals as goal

pub invariant_of-self : goal.invariant_of-self
invariant_of-self g c = record { whole = wide-rest _ c.in-Some.oldest c.pop.new.self c.in-Some.ensures c.args.self.now.whole }
