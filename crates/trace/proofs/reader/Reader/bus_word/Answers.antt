use Rattle.std.proofs.Common.{arith}
use Rattle.trace.proofs.Parting.{bytes_end}
use Rattle.trace.proofs.reader.Reader.bus_word.Goals as goal

pub returns : goal.returns
returns c =
    record { comes = bytes_end _ c.loop-letter.letter-index c.loop-letter.self.text.now c.loop-letter.self.at _ (omega arith) c.loop-letter.invariant.0; text = c.loop-letter.invariant.1 }
