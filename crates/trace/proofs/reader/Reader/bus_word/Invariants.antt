-- Reading the letters that are left, from here on, is reading them all, from where the reader stood.
use Rattle.std.proofs.Common.{◌≡◌, drop}
use Rattle.trace.specs.Lines.{bytes_at}
use Rattle.trace.proofs.reader.Reader.bus_word.Given as goal

abbrev pub invariant-loop-letter : goal.invariant-loop-letter
invariant-loop-letter l =
    (bytes_at (drop l.letter-index l.letter-items) l.self.text.now l.self.at ≡ bytes_at l.letter-items l.initial.self.text.now l.initial.self.at)
    × (l.self.text.now ≡ l.initial.self.text.now)
