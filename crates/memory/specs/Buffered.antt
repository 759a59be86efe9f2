-- A buffer as a memory: its lines are lawful, as many as below, and read where they wait or else below.
use Rattle.std.specs.Prelude.{◌≡◌, ℕ, false, List, [], Result, slice_index_or}
use Rattle.refusal.specs.Refusals.{Answers}
use Rattle.refusal.specs.declared.Refusal.{Refusal}
use Rattle.memory.specs.Ages.{holds}
use Rattle.memory.specs.Buffers.{Buffer, buffer, seen}
use Rattle.memory.specs.Lines.{Lawful, line_due}
use Rattle.memory.specs.declared.write_buffer.WriteBuffer.{WriteBuffer}
use Rattle.memory.specs.Covers.{length_over, over-other, lawful-over}

pub lawful-buffer : {M : Type 0} (lines settled : M → List (List ℕ)) → ((m : M) → Lawful (lines m) (settled m)) → (b : WriteBuffer M) → Lawful (seen (buffer lines b)) (settled b.below)
lawful-buffer lines settled law b =
    lawful-over b.queue (lines b.below) (settled b.below) b.whole (law b.below)

-- a line that does not wait is answered as below
pub read_below : (b : Buffer) (line : ℕ) (r : Result (List ℕ) Refusal) → holds line b.waiting ≡ false → Answers (line_due b.below line) (slice_index_or b.below line []) r → Answers (line_due (seen b) line) (slice_index_or (seen b) line []) r
read_below b line r h a =
    rw (length_over b.waiting b.below, over-other b.waiting line b.below h) a
