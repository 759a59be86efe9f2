-- The write buffer: what waits, what stands below, and what each call makes of the two.
--
-- Buffer     the waiting lines, oldest first, and the lines below
-- seen       what reads answer
-- held_changed, sent_from, oldest_sent, room_made, come  the steps of a call
-- line_taken  after a line was written
-- word_taken  after a word was written
-- all_sent    after everything that waits went down
-- buffer     the two lists of a `WriteBuffer`
-- Steps      a `WriteBuffer` before and after such a step
use Rattle.std.specs.Prelude.{◌≡◌, ℕ, cond, List, [], ◌∷◌, ◌++◌, slice_set}
use Rattle.memory.specs.Ages.{waits, full, holds, changed, over}
use Rattle.memory.specs.Lines.{word_written}
use Rattle.memory.specs.declared.queue.Waiting.{Waiting}
use Rattle.memory.specs.declared.write_buffer.WriteBuffer.{WriteBuffer}

-- the lines that wait, oldest first, and the lines below
pub record Buffer : Type 0 where
  pub waiting : List Waiting
  pub below : List (List ℕ)

-- no read passes a waiting line
abbrev pub seen : Buffer → List (List ℕ)
seen b = over b.waiting b.below

-- the words of a held line change where it waits
abbrev pub held_changed : ℕ → (List ℕ → List ℕ) → Buffer → Buffer
held_changed line f b = record { waiting = changed line f b.waiting; below = b.below }

-- the oldest goes down
abbrev pub sent_from : List Waiting → List (List ℕ) → Buffer
sent_from [] lines = record { waiting = []; below = lines }
sent_from (w ∷ ws) lines = record { waiting = ws; below = slice_set lines w.line w.words }

-- the oldest of a buffer goes down
abbrev pub oldest_sent : Buffer → Buffer
oldest_sent b = sent_from b.waiting b.below

-- of a full buffer the oldest goes down
abbrev pub room_made : Buffer → Buffer
room_made b = cond (full b.waiting) (sent_from b.waiting b.below) b

-- a line comes, as the youngest
abbrev pub come : ℕ → List ℕ → Buffer → Buffer
come line words b = record { waiting = b.waiting ++ waits line words ∷ []; below = b.below }

-- a line already held is replaced and keeps its age; any other comes as the youngest, once there is room
abbrev pub line_taken : ℕ → List ℕ → Buffer → Buffer
line_taken line words b =
    cond (holds line b.waiting) (held_changed line (λ _. words) b) (come line words (room_made b))

-- a word of a held line is changed there, any other goes down
abbrev pub word_taken : ℕ → ℕ → ℕ → Buffer → Buffer
word_taken line word value b =
    cond
    (holds line b.waiting)
    (held_changed line (λ words. slice_set words word value) b)
    (record { waiting = b.waiting; below = word_written b.below line word value })

-- every waiting line went down, oldest first
abbrev pub all_sent : Buffer → Buffer
all_sent b = record { waiting = []; below = over b.waiting b.below }

-- lines gives the lines of the memory below
abbrev pub buffer : {M : Type 0} → (M → List (List ℕ)) → WriteBuffer M → Buffer
buffer lines b = record { waiting = b.queue; below = lines b.below }

-- what waits and what stands below became what a rule makes of them, and the rest of the memory below was kept
pub record Steps {M A : Type 0} (lines : M → List (List ℕ)) (aside : M → A) (rule : Buffer → Buffer) (old new : WriteBuffer M) : Type 0 where
  pub made : buffer lines new ≡ rule (buffer lines old)
  pub kept : aside new.below ≡ aside old.below
