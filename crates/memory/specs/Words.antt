-- Plain memory: how a list of words is cut into lines. `Plain`'s contracts cite it.
--
-- most_plain  how many lines plain memory has at most
-- whole      how many lines so many words make
-- cut        the first lines of the words, so many and of such a width
-- lines_of    the lines that plain memory has of the words
-- spare_of    the words past the lines
-- flat       the words of lines, one line after another
-- plain_lines, plain_spare  the lines and the spare words of a plain memory
use Rattle.std.specs.Prelude.{ℕ, zero, suc, ◌*◌, ◌/◌, min, List, [], ◌∷◌, length, take, drop, vec_items}
use Rattle.std.specs.List.{flat_map}
use Rattle.memory.specs.declared.plain_memory.Plain.{Plain}
use Rattle.memory.specs.Lines.{words_in_line}

-- how many lines plain memory has at most
abbrev pub most_plain : ℕ
most_plain = 16384

-- as many whole lines as there are words for, and no more than plain memory has
abbrev pub whole : ℕ → ℕ
whole len = min (len / words_in_line) most_plain

-- each line is the next words, as many as the width
abbrev pub cut : ℕ → ℕ → List ℕ → List (List ℕ)
cut width zero words = []
cut width (suc n) words = take width words ∷ cut width n (drop width words)

-- the whole lines of the words, from the first word on
unfoldable pub lines_of : List ℕ → List (List ℕ)
lines_of words = cut words_in_line (whole (length words)) words

-- the words past those lines
unfoldable pub spare_of : List ℕ → List ℕ
spare_of words = drop (words_in_line * whole (length words)) words

-- the words of lines, one line after another
abbrev pub flat : List (List ℕ) → List ℕ
flat lines = flat_map (λ line. line) lines

-- the lines of a plain memory, which are both lists of its meaning
abbrev pub plain_lines : Plain → List (List ℕ)
plain_lines m = lines_of (vec_items m.words)

-- the words of a plain memory that no call touches
abbrev pub plain_spare : Plain → List ℕ
plain_spare m = spare_of (vec_items m.words)
