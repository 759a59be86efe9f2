-- Reading a whole line, from a place of the text on.
--
-- target_at   ` SEAT ADDR`
-- target_line_at  a letter, ` SEAT ADDR`, and the line's end
-- access_at   an access line: `r SEAT ADDR`, `w SEAT ADDR VALUE`, `f SEAT ADDR` or `s`; its first byte decides
-- numeral_at  ` NUMBER`, and spaced_word_at ` WORD`
-- bus_at      the bus line: `bus SEATS SETS LINES P` or `bus SEATS SETS LINES P B Q`
use Rattle.std.specs.Prelude.{ℕ, cond, List, [], ◌∷◌, Some, None, Ok, Err, codes, Option, ◌==◌}
use Rattle.trace.specs.declared.access.Access.{Access}
use Rattle.trace.specs.declared.access.Access.TheVariants.{Read, Write, Flush, Settle}
use Rattle.trace.specs.declared.bus_line.BusLine.{BusLine}
use Rattle.trace.specs.declared.bus_line.Numeral.{Numeral}
use Rattle.trace.specs.declared.bus_line.Second.{Second}
use Rattle.trace.specs.declared.fault.LineFault.TheVariants.{Form}
use Rattle.trace.specs.declared.word.Word.{Word}
use Rattle.trace.specs.Reading.{Outcome, and_then, is_byte, next_at, byte_at, number_at, word_at}

-- ` SEAT ADDR`
abbrev pub target_at : List ℕ → ℕ → Outcome (ℕ × ℕ)
target_at t i =
    and_then (byte_at 32 t i) (λ _ i. and_then (number_at t i) (λ seat i. and_then (byte_at 32 t i) (λ _ i. and_then (number_at t i) (λ address i. Ok ((seat, address), i)))))

-- a letter, ` SEAT ADDR`, and the line's end
abbrev pub target_line_at : ℕ → List ℕ → ℕ → Outcome (ℕ × ℕ)
target_line_at letter t i = and_then (byte_at letter t i) (λ _ i. and_then (target_at t i) (λ at i. and_then (byte_at 10 t i) (λ _ i. Ok (at, i))))

-- `r SEAT ADDR`
abbrev pub read_line_at : List ℕ → ℕ → Outcome Access
read_line_at t i = and_then (target_line_at 114 t i) (λ at i. Ok (Read at.0 at.1, i))

-- `w SEAT ADDR VALUE`
abbrev pub write_line_at : List ℕ → ℕ → Outcome Access
write_line_at t i =
    and_then (byte_at 119 t i) (λ _ i. and_then (target_at t i) (λ at i. and_then (byte_at 32 t i) (λ _ i. and_then (number_at t i) (λ value i.
    and_then (byte_at 10 t i) (λ _ i. Ok (Write at.0 at.1 value, i))))))

-- `f SEAT ADDR`
abbrev pub flush_line_at : List ℕ → ℕ → Outcome Access
flush_line_at t i = and_then (target_line_at 102 t i) (λ at i. Ok (Flush at.0 at.1, i))

-- `s`
abbrev pub settle_line_at : List ℕ → ℕ → Outcome Access
settle_line_at t i = and_then (byte_at 115 t i) (λ _ i. and_then (byte_at 10 t i) (λ _ i. Ok (Settle, i)))

-- the first byte decides the line
abbrev pub access_by : Option ℕ → List ℕ → ℕ → Outcome Access
access_by None t i = Err (Form i)
access_by (Some b) t i =
    cond (b == 114) (read_line_at t i) (cond (b == 119) (write_line_at t i) (cond (b == 102) (flush_line_at t i) (cond (b == 115) (settle_line_at t i) (Err (Form i)))))

-- an access line
abbrev pub access_at : List ℕ → ℕ → Outcome Access
access_at t i = access_by (next_at t i) t i

-- these bytes, one behind the other
abbrev pub bytes_at : List ℕ → List ℕ → ℕ → Outcome (Unit {0})
bytes_at [] t i = Ok (tt, i)
bytes_at (b ∷ bs) t i = and_then (byte_at b t i) (λ _ i. bytes_at bs t i)

-- `bus`
abbrev pub bus_word_at : List ℕ → ℕ → Outcome (Unit {0})
bus_word_at t i = bytes_at (codes "bus") t i

-- ` NUMBER`, with the number's first byte
abbrev pub numeral_at : List ℕ → ℕ → Outcome Numeral
numeral_at t i = and_then (byte_at 32 t i) (λ _ i. and_then (number_at t i) (λ value j. Ok (record { value = value; byte = i }, j)))

-- ` WORD`
abbrev pub spaced_word_at : List ℕ → ℕ → Outcome Word
spaced_word_at t i = and_then (byte_at 32 t i) (λ _ i. word_at t i)

-- the end of the line behind P
abbrev pub last_at : List ℕ → ℕ → Outcome (Option Second)
last_at t i = and_then (byte_at 10 t i) (λ _ i. Ok (None, i))

-- ` B Q` and the end of the line
abbrev pub second_at : List ℕ → ℕ → Outcome (Option Second)
second_at t i =
    and_then (byte_at 32 t i) (λ _ i. and_then (number_at t i) (λ below i. and_then (spaced_word_at t i) (λ word i. and_then (byte_at 10 t i) (λ _ i.
    Ok (Some (record { below = below; word = word }), i)))))

-- what follows P: a space decides for B and Q
abbrev pub tail_at : List ℕ → ℕ → Outcome (Option Second)
tail_at t i = cond (is_byte 32 (next_at t i)) (second_at t i) (last_at t i)

-- a bus line
abbrev pub bus_at : List ℕ → ℕ → Outcome BusLine
bus_at t i =
    and_then (bus_word_at t i) (λ _ i. and_then (numeral_at t i) (λ seats i. and_then (numeral_at t i) (λ sets i. and_then (numeral_at t i) (λ lines i.
    and_then (spaced_word_at t i) (λ first i. and_then (tail_at t i) (λ second i.
    Ok (record { seats = seats; sets = sets; lines = lines; first = first; second = second }, i)))))))
