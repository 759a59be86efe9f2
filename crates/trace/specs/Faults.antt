-- The faults of a text, as they are told.
--
-- Stop        a fault as its reader knows it: the refusal told, and the byte of the text
-- number_stop, line_stop, trace_stop   each fault: a number's is 10 at its first byte; a line's is 9, or the
--             number's that it keeps; the run's is the line's that it keeps, or a refusal at a byte
-- number_text, line_text, trace_text   each fault in words
-- layer_of     the layer of a number of the refusal table, and layer_name its name
-- line_of      the line that a byte lies in, counted from 1
use Rattle.std.specs.Prelude.{ℕ, ◌+◌, Bool, cond, ◌&&◌, List, ◌++◌, take, count_by, codes, decimal, ◌==◌, nat_le}
use Rattle.refusal.specs.Refusals.{Told, plain}
use Rattle.refusal.specs.Refusals as refusals
use Rattle.trace.specs.declared.fault.NumberFault.{NumberFault}
use Rattle.trace.specs.declared.fault.LineFault.{LineFault}
use Rattle.trace.specs.declared.fault.LineFault.TheVariants.{Form, Number}
use Rattle.trace.specs.declared.fault.TraceFault.{TraceFault}
use Rattle.trace.specs.declared.fault.TraceFault.TheVariants.{Line, Refused}
use Rattle.trace.specs.declared.layer.Layer.{Layer}
use Rattle.trace.specs.declared.layer.Layer.TheVariants as layer

-- a fault as its reader knows it
pub record Stop : Type 0 where
  pub told : Told
  pub byte : ℕ

-- a number that does not fit: 10 at its first byte
abbrev pub number_stop : NumberFault → Stop
number_stop f = record { told = plain 10; byte = f.byte }

-- a line that is not sound: 9 where its form ends, or its number's fault
abbrev pub line_stop : LineFault → Stop
line_stop (Form byte) = record { told = plain 9; byte = byte }
line_stop (Number f) = number_stop f

-- what stops a run: its line's fault, or a refusal
abbrev pub trace_stop : TraceFault → Stop
trace_stop (Line f) = line_stop f
trace_stop (Refused byte refusal) = record { told = refusals.told refusal; byte = byte }

-- each fault in words: a line's that keeps a number's has the number's, the run's that keeps a line's has the line's
abbrev pub number_text : NumberFault → List ℕ
number_text f = codes "the number at byte " ++ (decimal f.byte ++ codes " does not fit 32 bits")

abbrev pub line_text : LineFault → List ℕ
line_text (Form byte) = codes "the line is not sound at byte " ++ decimal byte
line_text (Number f) = number_text f

abbrev pub trace_text : TraceFault → List ℕ
trace_text (Line f) = line_text f
trace_text (Refused byte refusal) = codes "refusal " ++ (decimal (refusals.number refusal) ++ (codes " at byte " ++ decimal byte))

-- 10 is a number's, 9 a line's, 5 to 7 the model's, and all others are the setup's
abbrev pub layer_of : ℕ → Layer
layer_of n = cond (n == 10) layer.Number (cond (n == 9) layer.Line (cond (nat_le 5 n && nat_le n 7) layer.Model layer.Setup))

-- the name of a layer
abbrev pub layer_name : Layer → List ℕ
layer_name layer.Number = codes "number"
layer_name layer.Line = codes "line"
layer_name layer.Model = codes "model"
layer_name layer.Setup = codes "setup"

-- a line ends with byte 10
abbrev pub is_line_end : ℕ → Bool
is_line_end b = b == 10

-- one more than the lines that end before the byte
abbrev pub line_of : List ℕ → ℕ → ℕ
line_of t byte = 1 + count_by is_line_end (take byte t)
