use Rattle.std.proofs.Common.{◌≡◌, ◌++◌, drop, string_bytes}
use Rattle.report.specs.Printed.{memory_lines}
use Rattle.report.proofs.memory_lines.PlainShown.show.Given as goal

-- with the lines to come, all lines are shown
abbrev pub invariant-loop-line : goal.invariant-loop-line
invariant-loop-line l =
    string_bytes l.out ++ memory_lines l.line (drop l.line l.words-items)
    ≡ string_bytes l.initial.out ++ memory_lines 0 l.words-items
