-- The words of a bus line that was read lie in the text.
use Rattle.std.proofs.Common.{◌≡◌, ℕ, ◌+◌, ◌≤◌, List, length, drop, Some, None, Ok, decimal, Option, sym, refl, ap, subst, arith, length-append, length-drop}
use Rattle.trace.specs.declared.bus_line.BusLine.{BusLine}
use Rattle.trace.specs.declared.bus_line.Second.{Second}
use Rattle.trace.specs.Lines.{bus_at}
use Rattle.trace.specs.Setups.{Inside, InsideSecond}
use Rattle.trace.specs.Written.{span_of, BusText, SecondText, written_tail, written_bus, tail_of, first_from}
use Rattle.trace.proofs.Bussing.{bus-grammar}

-- how long a bus line is
bus-length : (x : BusText) (i : ℕ) → i + length (written_bus x) ≡ first_from x i + length x.first + length (written_tail x.second)
bus-length x i = simp length-append (omega arith)

tail_inside : (t : List ℕ) (o : Option SecondText) (i : ℕ) → i + length (written_tail o) ≤ length t → InsideSecond t (tail_of o (i + 1))
tail_inside t None i h s e = absurd (cc)
tail_inside t (Some x) i h s e =
    let l : length (written_tail (Some x)) ≡ 1 + length (decimal x.below) + 1 + length x.word + 1 = simp length-append (omega arith) in
    let q : ◌≡◌ {A = Second} (record { below = x.below; word = span_of x.word (i + 1 + length (decimal x.below) + 1) }) s = cc in
    subst (λ (z : Second). Inside t z.word) q (omega arith, omega (arith, h, l))

pub words_inside : (t : List ℕ) (i : ℕ) (l : BusLine) (j : ℕ) → i ≤ length t → bus_at t i ≡ Ok (l, j) → Inside t l.first × InsideSecond t l.second
words_inside t i l j within h =
    let x = bus-grammar.passes t i (drop i t) l j refl h in
    let y = x.form in
    let n : i + length (written_bus y) ≤ length t = omega (arith, length-drop i t, ap length x.cut, length-append (written_bus y) x.rest, within) in
    let m = bus-length y i in
    subst (λ (z : BusLine). Inside t z.first × InsideSecond t z.second) (sym x.means)
    ((omega arith, omega (arith, n, m)), tail_inside t y.second (first_from y i + length y.first) (omega (arith, n, m)))
