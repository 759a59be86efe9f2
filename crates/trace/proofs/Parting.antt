-- The parts of a line, as the reader meets them.
use Rattle.std.proofs.Common.{◌≡◌, ℕ, ◌+◌, ◌<◌, ◌≤◌, true, false, eqb, List, [], ◌∷◌, Some, length, get_or, drop, Ok, Err, sym, refl, ◌∙◌, arith}
use Rattle.std.proofs.lemmas.Bool.Decides.{nat_tests}
use Rattle.std.proofs.lemmas.List.{at_drop_all}
use Rattle.trace.specs.declared.fault.NumberFault.{NumberFault}
use Rattle.trace.specs.declared.fault.LineFault.TheVariants.{Form, Number}
use Rattle.trace.specs.Lines.{bytes_at}
use Rattle.trace.specs.Reading.{Outcome, next_at, byte_at, is_byte, number_of, kept_fault, fitting, word_of}

-- the byte is the one that is read, or is not
pub byte-is : (b : ℕ) (t : List ℕ) (i : ℕ) → is_byte b (next_at t i) ≡ true → byte_at b t i ≡ Ok (tt, i + 1)
unfolding byte_at
byte-is b t i h = grind arith

pub byte-not : (b : ℕ) (t : List ℕ) (i : ℕ) → is_byte b (next_at t i) ≡ false → byte_at b t i ≡ Err (Form i)
unfolding byte_at
byte-not b t i h = grind arith

-- the byte that comes next, where it is read and where it is not; no byte is a number
pub byte_read : (b c : ℕ) (t : List ℕ) (i j : ℕ) → next_at t i ≡ Some c → byte_at b t i ≡ Ok (tt, j) → (c ≡ b) × (j ≡ i + 1)
unfolding byte_at
byte_read b c t i j e h = grind (arith, nat_tests)

pub byte_left : (b c k : ℕ) (t : List ℕ) (i : ℕ) → next_at t i ≡ Some c → byte_at b t i ≡ Err (Form k) → (eqb c b ≡ false) × (k ≡ i)
unfolding byte_at
byte_left b c k t i e h = grind (arith, nat_tests)

pub byte-no_number : (b : ℕ) (t : List ℕ) (i : ℕ) (f : NumberFault) → byte_at b t i ≡ Err (Number f) → ⊥
unfolding byte_at
byte-no_number b t i f h = grind arith

-- bytes one behind the other, where none is left
pub bytes_end : (bs : List ℕ) (k : ℕ) (t : List ℕ) (i : ℕ) (o : Outcome (Unit {0})) → length bs ≤ k → bytes_at (drop k bs) t i ≡ o → o ≡ Ok (tt, i)
bytes_end bs k t i o h q = sym q ∙ at_drop_all (λ (ds : List ℕ). bytes_at ds t i) bs k h

-- digits with no leading zero
pub digits_other : (ds : List ℕ) (i : ℕ) → 0 < length ds → (1 < length ds → eqb (get_or ds 0 0) 48 ≡ false) → number_of ds i ≡ kept_fault (fitting ds i)
digits_other [] i h z = absurd (omega arith)
digits_other (d ∷ []) i h z = refl
digits_other (d ∷ (e ∷ ds)) i h z = grind arith

-- some bytes of a word
pub bytes-some : (bs : List ℕ) (i : ℕ) → 0 < length bs → word_of bs i ≡ Ok (record { start = i; end = i + length bs }, i + length bs)
bytes-some [] i h = absurd (omega arith)
bytes-some (b ∷ bs) i h = refl
