-- Access lines keep faith with their written form.
use Rattle.std.proofs.Common.{◌≡◌, ℕ, true, false, cond, eqb, ◌⊎◌, List, [], ◌∷◌, ◌++◌, Some, None, Err, decimal, Option, sym, refl, ap, inl, inr, append_assoc, arith}
use Rattle.trace.specs.declared.access.Access.{Access}
use Rattle.trace.specs.declared.access.Access.TheVariants.{Read, Write, Flush, Settle}
use Rattle.trace.specs.declared.fault.LineFault.TheVariants.{Form}
use Rattle.trace.specs.Choices.{is_digit}
use Rattle.trace.specs.Reading.{Outcome, next_at, is_byte}
use Rattle.trace.specs.Lines.{target_at, target_line_at, read_line_at, write_line_at, flush_line_at, settle_line_at, access_at, access_by}
use Rattle.trace.specs.Written.{written, Sound, Fits32}
use Rattle.trace.proofs.Grammars.{stops, Grammar, then-grammar, made-grammar, alike_grammar, named-grammar}
use Rattle.trace.proofs.Parting.{byte-not}
use Rattle.trace.proofs.Tokens.{byte-grammar, number-grammar}
use Rattle.trace.proofs.Choosing.{one_of, choice_grammar}

-- behind a byte anything may follow
pub all-stop : (s : List ℕ) → stops (λ _. false) s ≡ true
all-stop [] = refl
all-stop (b ∷ bs) = refl

-- ` SEAT ADDR`
abbrev Target : Type 0
Target = Unit {0} × (ℕ × (Unit {0} × ℕ))

abbrev target_text : Target → List ℕ
target_text x = (32 ∷ []) ++ (decimal x.1.0 ++ ((32 ∷ []) ++ decimal x.1.1.1))

abbrev target_good : Target → Type 0
target_good x = Unit {0} × (Fits32 x.1.0 × (Unit {0} × Fits32 x.1.1.1))

abbrev target_value : Target → ℕ → ℕ × ℕ
target_value x i = (x.1.0, x.1.1.1)

target_grammar : Grammar target_text target_good target_value is_digit target_at
target_grammar =
    then-grammar (byte-grammar 32)
    (λ _. then-grammar number-grammar
    (λ seat. then-grammar (byte-grammar 32) (λ _. made-grammar number-grammar (λ _ address. (seat, address))) 0 (omega arith) (λ y r h. all-stop (decimal y ++ r)))
    (tt, 0) (tt, omega arith) (λ y r h. refl))
    (0, (tt, 0)) (omega arith, (tt, omega arith)) (λ y r h. all-stop _)

-- a letter, a seat and an address
abbrev Aimed : Type 0
Aimed = Unit {0} × (Target × Unit {0})

abbrev aimed_text : ℕ → Aimed → List ℕ
aimed_text b x = (b ∷ []) ++ (target_text x.1.0 ++ (10 ∷ []))

abbrev aimed_good : Aimed → Type 0
aimed_good x = Unit {0} × (target_good x.1.0 × Unit {0})

abbrev aimed_target : Aimed → ℕ → ℕ × ℕ
aimed_target x i = target_value x.1.0 i

abbrev aimed_value : (ℕ → ℕ → Access) → Aimed → ℕ → Access
aimed_value f x i = f x.1.0.1.0 x.1.0.1.1.1

aimed_grammar : (b : ℕ) → Grammar (aimed_text b) aimed_good aimed_target (λ _. false) (target_line_at b)
aimed_grammar b =
    then-grammar (byte-grammar b)
    (λ _. then-grammar target_grammar (λ at. made-grammar (byte-grammar 10) (λ _ _. at)) tt tt (λ y r h. refl))
    ((tt, (0, (tt, 0))), tt) ((tt, (omega arith, (tt, omega arith))), tt) (λ y r h. refl)

read_grammar : Grammar (aimed_text 114) aimed_good (aimed_value Read) (λ _. false) read_line_at
read_grammar = made-grammar (aimed_grammar 114) (λ _ at. Read at.0 at.1)

flush_grammar : Grammar (aimed_text 102) aimed_good (aimed_value Flush) (λ _. false) flush_line_at
flush_grammar = made-grammar (aimed_grammar 102) (λ _ at. Flush at.0 at.1)

-- the same with a value
abbrev Valued : Type 0
Valued = Unit {0} × (Target × (Unit {0} × (ℕ × Unit {0})))

abbrev valued_text : Valued → List ℕ
valued_text x = (119 ∷ []) ++ (target_text x.1.0 ++ ((32 ∷ []) ++ (decimal x.1.1.1.0 ++ (10 ∷ []))))

abbrev valued_good : Valued → Type 0
valued_good x = Unit {0} × (target_good x.1.0 × (Unit {0} × (Fits32 x.1.1.1.0 × Unit {0})))

abbrev valued_value : Valued → ℕ → Access
valued_value x i = Write x.1.0.1.0 x.1.0.1.1.1 x.1.1.1.0

write_grammar : Grammar valued_text valued_good valued_value (λ _. false) write_line_at
write_grammar =
    then-grammar (byte-grammar 119)
    (λ _. then-grammar target_grammar
    (λ at. then-grammar (byte-grammar 32)
    (λ _. then-grammar number-grammar (λ value. made-grammar (byte-grammar 10) (λ _ _. Write at.0 at.1 value)) tt tt (λ y r h. refl))
    (0, tt) (omega arith, tt) (λ y r h. all-stop _))
    (tt, (0, tt)) (tt, (omega arith, tt)) (λ y r h. refl))
    ((tt, (0, (tt, 0))), (tt, (0, tt))) ((tt, (omega arith, (tt, omega arith))), (tt, (omega arith, tt))) (λ y r h. refl)

settle-grammar : Grammar {X = Unit {0} × Unit {0}} (λ _. 115 ∷ (10 ∷ [])) (λ _. Unit {0} × Unit {0}) (λ _ _. Settle) (λ _. false) settle_line_at
settle-grammar =
    then-grammar (byte-grammar 115) (λ _. made-grammar (byte-grammar 10) (λ _ _. Settle)) tt tt (λ y r h. refl)

-- the four lines, by their first byte
abbrev Lined : Type 0
Lined = Aimed ⊎ (Valued ⊎ (Aimed ⊎ (Unit {0} × Unit {0})))

abbrev lined_text : Lined → List ℕ
lined_text = one_of (aimed_text 114) (one_of valued_text (one_of (aimed_text 102) (λ _. 115 ∷ (10 ∷ []))))

abbrev lined_good : Lined → Type 0
lined_good = one_of aimed_good (one_of valued_good (one_of aimed_good (λ _. Unit {0} × Unit {0})))

abbrev lined_value : Lined → ℕ → Access
lined_value = one_of (aimed_value Read) (one_of valued_value (one_of (aimed_value Flush) (λ _ _. Settle)))

abbrev lined : List ℕ → ℕ → Outcome Access
lined t i =
    cond (is_byte 114 (next_at t i)) (read_line_at t i)
    (cond (is_byte 119 (next_at t i)) (write_line_at t i) (cond (is_byte 102 (next_at t i)) (flush_line_at t i) (settle_line_at t i)))

not_f : (y : Unit {0} × Unit {0}) → (c : ℕ) × (w : List ℕ) × (115 ∷ (10 ∷ []) ≡ c ∷ w) × (eqb c 102 ≡ false)
not_f y = (115, 10 ∷ [], refl, refl)

not-w : (y : Aimed ⊎ (Unit {0} × Unit {0})) → (c : ℕ) × (w : List ℕ) × (one_of (aimed_text 102) (λ _. 115 ∷ (10 ∷ [])) y ≡ c ∷ w) × (eqb c 119 ≡ false)
not-w (inl x) = (102, target_text x.1.0 ++ (10 ∷ []), refl, refl)
not-w (inr y) = (115, 10 ∷ [], refl, refl)

not-r : (y : Valued ⊎ (Aimed ⊎ (Unit {0} × Unit {0})))
    → (c : ℕ) × (w : List ℕ) × (one_of valued_text (one_of (aimed_text 102) (λ _. 115 ∷ (10 ∷ []))) y ≡ c ∷ w) × (eqb c 114 ≡ false)
not-r (inl x) = (119, target_text x.1.0 ++ ((32 ∷ []) ++ (decimal x.1.1.1.0 ++ (10 ∷ []))), refl, refl)
not-r (inr (inl x)) = (102, target_text x.1.0 ++ (10 ∷ []), refl, refl)
not-r (inr (inr y)) = (115, 10 ∷ [], refl, refl)

lined-grammar : Grammar lined_text lined_good lined_value (λ _. false) lined
lined-grammar =
    choice_grammar read_grammar
    (choice_grammar write_grammar
    (choice_grammar flush_grammar settle-grammar 102 (λ x. (target_text x.1.0 ++ (10 ∷ []), refl)) not_f) 119
    (λ x. (target_text x.1.0 ++ ((32 ∷ []) ++ (decimal x.1.1.1.0 ++ (10 ∷ []))), refl)) not-w)
    114 (λ x. (target_text x.1.0 ++ (10 ∷ []), refl)) not-r

-- without its letter a settle line is stuck where it begins
no-settle : (t : List ℕ) (i : ℕ) → is_byte 115 (next_at t i) ≡ false → settle_line_at t i ≡ Err (Form i)
no-settle t i h = grind (arith, byte-not)

by-letter : (t : List ℕ) (i : ℕ) (o : Option ℕ) → next_at t i ≡ o
    → access_by o t i ≡ cond (is_byte 114 o) (read_line_at t i) (cond (is_byte 119 o) (write_line_at t i) (cond (is_byte 102 o) (flush_line_at t i) (settle_line_at t i)))
by-letter t i None h = sym (no-settle t i (ap (is_byte 115) h))
by-letter t i (Some b) h = grind (arith, no-settle)

-- each of them is an access
to_access : Lined → Access
to_access (inl x) = Read x.1.0.1.0 x.1.0.1.1.1
to_access (inr (inl x)) = Write x.1.0.1.0 x.1.0.1.1.1 x.1.1.1.0
to_access (inr (inr (inl x))) = Flush x.1.0.1.0 x.1.0.1.1.1
to_access (inr (inr (inr x))) = Settle

access-sound : (x : Lined) → lined_good x → Sound (to_access x)
unfolding to_access
access-sound (inl x) g = (g.1.0.1.0, g.1.0.1.1.1)
access-sound (inr (inl x)) g = (g.1.0.1.0, g.1.0.1.1.1, g.1.1.1.0)
access-sound (inr (inr (inl x))) g = (g.1.0.1.0, g.1.0.1.1.1)
access-sound (inr (inr (inr x))) g = tt

access-written : (x : Lined) → written (to_access x) ≡ lined_text x
unfolding to_access
access-written (inl x) = refl
access-written (inr (inl x)) = simp append_assoc
access-written (inr (inr (inl x))) = refl
access-written (inr (inr (inr x))) = refl

access-value : (x : Lined) (i : ℕ) → lined_value x i ≡ to_access x
unfolding to_access
access-value (inl x) i = refl
access-value (inr (inl x)) i = refl
access-value (inr (inr (inl x))) i = refl
access-value (inr (inr (inr x))) i = refl

access-lined : (z : Access) → Sound z → (x : Lined) × (to_access x ≡ z) × lined_good x
unfolding to_access
access-lined (Read s a) g = (inl (tt, ((tt, (s, (tt, a))), tt)), refl, (tt, ((tt, (g.0, (tt, g.1))), tt)))
access-lined (Write s a v) g = (inr (inl (tt, ((tt, (s, (tt, a))), (tt, (v, tt))))), refl, (tt, ((tt, (g.0, (tt, g.1))), (tt, (g.2, tt)))))
access-lined (Flush s a) g = (inr (inr (inl (tt, ((tt, (s, (tt, a))), tt)))), refl, (tt, ((tt, (g.0, (tt, g.1))), tt)))
access-lined Settle g = (inr (inr (inr (tt, tt))), refl, (tt, tt))

pub access-grammar : Grammar written Sound (λ x _. x) (λ _. false) access_at
access-grammar =
    named-grammar (alike_grammar lined-grammar access_at (λ t i. by-letter t i (next_at t i) refl)) written Sound (λ x _. x) to_access access-sound access-written access-value access-lined
