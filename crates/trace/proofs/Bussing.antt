-- The bus line keeps faith with its written form.
use Rattle.std.proofs.Common.{◌≡◌, ℕ, ◌+◌, true, false, ◌⊎◌, List, [], ◌∷◌, ◌++◌, length, Some, None, decimal, Option, refl, ap, inl, inr, arith}
use Rattle.trace.specs.declared.bus_line.BusLine.{BusLine}
use Rattle.trace.specs.declared.bus_line.Numeral.{Numeral}
use Rattle.trace.specs.declared.bus_line.Second.{Second}
use Rattle.trace.specs.declared.word.Word.{Word}
use Rattle.trace.specs.Choices.{is_digit}
use Rattle.trace.specs.Runs.{in_word}
use Rattle.trace.specs.Lines.{bus_word_at, numeral_at, spaced_word_at, last_at, second_at, tail_at, bus_at}
use Rattle.trace.specs.Written.{IsWord, span_of, SecondText, BusText, written_tail, written_bus, SoundTail, SoundBus, Fits32, tail_of, bus_line_of}
use Rattle.trace.proofs.Grammars.{stops, Grammar, then-grammar, made-grammar, named-grammar}
use Rattle.trace.proofs.Tokens.{byte-grammar, number-grammar, word-grammar}
use Rattle.trace.proofs.Choosing.{one_of, choice_grammar}
use Rattle.trace.proofs.Accessing.{all-stop}

-- `bus`
abbrev Named : Type 0
Named = Unit {0} × (Unit {0} × Unit {0})

bus-word_grammar : Grammar {X = Named} (λ _. 98 ∷ (117 ∷ (115 ∷ []))) (λ _. Named) (λ _ _. tt {0}) (λ _. false) bus_word_at
bus-word_grammar =
    then-grammar (byte-grammar 98) (λ _. then-grammar (byte-grammar 117) (λ _. made-grammar (byte-grammar 115) (λ _ _. tt)) tt tt (λ y r h. refl)) (tt, tt) (tt, tt) (λ y r h. refl)

-- ` NUMBER`
abbrev Numbered : Type 0
Numbered = Unit {0} × ℕ

abbrev numbered_text : Numbered → List ℕ
numbered_text x = 32 ∷ decimal x.1

abbrev numbered_good : Numbered → Type 0
numbered_good x = Unit {0} × Fits32 x.1

abbrev numbered_value : Numbered → ℕ → Numeral
numbered_value x i = record { value = x.1; byte = i + 1 }

numeral_grammar : Grammar numbered_text numbered_good numbered_value is_digit numeral_at
numeral_grammar = then-grammar (byte-grammar 32) (λ _. made-grammar number-grammar (λ i value. record { value = value; byte = i })) 0 (omega arith) (λ y r h. all-stop (decimal y ++ r))

-- ` WORD`
abbrev Worded : Type 0
Worded = Unit {0} × List ℕ

abbrev worded_text : Worded → List ℕ
worded_text x = 32 ∷ x.1

abbrev worded_good : Worded → Type 0
worded_good x = Unit {0} × IsWord x.1

abbrev worded_value : Worded → ℕ → Word
worded_value x i = span_of x.1 (i + 1)

spaced_word_grammar : Grammar worded_text worded_good worded_value in_word spaced_word_at
spaced_word_grammar = then-grammar (byte-grammar 32) (λ _. word-grammar) (120 ∷ []) (omega arith, refl) (λ y r h. all-stop (y ++ r))

-- what follows P
last-grammar : Grammar {X = Unit {0}} (λ _. 10 ∷ []) (λ _. Unit {0}) (λ _ _. None) (λ _. false) last_at
last-grammar = made-grammar (byte-grammar 10) (λ _ _. None)

abbrev Seconded : Type 0
Seconded = Unit {0} × (ℕ × (Worded × Unit {0}))

abbrev seconded_text : Seconded → List ℕ
seconded_text x = 32 ∷ (decimal x.1.0 ++ (32 ∷ (x.1.1.0.1 ++ (10 ∷ []))))

abbrev seconded_good : Seconded → Type 0
seconded_good x = Unit {0} × (Fits32 x.1.0 × (worded_good x.1.1.0 × Unit {0}))

abbrev seconded_value : Seconded → ℕ → Option Second
seconded_value x i = Some (record { below = x.1.0; word = worded_value x.1.1.0 (i + 1 + length (decimal x.1.0)) })

second-grammar : Grammar seconded_text seconded_good seconded_value (λ _. false) second_at
second-grammar =
    then-grammar (byte-grammar 32)
    (λ _. then-grammar number-grammar
    (λ below. then-grammar spaced_word_grammar (λ word. made-grammar (byte-grammar 10) (λ _ _. Some (record { below = below; word = word }))) tt tt (λ y r h. refl))
    ((tt, 120 ∷ []), tt) ((tt, (omega arith, refl)), tt) (λ y r h. refl))
    (0, ((tt, 120 ∷ []), tt)) (omega arith, ((tt, (omega arith, refl)), tt)) (λ y r h. all-stop _)

abbrev tailed_text : Seconded ⊎ Unit {0} → List ℕ
tailed_text = one_of seconded_text (λ _. 10 ∷ [])

abbrev tailed_good : Seconded ⊎ Unit {0} → Type 0
tailed_good = one_of seconded_good (λ _. Unit {0})

abbrev tailed_value : Seconded ⊎ Unit {0} → ℕ → Option Second
tailed_value = one_of seconded_value (λ _ _. None)

tail_grammar : Grammar tailed_text tailed_good tailed_value (λ _. false) tail_at
tail_grammar =
    choice_grammar second-grammar last-grammar 32 (λ x. (decimal x.1.0 ++ (32 ∷ (x.1.1.0.1 ++ (10 ∷ []))), refl)) (λ y. (10, [], refl, refl))

-- behind a word comes a space or the line's end
tail_apart : (y : Seconded ⊎ Unit {0}) (r : List ℕ) → stops in_word (tailed_text y ++ r) ≡ true
tail_apart (inl x) r = refl
tail_apart (inr x) r = refl

-- the whole line
abbrev Lined : Type 0
Lined = Named × (Numbered × (Numbered × (Numbered × (Worded × (Seconded ⊎ Unit {0})))))

abbrev lined_text : Lined → List ℕ
lined_text x =
    (98 ∷ (117 ∷ (115 ∷ [])))
    ++ (numbered_text x.1.0 ++ (numbered_text x.1.1.0 ++ (numbered_text x.1.1.1.0 ++ (worded_text x.1.1.1.1.0 ++ tailed_text x.1.1.1.1.1))))

abbrev lined_good : Lined → Type 0
lined_good x =
    Named × (numbered_good x.1.0 × (numbered_good x.1.1.0 × (numbered_good x.1.1.1.0 × (worded_good x.1.1.1.1.0 × tailed_good x.1.1.1.1.1))))

-- the value of the whole line, by where its parts begin
abbrev built : Lined → ℕ → ℕ → ℕ → ℕ → Option Second → BusLine
built x a b c d s =
    record {
      seats = record { value = x.1.0.1; byte = a };
      sets = record { value = x.1.1.0.1; byte = b };
      lines = record { value = x.1.1.1.0.1; byte = c };
      first = span_of x.1.1.1.1.0.1 d;
      second = s;
    }

-- each part begins where the one before it ends
abbrev begin2 : Lined → ℕ → ℕ
begin2 x i = i + 3 + length (numbered_text x.1.0)

abbrev begin3 : Lined → ℕ → ℕ
begin3 x i = begin2 x i + length (numbered_text x.1.1.0)

abbrev begin4 : Lined → ℕ → ℕ
begin4 x i = begin3 x i + length (numbered_text x.1.1.1.0)

abbrev begin5 : Lined → ℕ → ℕ
begin5 x i = begin4 x i + length (worded_text x.1.1.1.1.0)

abbrev lined_value : Lined → ℕ → BusLine
lined_value x i = built x (i + 3 + 1) (begin2 x i + 1) (begin3 x i + 1) (begin4 x i + 1) (tailed_value x.1.1.1.1.1 (begin5 x i))

lined-grammar : Grammar lined_text lined_good lined_value (λ _. false) bus_at
lined-grammar =
    then-grammar bus-word_grammar
    (λ _. then-grammar numeral_grammar
    (λ seats. then-grammar numeral_grammar
    (λ sets. then-grammar numeral_grammar
    (λ lines. then-grammar spaced_word_grammar
    (λ first. made-grammar tail_grammar (λ _ second. record { seats = seats; sets = sets; lines = lines; first = first; second = second }))
    (inr tt) tt (λ y r h. tail_apart y r))
    ((tt, 120 ∷ []), inr tt) ((tt, (omega arith, refl)), tt) (λ y r h. refl))
    ((tt, 0), ((tt, 120 ∷ []), inr tt)) ((tt, omega arith), ((tt, (omega arith, refl)), tt)) (λ y r h. refl))
    ((tt, 0), ((tt, 0), ((tt, 120 ∷ []), inr tt))) ((tt, omega arith), ((tt, omega arith), ((tt, (omega arith, refl)), tt))) (λ y r h. refl))
    ((tt, 0), ((tt, 0), ((tt, 0), ((tt, 120 ∷ []), inr tt))))
    ((tt, omega arith), ((tt, omega arith), ((tt, omega arith), ((tt, (omega arith, refl)), tt)))) (λ y r h. refl)

-- it is what a bus line says
abbrev to_second : Seconded ⊎ Unit {0} → Option SecondText
to_second (inl y) = Some (record { below = y.1.0; word = y.1.1.0.1 })
to_second (inr y) = None

abbrev to_bus : Lined → BusText
to_bus x =
    record { seats = x.1.0.1; sets = x.1.1.0.1; lines = x.1.1.1.0.1; first = x.1.1.1.1.0.1; second = to_second x.1.1.1.1.1 }

tail-sound : (y : Seconded ⊎ Unit {0}) → tailed_good y → SoundTail (to_second y)
tail-sound (inl y) g = (g.1.0, g.1.1.0.1)
tail-sound (inr y) g = tt

bus-sound : (x : Lined) → lined_good x → SoundBus (to_bus x)
bus-sound x g = (g.1.0.1, g.1.1.0.1, g.1.1.1.0.1, g.1.1.1.1.0.1, tail-sound x.1.1.1.1.1 g.1.1.1.1.1)

tail_written : (y : Seconded ⊎ Unit {0}) → written_tail (to_second y) ≡ tailed_text y
tail_written (inl y) = refl
tail_written (inr y) = refl

bus-written : (x : Lined) → written_bus (to_bus x) ≡ lined_text x
bus-written x =
    ap (λ (z : List ℕ). (98 ∷ (117 ∷ (115 ∷ []))) ++ (numbered_text x.1.0 ++ (numbered_text x.1.1.0 ++ (numbered_text x.1.1.1.0 ++ (worded_text x.1.1.1.1.0 ++ z)))))
    (tail_written x.1.1.1.1.1)

tail-value : (y : Seconded ⊎ Unit {0}) (i j : ℕ) → i + 1 ≡ j → tailed_value y i ≡ tail_of (to_second y) j
tail-value (inl y) i j e =
    ap (λ (k : ℕ). Some (record { below = y.1.0; word = span_of y.1.1.0.1 (k + length (decimal y.1.0) + 1) })) e
tail-value (inr y) i j e = refl

bus-value : (x : Lined) (i : ℕ) → lined_value x i ≡ bus_line_of (to_bus x) i
bus-value x i =
    let z = bus_line_of (to_bus x) i in
    let a : i + 3 + 1 ≡ z.seats.byte = omega arith in
    let b : begin2 x i + 1 ≡ z.sets.byte = omega arith in
    let c : begin3 x i + 1 ≡ z.lines.byte = omega arith in
    let d : begin4 x i + 1 ≡ z.first.start = omega arith in
    let s = tail-value x.1.1.1.1.1 (begin5 x i) (z.first.end + 1) (omega arith) in
    cc

tail-lined : (o : Option SecondText) → SoundTail o → (y : Seconded ⊎ Unit {0}) × (to_second y ≡ o) × tailed_good y
tail-lined None g = (inr tt, refl, tt)
tail-lined (Some x) g = (inl (tt, (x.below, ((tt, x.word), tt))), refl, (tt, (g.0, ((tt, g.1), tt))))

bus-lined : (z : BusText) → SoundBus z → (x : Lined) × (to_bus x ≡ z) × lined_good x
bus-lined z g =
    let y = tail-lined z.second g.4 in (
      ((tt, (tt, tt)), ((tt, z.seats), ((tt, z.sets), ((tt, z.lines), ((tt, z.first), y.0))))),
      ap (λ (o : Option SecondText). record { seats = z.seats; sets = z.sets; lines = z.lines; first = z.first; second = o }) y.1,
      ((tt, (tt, tt)), ((tt, g.0), ((tt, g.1), ((tt, g.2), ((tt, g.3), y.2))))),
    )

pub bus-grammar : Grammar written_bus SoundBus bus_line_of (λ _. false) bus_at
bus-grammar = named-grammar lined-grammar written_bus SoundBus bus_line_of to_bus bus-sound bus-written bus-value bus-lined
