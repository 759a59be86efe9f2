-- A reading that the next byte decides.
use Rattle.std.proofs.Common.{◌≡◌, ℕ, ◌+◌, Bool, true, false, cond, eqb, ◌⊎◌, List, [], ◌∷◌, ◌++◌, length, Ok, Err, sym, refl, ap, ◌∙◌, inl, inr, ⊎_elim}
use Rattle.std.proofs.lemmas.Bool.{cases_Bool, cond-true, cond-false, eq-eqb}
use Rattle.refusal.specs.Refusals.{first}
use Rattle.trace.specs.declared.fault.NumberFault.{NumberFault}
use Rattle.trace.specs.declared.fault.LineFault.TheVariants.{Form, Number}
use Rattle.trace.specs.Reading.{Outcome, next_at, is_byte}
use Rattle.trace.proofs.Grammars.{From, stops, Passed, Reached, Stuck, Large, Grammar}
use Rattle.trace.proofs.Tokens.{byte-test}

-- by the side of a sum
abbrev pub one_of {ℓ} : {X Y : Type 0} {C : Type ℓ} → (X → C) → (Y → C) → X ⊎ Y → C
one_of f g (inl x) = f x
one_of f g (inr y) = g y

-- what follows the first byte does not matter
first_alike : (u : List ℕ) (c : ℕ) (v w : List ℕ) → first (u ++ (c ∷ v)) ≡ first (u ++ (c ∷ w))
first_alike [] c v w = refl
first_alike (d ∷ u) c v w = refl

module _ {X Y A : Type 0} {T : X → List ℕ} {G : X → Type 0} {val : X → ℕ → A} {U : Y → List ℕ} {F : Y → Type 0} {value : Y → ℕ → A} {test : ℕ → Bool}
    {p q : List ℕ → ℕ → Outcome A} (P : Grammar T G val test p) (Q : Grammar U F value test q) (b : ℕ) (leads : (x : X) → (w : List ℕ) × (T x ≡ b ∷ w))
    (others : (y : Y) → (c : ℕ) × (w : List ℕ) × (U y ≡ c ∷ w) × (eqb c b ≡ false)) where
  takes_first : (t : List ℕ) (i : ℕ) → is_byte b (next_at t i) ≡ true → cond (is_byte b (next_at t i)) (p t i) (q t i) ≡ p t i
  takes_first t i h = cond-true (is_byte b (next_at t i)) (p t i) (q t i) h

  takes-second : (t : List ℕ) (i : ℕ) → is_byte b (next_at t i) ≡ false → cond (is_byte b (next_at t i)) (p t i) (q t i) ≡ q t i
  takes-second t i h = cond-false (is_byte b (next_at t i)) (p t i) (q t i) h

  first-test : (x : X) (t : List ℕ) (i : ℕ) (r : List ℕ) → From t i (T x ++ r) → is_byte b (next_at t i) ≡ true
  first-test x t i r e =
      byte-test b t i (T x ++ r) e ∙ (ap (λ (z : List ℕ). is_byte b (first (z ++ r))) (leads x).1 ∙ eq-eqb b b refl)

  second-test : (y : Y) (t : List ℕ) (i : ℕ) (r : List ℕ) → From t i (U y ++ r) → is_byte b (next_at t i) ≡ false
  second-test y t i r e =
      byte-test b t i (U y ++ r) e ∙ (ap (λ (z : List ℕ). is_byte b (first (z ++ r))) (others y).2 ∙ (others y).3)

  choice-back : (z : X ⊎ Y) → one_of G F z → (t : List ℕ) (i : ℕ) (r : List ℕ) → From t i (one_of T U z ++ r) → stops test r ≡ true
      → cond (is_byte b (next_at t i)) (p t i) (q t i) ≡ Ok (one_of val value z i, i + length (one_of T U z))
  choice-back (inl x) g t i r e h = takes_first t i (first-test x t i r e) ∙ P.back x g t i r e h
  choice-back (inr y) g t i r e h = takes-second t i (second-test y t i r e) ∙ Q.back y g t i r e h

  passed_first : (i : ℕ) (s : List ℕ) (a : A) (j : ℕ) → Passed T G val test i s a j → Passed (one_of T U) (one_of G F) (one_of val value) test i s a j
  passed_first i s a j x =
      record { form = inl x.form; rest = x.rest; sound = x.sound; means = x.means; cut = x.cut; place = x.place; ends = x.ends }

  passed-second : (i : ℕ) (s : List ℕ) (a : A) (j : ℕ) → Passed U F value test i s a j → Passed (one_of T U) (one_of G F) (one_of val value) test i s a j
  passed-second i s a j x =
      record { form = inr x.form; rest = x.rest; sound = x.sound; means = x.means; cut = x.cut; place = x.place; ends = x.ends }

  choice-passes : (t : List ℕ) (i : ℕ) (s : List ℕ) (a : A) (j : ℕ) → From t i s → cond (is_byte b (next_at t i)) (p t i) (q t i) ≡ Ok (a, j)
      → Passed (one_of T U) (one_of G F) (one_of val value) test i s a j
  choice-passes t i s a j e h =
      ⊎_elim (λ y. passed_first i s a j (P.passes t i s a j e (sym (takes_first t i y) ∙ h))) (λ n. passed-second i s a j (Q.passes t i s a j e (sym (takes-second t i n) ∙ h)))
      (cases_Bool (is_byte b (next_at t i)))

  -- the same byte decides, whatever follows where the reading is stuck
  test_alike : (t u : List ℕ) (i : ℕ) (s before rest : List ℕ) (c : ℕ) (v w : List ℕ) → From t i s → s ≡ before ++ rest → rest ≡ c ∷ v → From u i (before ++ (c ∷ w))
      → is_byte b (next_at u i) ≡ is_byte b (next_at t i)
  test_alike t u i s before rest c v w e cut r f =
      byte-test b u i (before ++ (c ∷ w)) f
      ∙ (ap (is_byte b) (first_alike before c w v) ∙ sym (byte-test b t i (before ++ (c ∷ v)) (e ∙ (cut ∙ ap (λ (z : List ℕ). before ++ z) r))))

  abbrev reached-first : (i : ℕ) (s : List ℕ) (k : ℕ) → Reached T G i s k → Reached (one_of T U) (one_of G F) i s k
  reached-first i s k x =
      record {
        before = x.before;
        rest = x.rest;
        cut = x.cut;
        place = x.place;
        form = inl x.form;
        sound = x.sound;
        more = x.more;
        begins = x.begins;
      }

  abbrev reached-second : (i : ℕ) (s : List ℕ) (k : ℕ) → Reached U F i s k → Reached (one_of T U) (one_of G F) i s k
  reached-second i s k x =
      record {
        before = x.before;
        rest = x.rest;
        cut = x.cut;
        place = x.place;
        form = inr x.form;
        sound = x.sound;
        more = x.more;
        begins = x.begins;
      }

  stuck-first : (t : List ℕ) (i : ℕ) (s : List ℕ) (k : ℕ) → From t i s → is_byte b (next_at t i) ≡ true → Stuck T G p i s k
      → Stuck (one_of T U) (one_of G F) (λ t i. cond (is_byte b (next_at t i)) (p t i) (q t i)) i s k
  stuck-first t i s k e y x =
      record {
        at = reached-first i s k x.at;
        lasting = λ c v w u r f. takes_first u i (test_alike t u i s x.at.before x.at.rest c v w e x.at.cut r f ∙ y) ∙ x.lasting c v w u r f;
      }

  stuck-second : (t : List ℕ) (i : ℕ) (s : List ℕ) (k : ℕ) → From t i s → is_byte b (next_at t i) ≡ false → Stuck U F q i s k
      → Stuck (one_of T U) (one_of G F) (λ t i. cond (is_byte b (next_at t i)) (p t i) (q t i)) i s k
  stuck-second t i s k e n x =
      record {
        at = reached-second i s k x.at;
        lasting = λ c v w u r f. takes-second u i (test_alike t u i s x.at.before x.at.rest c v w e x.at.cut r f ∙ n) ∙ x.lasting c v w u r f;
      }

  large-first : (i : ℕ) (s : List ℕ) (k : ℕ) → Large T G i s k → Large (one_of T U) (one_of G F) i s k
  large-first i s k x = record { at = reached-first i s k x.at; over = x.over }

  large-second : (i : ℕ) (s : List ℕ) (k : ℕ) → Large U F i s k → Large (one_of T U) (one_of G F) i s k
  large-second i s k x = record { at = reached-second i s k x.at; over = x.over }

  choice-large : (t : List ℕ) (i : ℕ) (s : List ℕ) (g : NumberFault) → From t i s → cond (is_byte b (next_at t i)) (p t i) (q t i) ≡ Err (Number g)
      → Large (one_of T U) (one_of G F) i s g.byte
  choice-large t i s g e h =
      ⊎_elim (λ y. large-first i s g.byte (P.large t i s g e (sym (takes_first t i y) ∙ h)))
      (λ n. large-second i s g.byte (Q.large t i s g e (sym (takes-second t i n) ∙ h))) (cases_Bool (is_byte b (next_at t i)))

  choice-stuck : (t : List ℕ) (i : ℕ) (s : List ℕ) (k : ℕ) → From t i s → cond (is_byte b (next_at t i)) (p t i) (q t i) ≡ Err (Form k)
      → Stuck (one_of T U) (one_of G F) (λ t i. cond (is_byte b (next_at t i)) (p t i) (q t i)) i s k
  choice-stuck t i s k e h =
      ⊎_elim (λ y. stuck-first t i s k e y (P.stuck t i s k e (sym (takes_first t i y) ∙ h))) (λ n. stuck-second t i s k e n (Q.stuck t i s k e (sym (takes-second t i n) ∙ h)))
      (cases_Bool (is_byte b (next_at t i)))

  -- the next byte decides between two readings
  pub choice_grammar : Grammar (one_of T U) (one_of G F) (one_of val value) test (λ t i. cond (is_byte b (next_at t i)) (p t i) (q t i))
  choice_grammar = record { back = choice-back; passes = choice-passes; stuck = choice-stuck; large = choice-large }
