-- The parts of a line keep faith with what is written: a byte, a number, a word.
use Rattle.std.proofs.Common.{◌≡◌, ℕ, ◌+◌, ◌^◌, ◌<◌, true, false, ◌&&◌, eqb, List, [], ◌∷◌, ◌++◌, length, Ok, Err, decimal, Result, sym, refl, ap, ◌∙◌, subst, arith}
use Rattle.std.specs.List.{take_while, list_all}
use Rattle.std.proofs.lemmas.Bool.{eq-eqb, and_parts}
use Rattle.std.proofs.lemmas.Fmt.{digits_decimal, decimal_digit}
use Rattle.refusal.specs.Refusals.{first}
use Rattle.trace.specs.declared.fault.NumberFault.{NumberFault}
use Rattle.trace.specs.declared.fault.LineFault.{LineFault}
use Rattle.trace.specs.declared.fault.LineFault.TheVariants.{Form, Number}
use Rattle.trace.specs.declared.word.Word.{Word}
use Rattle.trace.specs.Choices.{is_digit}
use Rattle.trace.specs.Runs.{in_word}
use Rattle.trace.specs.Written.{IsWord, span_of}
use Rattle.trace.specs.Reading.{next_at, is_byte, byte_at, number_at, number_of, up_to, word_at, word_of}
use Rattle.trace.proofs.Grammars.{From, stops, same_answer, Passed, Stuck, Large, Grammar}
use Rattle.trace.proofs.Parting.{byte-is, byte-not, byte_read, byte_left, byte-no_number, bytes-some}
use Rattle.trace.proofs.Digits.{take_while-append, take_while-yes, take_while-stops, cuts, own, small, decimal_read, digits_ok, digits-written, WrongDigits, none, leading_zero, digits_wrong, digits-large}

pub next-from : (t : List ℕ) (i : ℕ) (s : List ℕ) → From t i s → next_at t i ≡ first s
unfolding next_at
next-from t i s e = ap first e

pub byte-test : (b : ℕ) (t : List ℕ) (i : ℕ) (s : List ℕ) → From t i s → is_byte b (next_at t i) ≡ is_byte b (first s)
byte-test b t i s e = ap (is_byte b) (next-from t i s e)

-- a byte
module _ (b : ℕ) where
  byte-back : (t : List ℕ) (i : ℕ) (r : List ℕ) → From t i (b ∷ r) → byte_at b t i ≡ Ok (tt, i + 1)
  byte-back t i r e = byte-is b t i (byte-test b t i (b ∷ r) e ∙ eq-eqb b b refl)

  byte-passes : (t : List ℕ) (i : ℕ) (s : List ℕ) (j : ℕ) → From t i s → byte_at b t i ≡ Ok (tt, j)
      → Passed {X = Unit {0}} (λ _. b ∷ []) (λ _. Unit {0}) (λ _ _. tt {0}) (λ _. false) i s tt j
  byte-passes t i [] j e h = absurd (cc (byte-not b t i (byte-test b t i [] e)))
  byte-passes t i (c ∷ s) j e h =
      let q = byte_read b c t i j (next-from t i (c ∷ s) e) h in
      record { form = tt; rest = s; sound = tt; means = refl; cut = ap (λ (x : ℕ). x ∷ s) q.0; place = q.1; ends = all s }
    where
      all : (s : List ℕ) → stops (λ _. false) s ≡ true
      all [] = refl
      all (x ∷ xs) = refl

  byte-stuck : (t : List ℕ) (i : ℕ) (s : List ℕ) (k : ℕ) → From t i s → byte_at b t i ≡ Err (Form k) → Stuck {X = Unit {0}} (λ _. b ∷ []) (λ _. Unit {0}) (byte_at b) i s k
  byte-stuck t i [] k e h =
      let p : k ≡ i = cc (byte-not b t i (byte-test b t i [] e)) in
      record {
        at = record {
          before = [];
          rest = [];
          cut = refl;
          place = omega (arith, p);
          form = tt;
          sound = tt;
          more = b ∷ [];
          begins = refl;
        };
        lasting = λ c v w u r f. absurd (cc);
      }
  byte-stuck t i (c ∷ s) k e h =
      let p = byte_left b c k t i (next-from t i (c ∷ s) e) h in
      record {
        at = record {
          before = [];
          rest = c ∷ s;
          cut = refl;
          place = omega (arith, p.1);
          form = tt;
          sound = tt;
          more = b ∷ [];
          begins = refl;
        };
        lasting = λ d v w u r f.
            let m : c ≡ d = cc in
            byte-not b u i (byte-test b u i (d ∷ w) f ∙ (ap (λ (x : ℕ). eqb x b) (sym m) ∙ p.0)) ∙ ap (λ (x : ℕ). Err (Form x)) (sym p.1);
      }

  pub byte-grammar : Grammar {X = Unit {0}} (λ _. b ∷ []) (λ _. Unit {0}) (λ _ _. tt {0}) (λ _. false) (byte_at b)
  byte-grammar = record { back = λ x g t i r e h. byte-back t i r e; passes = λ t i s a j e h. byte-passes t i s j e h; stuck = byte-stuck; large = λ t i s g e h. absurd (byte-no_number b t i g h) }

-- a number
number-from : (t : List ℕ) (i : ℕ) (s : List ℕ) → From t i s → number_at t i ≡ up_to (i + length (take_while is_digit s)) (number_of (take_while is_digit s) i)
unfolding number_at
number-from t i s e = ap (λ (x : List ℕ). up_to (i + length (take_while is_digit x)) (number_of (take_while is_digit x) i)) e

number_by : (t : List ℕ) (i : ℕ) (s ds : List ℕ) → From t i s → take_while is_digit s ≡ ds → number_at t i ≡ up_to (i + length ds) (number_of ds i)
number_by t i s ds e h = number-from t i s e ∙ ap (λ (x : List ℕ). up_to (i + length x) (number_of x i)) h

number-back : (n : ℕ) → n < 2 ^ 32 → (t : List ℕ) (i : ℕ) (r : List ℕ) → From t i (decimal n ++ r) → stops is_digit r ≡ true → number_at t i ≡ Ok (n, i + length (decimal n))
number-back n h t i r e stop =
    number_by t i (decimal n ++ r) (decimal n) e (take_while-append is_digit (decimal n) r (digits_decimal own n (small n h)) stop)
    ∙ ap (up_to (i + length (decimal n))) (decimal_read n i h)

-- an answer of `up_to` is one of what it takes
up_ok : {A : Type 0} (k : ℕ) (r : Result A LineFault) (a : A) (j : ℕ) → up_to k r ≡ Ok (a, j) → (r ≡ Ok a) × (j ≡ k)
up_ok k (Ok x) a j h = grind arith
up_ok k (Err f) a j h = absurd (cc)

up-err : {A : Type 0} (k : ℕ) (r : Result A LineFault) (f : LineFault) → up_to k r ≡ Err f → r ≡ Err f
up-err k (Ok x) f h = absurd (cc)
up-err k (Err g) f h = cc

number-passes : (t : List ℕ) (i : ℕ) (s : List ℕ) (a j : ℕ) → From t i s → number_at t i ≡ Ok (a, j) → Passed decimal (λ n. n < 2 ^ 32) (λ n _. n) is_digit i s a j
number-passes t i s a j e h =
    let ds = take_while is_digit s in
    let c = cuts is_digit s in
    let o = up_ok (i + length ds) (number_of ds i) a j (sym (number-from t i s e) ∙ h) in
    let d = digits_ok ds i a o.0 in
    let w : decimal a ≡ ds = digits-written ds a c.pass d in
    record {
      form = a;
      rest = c.rest;
      sound = d.fits;
      means = refl;
      cut = c.whole ∙ ap (λ (x : List ℕ). x ++ c.rest) (sym w);
      place = o.1 ∙ ap (λ (x : List ℕ). i + length x) (sym w);
      ends = c.ends;
    }

abbrev NumberStuck : ℕ → List ℕ → ℕ → Type 0
NumberStuck i s k = Stuck decimal (λ n. n < 2 ^ 32) number_at i s k

-- no byte of the run stands here
no_digit : (i : ℕ) (s : List ℕ) (k : ℕ) → stops is_digit s ≡ true → k ≡ i → NumberStuck i s k
no_digit i s k stop e =
    record {
      at = record {
        before = [];
        rest = s;
        cut = refl;
        place = omega (arith, e);
        form = 0;
        sound = omega arith;
        more = decimal 0;
        begins = refl;
      };
      lasting = λ b v w u r f.
          let h : stops is_digit (b ∷ w) ≡ true = subst (λ (x : List ℕ). stops is_digit x ≡ true) r stop in
          number_by u i (b ∷ w) [] f (take_while-stops is_digit (b ∷ w) h) ∙ ap (λ (x : ℕ). Err (Form x)) (sym e);
    }

-- a digit stands behind a leading zero
zero-led : (i : ℕ) (d : ℕ) (ds : List ℕ) (k : ℕ) → is_digit d ≡ true → k ≡ i + 1 → NumberStuck i (48 ∷ (d ∷ ds)) k
zero-led i d ds k digit e =
    record {
      at = record {
        before = 48 ∷ [];
        rest = d ∷ ds;
        cut = refl;
        place = e;
        form = 0;
        sound = omega arith;
        more = [];
        begins = decimal_digit 0 (omega arith);
      };
      lasting = λ b v w u r f.
          let m : d ≡ b = cc in
          let q : take_while is_digit (48 ∷ (b ∷ w)) ≡ 48 ∷ (b ∷ take_while is_digit w) =
          take_while-yes is_digit 48 (b ∷ w) refl ∙ ap (λ (x : List ℕ). 48 ∷ x) (take_while-yes is_digit b w (ap is_digit (sym m) ∙ digit))
          in
          number_by u i (48 ∷ (b ∷ w)) (48 ∷ (b ∷ take_while is_digit w)) f q ∙ ap (λ (x : ℕ). Err (Form x)) (sym e);
    }

number-wrong : (i : ℕ) (s ds rest : List ℕ) (k : ℕ) → s ≡ ds ++ rest → stops is_digit rest ≡ true → list_all is_digit ds ≡ true → WrongDigits i ds k → NumberStuck i s k
number-wrong i s [] rest k cut stop pass (none e) = no_digit i s k (subst (λ (x : List ℕ). stops is_digit x ≡ true) (sym cut) stop) e
number-wrong i s (c ∷ []) rest k cut stop pass wrong = elim wrong [ ]
number-wrong i s (c ∷ (d ∷ ds)) rest k cut stop pass (leading_zero z e) =
    let p = and_parts (is_digit c) (is_digit d && list_all is_digit ds) pass in
    let q = and_parts (is_digit d) (list_all is_digit ds) p.1 in
    subst (λ (x : List ℕ). NumberStuck i x k) (sym (cut ∙ ap (λ (x : ℕ). x ∷ (d ∷ (ds ++ rest))) z)) (zero-led i d (ds ++ rest) k q.0 e)

number-stuck : (t : List ℕ) (i : ℕ) (s : List ℕ) (k : ℕ) → From t i s → number_at t i ≡ Err (Form k) → NumberStuck i s k
number-stuck t i s k e h =
    let ds = take_while is_digit s in
    let c = cuts is_digit s in
    number-wrong i s ds c.rest k c.whole c.ends c.pass (digits_wrong ds i k (up-err (i + length ds) (number_of ds i) (Form k) (sym (number-from t i s e) ∙ h)))

number-large : (t : List ℕ) (i : ℕ) (s : List ℕ) (f : NumberFault) → From t i s → number_at t i ≡ Err (Number f) → Large decimal (λ n. n < 2 ^ 32) i s f.byte
number-large t i s f e h =
    let ds = take_while is_digit s in
    let d = digits-large ds i f (up-err (i + length ds) (number_of ds i) (Number f) (sym (number-from t i s e) ∙ h)) in
    record {
      at = record { before = []; rest = s; cut = refl; place = omega (arith, d.0); form = 0; sound = omega arith; more = decimal 0; begins = refl };
      over = d.1;
    }

pub number-grammar : Grammar decimal (λ n. n < 2 ^ 32) (λ n _. n) is_digit number_at
number-grammar = record { back = number-back; passes = number-passes; stuck = number-stuck; large = number-large }

-- a word
word-by : (t : List ℕ) (i : ℕ) (s ws : List ℕ) → From t i s → take_while in_word s ≡ ws → word_at t i ≡ word_of ws i
unfolding word_at
word-by t i s ws e h = ap (λ (x : List ℕ). word_of (take_while in_word x) i) e ∙ ap (λ (x : List ℕ). word_of x i) h

word_back : (w : List ℕ) → IsWord w → (t : List ℕ) (i : ℕ) (r : List ℕ) → From t i (w ++ r) → stops in_word r ≡ true → word_at t i ≡ Ok (span_of w i, i + length w)
word_back w g t i r e stop = word-by t i (w ++ r) w e (take_while-append in_word w r g.1 stop) ∙ bytes-some w i g.0

word_read : (t : List ℕ) (i : ℕ) (s ws rest : List ℕ) (a : Word) (j : ℕ) → s ≡ ws ++ rest → stops in_word rest ≡ true → list_all in_word ws ≡ true → word_of ws i ≡ Ok (a, j)
    → Passed (λ w. w) IsWord span_of in_word i s a j
word_read t i s [] rest a j cut stop pass h = absurd (cc)
word_read t i s (b ∷ bs) rest a j cut stop pass h =
    let q = same_answer (a, j) (span_of (b ∷ bs) i, i + length (b ∷ bs)) (sym h) in
    record {
      form = b ∷ bs;
      rest = rest;
      sound = (omega arith, pass);
      means = ap (λ (x : Word × ℕ). x.0) q;
      cut = cut;
      place = ap (λ (x : Word × ℕ). x.1) q;
      ends = stop;
    }

word-passes : (t : List ℕ) (i : ℕ) (s : List ℕ) (a : Word) (j : ℕ) → From t i s → word_at t i ≡ Ok (a, j) → Passed (λ w. w) IsWord span_of in_word i s a j
word-passes t i s a j e h =
    let c = cuts in_word s in
    word_read t i s (take_while in_word s) c.rest a j c.whole c.ends c.pass (sym (word-by t i s (take_while in_word s) e refl) ∙ h)

abbrev WordStuck : ℕ → List ℕ → ℕ → Type 0
WordStuck i s k = Stuck (λ w. w) IsWord word_at i s k

word-wrong : (i : ℕ) (s ws rest : List ℕ) (k : ℕ) → s ≡ ws ++ rest → stops in_word rest ≡ true → word_of ws i ≡ Err (Form k) → WordStuck i s k
word-wrong i s [] rest k cut stop h =
    let e : k ≡ i = cc in
    record {
      at = record {
        before = [];
        rest = s;
        cut = refl;
        place = omega (arith, e);
        form = 120 ∷ [];
        sound = (omega arith, refl);
        more = 120 ∷ [];
        begins = refl;
      };
      lasting = λ b v w u r f.
          let g : stops in_word (b ∷ w) ≡ true = subst (λ (x : List ℕ). stops in_word x ≡ true) (sym cut ∙ r) stop in
          word-by u i (b ∷ w) [] f (take_while-stops in_word (b ∷ w) g) ∙ ap (λ (x : ℕ). Err (Form x)) (sym e);
    }
word-wrong i s (b ∷ bs) rest k cut stop h = absurd (cc)

word-stuck : (t : List ℕ) (i : ℕ) (s : List ℕ) (k : ℕ) → From t i s → word_at t i ≡ Err (Form k) → WordStuck i s k
word-stuck t i s k e h =
    let c = cuts in_word s in
    word-wrong i s (take_while in_word s) c.rest k c.whole c.ends (sym (word-by t i s (take_while in_word s) e refl) ∙ h)

no_number : (ws : List ℕ) (i : ℕ) (f : NumberFault) → word_of ws i ≡ Err (Number f) → ⊥
no_number [] i f h = cc
no_number (b ∷ bs) i f h = cc

word-large : (t : List ℕ) (i : ℕ) (s : List ℕ) (f : NumberFault) → From t i s → word_at t i ≡ Err (Number f) → Large (λ w. w) IsWord i s f.byte
word-large t i s f e h = absurd (no_number (take_while in_word s) i f (sym (word-by t i s (take_while in_word s) e refl) ∙ h))

pub word-grammar : Grammar (λ w. w) IsWord span_of in_word word_at
word-grammar = record { back = word_back; passes = word-passes; stuck = word-stuck; large = word-large }
