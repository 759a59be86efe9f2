-- Readings that keep faith with a written form, and how they follow one another.
--
-- From     what is left of a text from a place on
-- stops    the next byte, if there is one, does not pass a test: a run that is made of such bytes ends here
-- Grammar  a reading reads back what is written, passes only what is written, and is stuck no sooner than it must
use Rattle.std.proofs.Common.{◌≡◌, ℕ, ◌+◌, ◌^◌, ◌≤◌, Bool, true, not, List, [], ◌∷◌, ◌++◌, length, drop, Ok, Err, Result, sym, refl, ap, ◌∙◌, subst, append_assoc, arith, length-append}
use Rattle.std.specs.List.{take_while}
use Rattle.std.proofs.lemmas.List.{drop-drop, drop_at}
use Rattle.trace.specs.declared.fault.NumberFault.{NumberFault}
use Rattle.trace.specs.declared.fault.LineFault.{LineFault}
use Rattle.trace.specs.declared.fault.LineFault.TheVariants.{Form, Number}
use Rattle.trace.specs.Choices.{is_digit}
use Rattle.trace.specs.Reading.{Outcome, and_then, value_on}

-- what is left of the text from a place on
abbrev pub From : List ℕ → ℕ → List ℕ → Type 0
From t i s = drop i t ≡ s

pub from_on : (t : List ℕ) (i : ℕ) (m s : List ℕ) → From t i (m ++ s) → From t (i + length m) s
from_on t i m s e = sym (drop-drop (length m) i t) ∙ (ap (drop (length m)) e ∙ drop_at m s (length m) refl)

-- a run of bytes that pass the test ends here
abbrev pub stops : (ℕ → Bool) → List ℕ → Bool
stops p [] = true
stops p (b ∷ bs) = not (p b)

-- what follows the first byte does not matter
pub stops-alike : (p : ℕ → Bool) (u : List ℕ) (b : ℕ) (v w : List ℕ) → stops p (u ++ (b ∷ v)) ≡ true → stops p (u ++ (b ∷ w)) ≡ true
stops-alike p [] b v w h = h
stops-alike p (c ∷ u) b v w h = h

-- what was passed: some written form, and the run ends behind it
pub record Passed {X A : Type 0} (T : X → List ℕ) (G : X → Type 0) (val : X → ℕ → A) (test : ℕ → Bool) (i : ℕ) (s : List ℕ) (a : A) (j : ℕ) : Type 0 where
  pub form : X
  pub rest : List ℕ
  pub sound : G form
  pub means : a ≡ val form i
  pub cut : s ≡ T form ++ rest
  pub place : j ≡ i + length (T form)
  pub ends : stops test rest ≡ true

-- how far a reading came: what lies before byte k is the front of a written form
pub record Reached {X : Type 0} (T : X → List ℕ) (G : X → Type 0) (i : ℕ) (s : List ℕ) (k : ℕ) : Type 0 where
  pub before : List ℕ
  pub rest : List ℕ
  pub cut : s ≡ before ++ rest
  pub place : k ≡ i + length before
  pub form : X
  pub sound : G form
  pub more : List ℕ
  pub begins : T form ≡ before ++ more

-- where a reading is stuck: what lies behind the byte there does not matter
pub record Stuck {X A : Type 0} (T : X → List ℕ) (G : X → Type 0) (p : List ℕ → ℕ → Outcome A) (i : ℕ) (s : List ℕ) (k : ℕ) : Type 0 where
  pub at : Reached T G i s k
  pub lasting : (b : ℕ) (v w t : List ℕ) → at.rest ≡ b ∷ v → From t i (at.before ++ (b ∷ w)) → p t i ≡ Err (Form k)

-- where a number is too large: its digits begin there
pub record Large {X : Type 0} (T : X → List ℕ) (G : X → Type 0) (i : ℕ) (s : List ℕ) (k : ℕ) : Type 0 where
  pub at : Reached T G i s k
  pub over : 2 ^ 32 ≤ value_on 0 (take_while is_digit at.rest)

-- a reading p of the forms that T writes, those of which G holds, each with the value that it has at its place
pub record Grammar {X A : Type 0} (T : X → List ℕ) (G : X → Type 0) (val : X → ℕ → A) (test : ℕ → Bool) (p : List ℕ → ℕ → Outcome A) : Type 0 where
  pub back : (x : X) → G x → (t : List ℕ) (i : ℕ) (r : List ℕ) → From t i (T x ++ r) → stops test r ≡ true → p t i ≡ Ok (val x i, i + length (T x))
  pub passes : (t : List ℕ) (i : ℕ) (s : List ℕ) (a : A) (j : ℕ) → From t i s → p t i ≡ Ok (a, j) → Passed T G val test i s a j
  pub stuck : (t : List ℕ) (i : ℕ) (s : List ℕ) (k : ℕ) → From t i s → p t i ≡ Err (Form k) → Stuck T G p i s k
  pub large : (t : List ℕ) (i : ℕ) (s : List ℕ) (f : NumberFault) → From t i s → p t i ≡ Err (Number f) → Large T G i s f.byte

-- an answer of two readings is one of the second, behind what the first passed, or a fault of the first
data Gone {A B : Type 0} (o : Outcome A) (f : A → ℕ → Outcome B) (z : Outcome B) : Type 0 where
  onward : (a : A) (j : ℕ) → o ≡ Ok (a, j) → f a j ≡ z → Gone o f z
  halted : (e : LineFault) → o ≡ Err e → Err e ≡ z → Gone o f z

gone : {A B : Type 0} (o : Outcome A) (f : A → ℕ → Outcome B) (z : Outcome B) → and_then o f ≡ z → Gone o f z
gone (Ok x) f z h = onward x.0 x.1 refl h
gone (Err e) f z h = halted e refl h

no_value : {A : Type 0} (e : LineFault) (a : A) → ◌≡◌ {A = Result A LineFault} (Err e) (Ok a) → ⊥
no_value e a h = cc

pub same_answer : {A : Type 0} (x y : A × ℕ) → ◌≡◌ {A = Outcome A} (Ok x) (Ok y) → x ≡ y
same_answer x y h = cc

same-fault : {A : Type 0} (e f : LineFault) → ◌≡◌ {A = Result A LineFault} (Err e) (Err f) → e ≡ f
same-fault e f h = cc

module _ {X Y A B : Type 0} {T : X → List ℕ} {G : X → Type 0} {val : X → ℕ → A} {test : ℕ → Bool} {p : List ℕ → ℕ → Outcome A}
    {U : Y → List ℕ} {F : Y → Type 0} {value : A → Y → ℕ → B} {test' : ℕ → Bool} {q : A → List ℕ → ℕ → Outcome B}
    (P : Grammar T G val test p) (Q : (a : A) → Grammar U F (value a) test' (q a)) (some : Y) (good : F some)
    (apart : (y : Y) (r : List ℕ) → stops test' r ≡ true → stops test (U y ++ r) ≡ true) where
  then-back : (x : X) (y : Y) → G x → F y → (t : List ℕ) (i : ℕ) (r : List ℕ) → From t i ((T x ++ U y) ++ r) → stops test' r ≡ true
      → and_then (p t i) (λ a j. q a t j) ≡ Ok (value (val x i) y (i + length (T x)), i + length (T x ++ U y))
  then-back x y g f t i r e h =
      let e' : From t i (T x ++ (U y ++ r)) = e ∙ append_assoc (T x) (U y) r in
      let m = P.back x g t i (U y ++ r) e' (apart y r h) in
      let n = (Q (val x i)).back y f t (i + length (T x)) r (from_on t i (T x) (U y ++ r) e') h in
      let l : (i + length (T x)) + length (U y) ≡ i + length (T x ++ U y) = omega (arith, length-append (T x) (U y)) in
      ap (λ (o : Outcome A). and_then o (λ a j. q a t j)) m ∙ (n ∙ ap (λ (k : ℕ). Ok (value (val x i) y (i + length (T x)), k)) l)

  then-onward : (t : List ℕ) (i : ℕ) (s : List ℕ) (b : B) (j : ℕ) (a : A) (m : ℕ) → From t i s → p t i ≡ Ok (a, m) → q a t m ≡ Ok (b, j)
      → Passed {X = X × Y} (λ x. T x.0 ++ U x.1) (λ x. G x.0 × F x.1) (λ x i. value (val x.0 i) x.1 (i + length (T x.0))) test' i s b j
  then-onward t i s b j a m e was goes =
      let x = P.passes t i s a m e was in
      let e' : From t i (T x.form ++ x.rest) = e ∙ x.cut in
      let l : m ≡ i + length (T x.form) = x.place in
      let y = (Q a).passes t m x.rest b j (subst (λ (k : ℕ). From t k x.rest) (sym l) (from_on t i (T x.form) x.rest e')) goes in
      record {
        form = (x.form, y.form);
        rest = y.rest;
        sound = (x.sound, y.sound);
        means = y.means ∙ (ap (λ (z : A). value z y.form m) x.means ∙ ap (λ (k : ℕ). value (val x.form i) y.form k) l);
        cut = x.cut ∙ (ap (λ (z : List ℕ). T x.form ++ z) y.cut ∙ sym (append_assoc (T x.form) (U y.form) y.rest));
        place = omega (arith, x.place, y.place, length-append (T x.form) (U y.form));
        ends = y.ends;
      }

  then-passes : (t : List ℕ) (i : ℕ) (s : List ℕ) (b : B) (j : ℕ) → From t i s → and_then (p t i) (λ a j. q a t j) ≡ Ok (b, j)
      → Passed {X = X × Y} (λ x. T x.0 ++ U x.1) (λ x. G x.0 × F x.1) (λ x i. value (val x.0 i) x.1 (i + length (T x.0))) test' i s b j
  then-passes t i s b j e h =
      elim (gone (p t i) (λ a j. q a t j) (Ok (b, j)) h) [
        | onward a m was goes ↦ then-onward t i s b j a m e was goes
        | halted f was goes ↦ absurd (no_value f (b, j) goes)
      ]

  -- the first part came so far
  abbrev first-reached : (i : ℕ) (s : List ℕ) (k : ℕ) → Reached T G i s k → Reached {X = X × Y} (λ x. T x.0 ++ U x.1) (λ x. G x.0 × F x.1) i s k
  first-reached i s k x =
      record {
        before = x.before;
        rest = x.rest;
        cut = x.cut;
        place = x.place;
        form = (x.form, some);
        sound = (x.sound, good);
        more = x.more ++ U some;
        begins = ap (λ (z : List ℕ). z ++ U some) x.begins ∙ append_assoc x.before x.more (U some);
      }

  -- the second part came so far, behind what the first passed
  abbrev second-reached : (i : ℕ) (s : List ℕ) (a : A) (m k : ℕ) (x : Passed T G val test i s a m) → Reached U F m x.rest k
      → Reached {X = X × Y} (λ x. T x.0 ++ U x.1) (λ x. G x.0 × F x.1) i s k
  second-reached i s a m k x y =
      record {
        before = T x.form ++ y.before;
        rest = y.rest;
        cut = x.cut ∙ (ap (λ (z : List ℕ). T x.form ++ z) y.cut ∙ sym (append_assoc (T x.form) y.before y.rest));
        place = omega (arith, x.place, y.place, length-append (T x.form) y.before);
        form = (x.form, y.form);
        sound = (x.sound, y.sound);
        more = y.more;
        begins = ap (λ (z : List ℕ). T x.form ++ z) y.begins ∙ sym (append_assoc (T x.form) y.before y.more);
      }

  -- what is left behind the first part
  left_behind : (t : List ℕ) (i : ℕ) (s : List ℕ) (a : A) (m : ℕ) → From t i s → (x : Passed T G val test i s a m) → From t m x.rest
  left_behind t i s a m e x = subst (λ (k : ℕ). From t k x.rest) (sym x.place) (from_on t i (T x.form) x.rest (e ∙ x.cut))

  first-stuck : (t : List ℕ) (i : ℕ) (s : List ℕ) (k : ℕ) → From t i s → p t i ≡ Err (Form k)
      → Stuck {X = X × Y} (λ x. T x.0 ++ U x.1) (λ x. G x.0 × F x.1) (λ t i. and_then (p t i) (λ a j. q a t j)) i s k
  first-stuck t i s k e h =
      let x = P.stuck t i s k e h in
      record {
        at = first-reached i s k x.at;
        lasting = λ b v w u r f. ap (λ (o : Outcome A). and_then o (λ a j. q a u j)) (x.lasting b v w u r f);
      }

  second_stuck : (t : List ℕ) (i : ℕ) (s : List ℕ) (k : ℕ) (a : A) (m : ℕ) → From t i s → p t i ≡ Ok (a, m) → q a t m ≡ Err (Form k)
      → Stuck {X = X × Y} (λ x. T x.0 ++ U x.1) (λ x. G x.0 × F x.1) (λ t i. and_then (p t i) (λ a j. q a t j)) i s k
  second_stuck t i s k a m e was goes =
      let x = P.passes t i s a m e was in
      let l : m ≡ i + length (T x.form) = x.place in
      let y = (Q a).stuck t m x.rest k (left_behind t i s a m e x) goes in
      let before = y.at.before in
      record {
        at = second-reached i s a m k x y.at;
        lasting = λ b v w u r f.
            let f' : From u i (T x.form ++ (before ++ (b ∷ w))) = f ∙ append_assoc (T x.form) before (b ∷ w) in
            let h : stops test (before ++ (b ∷ v)) ≡ true = subst (λ (z : List ℕ). stops test z ≡ true) (y.at.cut ∙ ap (λ (z : List ℕ). before ++ z) r) x.ends in
            let n = P.back x.form x.sound u i (before ++ (b ∷ w)) f' (stops-alike test before b v w h) in
            let g : From u m (before ++ (b ∷ w)) = subst (λ (k : ℕ). From u k (before ++ (b ∷ w))) (sym l) (from_on u i (T x.form) (before ++ (b ∷ w)) f') in
            ap (λ (o : Outcome A). and_then o (λ a j. q a u j)) n
            ∙ (ap (λ (z : A). q z u (i + length (T x.form))) (sym x.means) ∙ (ap (λ (k : ℕ). q a u k) (sym l) ∙ y.lasting b v w u r g));
      }

  then-large : (t : List ℕ) (i : ℕ) (s : List ℕ) (g : NumberFault) → From t i s → and_then (p t i) (λ a j. q a t j) ≡ Err (Number g)
      → Large {X = X × Y} (λ x. T x.0 ++ U x.1) (λ x. G x.0 × F x.1) i s g.byte
  then-large t i s g e h =
      elim (gone (p t i) (λ a j. q a t j) (Err (Number g)) h) [
        | onward a m was goes ↦
            let x = P.passes t i s a m e was in
            let y = (Q a).large t m x.rest g (left_behind t i s a m e x) goes in
            record { at = second-reached i s a m g.byte x y.at; over = y.over }
        | halted f was goes ↦
            let x = P.large t i s g e (was ∙ ap (λ (z : LineFault). Err z) (same-fault f (Number g) goes)) in
            record { at = first-reached i s g.byte x.at; over = x.over }
      ]

  then-stuck : (t : List ℕ) (i : ℕ) (s : List ℕ) (k : ℕ) → From t i s → and_then (p t i) (λ a j. q a t j) ≡ Err (Form k)
      → Stuck {X = X × Y} (λ x. T x.0 ++ U x.1) (λ x. G x.0 × F x.1) (λ t i. and_then (p t i) (λ a j. q a t j)) i s k
  then-stuck t i s k e h =
      elim (gone (p t i) (λ a j. q a t j) (Err (Form k)) h) [
        | onward a m was goes ↦ second_stuck t i s k a m e was goes
        | halted f was goes ↦ first-stuck t i s k e (was ∙ goes' f goes)
      ]
    where
      goes' : (f : LineFault) → ◌≡◌ {A = Outcome B} (Err f) (Err (Form k)) → ◌≡◌ {A = Outcome A} (Err f) (Err (Form k))
      goes' f h = ap (λ (z : LineFault). Err z) (same-fault f (Form k) h)

  -- one reading behind another
  pub then-grammar : Grammar {X = X × Y} (λ x. T x.0 ++ U x.1) (λ x. G x.0 × F x.1) (λ x i. value (val x.0 i) x.1 (i + length (T x.0))) test'
      (λ t i. and_then (p t i) (λ a j. q a t j))
  then-grammar =
      record {
        back = λ x g t i r e h. then-back x.0 x.1 g.0 g.1 t i r e h;
        passes = then-passes;
        stuck = then-stuck;
        large = then-large;
      }

module _ {X A B : Type 0} {T : X → List ℕ} {G : X → Type 0} {val : X → ℕ → A} {test : ℕ → Bool} {p : List ℕ → ℕ → Outcome A} (P : Grammar T G val test p) (f : ℕ → A → B) where
  made-passes : (t : List ℕ) (i : ℕ) (s : List ℕ) (b : B) (j : ℕ) → From t i s → and_then (p t i) (λ a j. Ok (f i a, j)) ≡ Ok (b, j)
      → Passed T G (λ x i. f i (val x i)) test i s b j
  made-passes t i s b j e h =
      elim (gone (p t i) (λ a j. Ok (f i a, j)) (Ok (b, j)) h) [
        | onward a m was goes ↦
            let q = same_answer (f i a, m) (b, j) goes in
            let x = P.passes t i s a m e was in
            record {
              form = x.form;
              rest = x.rest;
              sound = x.sound;
              means = sym (ap (λ (z : B × ℕ). z.0) q) ∙ ap (f i) x.means;
              cut = x.cut;
              place = sym (ap (λ (z : B × ℕ). z.1) q) ∙ x.place;
              ends = x.ends;
            }
        | halted g was goes ↦ absurd (no_value g (b, j) goes)
      ]

  halted-stuck : (t : List ℕ) (i : ℕ) (s : List ℕ) (k : ℕ) → From t i s → p t i ≡ Err (Form k) → Stuck T G (λ t i. and_then (p t i) (λ a j. Ok (f i a, j))) i s k
  halted-stuck t i s k e h =
      let x = P.stuck t i s k e h in
      record { at = x.at; lasting = λ b v w u r g. ap (λ (o : Outcome A). and_then o (λ a j. Ok (f i a, j))) (x.lasting b v w u r g) }

  made-stuck : (t : List ℕ) (i : ℕ) (s : List ℕ) (k : ℕ) → From t i s → and_then (p t i) (λ a j. Ok (f i a, j)) ≡ Err (Form k)
      → Stuck T G (λ t i. and_then (p t i) (λ a j. Ok (f i a, j))) i s k
  made-stuck t i s k e h =
      elim (gone (p t i) (λ a j. Ok (f i a, j)) (Err (Form k)) h) [
        | onward a m was goes ↦ absurd (no_value (Form k) (f i a, m) (sym goes))
        | halted g was goes ↦ halted-stuck t i s k e (was ∙ ap (λ (z : LineFault). Err z) (same-fault g (Form k) goes))
      ]

  made-large : (t : List ℕ) (i : ℕ) (s : List ℕ) (g : NumberFault) → From t i s → and_then (p t i) (λ a j. Ok (f i a, j)) ≡ Err (Number g) → Large T G i s g.byte
  made-large t i s g e h =
      elim (gone (p t i) (λ a j. Ok (f i a, j)) (Err (Number g)) h) [
        | onward a m was goes ↦ absurd (no_value (Number g) (f i a, m) (sym goes))
        | halted d was goes ↦ P.large t i s g e (was ∙ ap (λ (z : LineFault). Err z) (same-fault d (Number g) goes))
      ]

  -- a value is made of what was read
  pub made-grammar : Grammar T G (λ x i. f i (val x i)) test (λ t i. and_then (p t i) (λ a j. Ok (f i a, j)))
  made-grammar =
      record {
        back = λ x g t i r e h. ap (λ (o : Outcome A). and_then o (λ a j. Ok (f i a, j))) (P.back x g t i r e h);
        passes = made-passes;
        stuck = made-stuck;
        large = made-large;
      }

module _ {X A : Type 0} {T : X → List ℕ} {G : X → Type 0} {val : X → ℕ → A} {test : ℕ → Bool} {p : List ℕ → ℕ → Outcome A} (P : Grammar T G val test p) where
  -- a reading that answers alike
  pub alike_grammar : (q : List ℕ → ℕ → Outcome A) → ((t : List ℕ) (i : ℕ) → q t i ≡ p t i) → Grammar T G val test q
  alike_grammar q e =
      record {
        back = λ x g t i r f h. e t i ∙ P.back x g t i r f h;
        passes = λ t i s a j f h. P.passes t i s a j f (sym (e t i) ∙ h);
        stuck = λ t i s k f h.
            let x = P.stuck t i s k f (sym (e t i) ∙ h) in
            record { at = x.at; lasting = λ b v w u r g. e u i ∙ x.lasting b v w u r g };
        large = λ t i s g f h. P.large t i s g f (sym (e t i) ∙ h);
      }

  module _ {Z : Type 0} (T' : Z → List ℕ) (G' : Z → Type 0) (val' : Z → ℕ → A) (to : X → Z) (keeps : (x : X) → G x → G' (to x)) (writes : (x : X) → T' (to x) ≡ T x)
      (means : (x : X) (i : ℕ) → val x i ≡ val' (to x) i) where
    named_back : (x : X) (z : Z) → to x ≡ z → G x → (t : List ℕ) (i : ℕ) (r : List ℕ) → From t i (T' z ++ r) → stops test r ≡ true → p t i ≡ Ok (val' z i, i + length (T' z))
    named_back x z q g t i r e h =
        let w : T' z ≡ T x = ap T' (sym q) ∙ writes x in
        P.back x g t i r (e ∙ ap (λ (y : List ℕ). y ++ r) w) h
        ∙ (ap (λ (a : A). Ok (a, i + length (T x))) (means x i ∙ ap (λ (y : Z). val' y i) q) ∙ ap (λ (y : List ℕ). Ok (val' z i, i + length y)) (sym w))

    abbrev named-reached : (i : ℕ) (s : List ℕ) (k : ℕ) → Reached T G i s k → Reached T' G' i s k
    named-reached i s k x =
        record {
          before = x.before;
          rest = x.rest;
          cut = x.cut;
          place = x.place;
          form = to x.form;
          sound = keeps x.form x.sound;
          more = x.more;
          begins = writes x.form ∙ x.begins;
        }

    -- the same forms by other names
    pub named-grammar : ((z : Z) → G' z → (x : X) × (to x ≡ z) × G x) → Grammar T' G' val' test p
    named-grammar onto =
        record {
          back = λ z g t i r e h. let x = onto z g in named_back x.0 z x.1 x.2 t i r e h;
          passes = λ t i s a j e h.
              let x = P.passes t i s a j e h in
              record {
                form = to x.form;
                rest = x.rest;
                sound = keeps x.form x.sound;
                means = x.means ∙ means x.form i;
                cut = x.cut ∙ ap (λ (y : List ℕ). y ++ x.rest) (sym (writes x.form));
                place = x.place ∙ ap (λ (y : List ℕ). i + length y) (sym (writes x.form));
                ends = x.ends;
              };
          stuck = λ t i s k e h.
              let x = P.stuck t i s k e h in
              record { at = named-reached i s k x.at; lasting = x.lasting };
          large = λ t i s f e h.
              let x = P.large t i s f e h in
              record { at = named-reached i s f.byte x.at; over = x.over };
        }
