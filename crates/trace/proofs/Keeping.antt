-- A line that is read whole keeps faith with its written form.
use Rattle.std.proofs.Common.{◌≡◌, ℕ, ◌+◌, ◌-◌, ◌^◌, ◌<◌, ◌≤◌, false, List, [], ◌∷◌, ◌++◌, length, take, drop, Ok, Err, Result, sym, refl, ap, ◌∙◌, subst, append_assoc, append-nil, arith, length-append, length-drop}
use Rattle.std.specs.List.{take_while}
use Rattle.std.proofs.lemmas.List.{take_at, drop_at, take-append-drop, length-take-le}
use Rattle.trace.specs.declared.fault.NumberFault.{NumberFault}
use Rattle.trace.specs.declared.fault.LineFault.{LineFault}
use Rattle.trace.specs.declared.fault.LineFault.TheVariants.{Form, Number}
use Rattle.trace.specs.Choices.{is_digit}
use Rattle.trace.specs.Reading.{Outcome, ReadsTo, value_on}
use Rattle.trace.specs.Written.{Stands, Front, Overflow, Faithful}
use Rattle.trace.proofs.Grammars.{same_answer, From, from_on, Reached, Stuck, Large, Grammar}
use Rattle.trace.proofs.Accessing.{all-stop}

module _ {X A : Type 0} {T : X → List ℕ} {G : X → Type 0} {val : X → ℕ → A} {p : List ℕ → ℕ → Outcome A} (P : Grammar T G val (λ _. false) p) (t : List ℕ) (i : ℕ)
    (within : i ≤ length t) where
  read_back : (r : Result A LineFault) (j : ℕ) → ReadsTo (p t i) i r j → (x : X) → G x → Stands t i (T x) → (r ≡ Ok (val x i)) × (j ≡ i + length (T x))
  read_back (Ok a) j h x g s =
      let q = same_answer (a, j) (val x i, i + length (T x)) (sym h ∙ P.back x g t i s.0 s.1 (all-stop s.0)) in
      (ap (λ (z : A × ℕ). Ok z.0) q, ap (λ (z : A × ℕ). z.1) q)
  read_back (Err f) j h x g s =
      absurd (let q = h.0 in let m = P.back x g t i s.0 s.1 (all-stop s.0) in cc)

  read-stands : (r : Result A LineFault) (j : ℕ) → ReadsTo (p t i) i r j → (a : A) → r ≡ Ok a
      → (x : X) × G x × (a ≡ val x i) × Stands t i (T x) × (j ≡ i + length (T x))
  read-stands r j h a e =
      let q : p t i ≡ Ok (a, j) = subst (λ (z : Result A LineFault). ReadsTo (p t i) i z j) e h in
      let x = P.passes t i (drop i t) a j refl q in
      (x.form, x.sound, x.means, (x.rest, x.cut), x.place)

  stuck_at : (r : Result A LineFault) (j : ℕ) → ReadsTo (p t i) i r j → (k : ℕ) → r ≡ Err (Form k) → Stuck T G p i (drop i t) k
  stuck_at r j h k e =
      let q : (p t i ≡ Err (Form k)) × (j ≡ i) = subst (λ (z : Result A LineFault). ReadsTo (p t i) i z j) e h in
      P.stuck t i (drop i t) k refl q.0

  large-at : (r : Result A LineFault) (j : ℕ) → ReadsTo (p t i) i r j → (f : NumberFault) → r ≡ Err (Number f) → Large T G i (drop i t) f.byte
  large-at r j h f e =
      let q : (p t i ≡ Err (Number f)) × (j ≡ i) = subst (λ (z : Result A LineFault). ReadsTo (p t i) i z j) e h in
      P.large t i (drop i t) f refl q.0

  length-left : (k : ℕ) (x : Reached T G i (drop i t) k) → length x.before + length x.rest ≡ length t - i
  length-left k x = sym (length-append x.before x.rest) ∙ (ap length (sym x.cut) ∙ length-drop i t)

  reached-front : (k : ℕ) → Reached T G i (drop i t) k → Front T G t i k
  reached-front k x =
      let n : k - i ≡ length x.before = omega (arith, x.place) in
      record {
        from = omega (arith, x.place);
        to = omega (arith, x.place, length-left k x, within);
        line = x.form;
        sound = x.sound;
        agrees =
            ap (λ (m : ℕ). take m (drop i t)) n
            ∙ (ap (take (length x.before)) x.cut ∙ (take_at x.before x.rest (length x.before) refl
            ∙ (sym (take_at x.before x.more (length x.before) refl)
            ∙ (ap (take (length x.before)) (sym x.begins) ∙ ap (λ (m : ℕ). take m (T x.form)) (sym n)))));
      }

  -- the digits that begin there
  digits-there : (k : ℕ) (x : Reached T G i (drop i t) k) → drop k t ≡ x.rest
  digits-there k x = ap (λ (m : ℕ). drop m t) x.place ∙ from_on t i x.before x.rest x.cut

  large-there : (k : ℕ) → Large T G i (drop i t) k → Overflow T G t i k
  large-there k x =
      record {
        front = reached-front k x.at;
        over = subst (λ (z : List ℕ). 2 ^ 32 ≤ value_on 0 (take_while is_digit z)) (sym (digits-there k x.at)) x.over;
      }

  -- the byte there, and what a sound line with it would be
  no-further : (k : ℕ) (x : Stuck T G p i (drop i t) k) (b : ℕ) (v : List ℕ) → x.at.rest ≡ b ∷ v → Front T G t i (k + 1) → ⊥
  no-further k x b v e f =
      let n : (k + 1) - i ≡ length (x.at.before ++ (b ∷ [])) = omega (arith, x.at.place, length-append x.at.before (b ∷ [])) in
      let y = f.line in
      let w = drop ((k + 1) - i) (T y) in
      let c : drop i t ≡ (x.at.before ++ (b ∷ [])) ++ v = x.at.cut ∙ (ap (λ (z : List ℕ). x.at.before ++ z) e ∙ sym (append_assoc x.at.before (b ∷ []) v)) in
      let m : x.at.before ++ (b ∷ []) ≡ take ((k + 1) - i) (T y) =
      sym (ap (λ (z : List ℕ). take ((k + 1) - i) z) c ∙ take_at (x.at.before ++ (b ∷ [])) v ((k + 1) - i) (sym n)) ∙ f.agrees
      in
      let s : T y ≡ x.at.before ++ (b ∷ w) =
      sym (take-append-drop ((k + 1) - i) (T y)) ∙ (ap (λ (z : List ℕ). z ++ w) (sym m) ∙ append_assoc x.at.before (b ∷ []) w)
      in
      let u = take i t ++ T y in
      let d : From u i (T y) = drop_at (take i t) (T y) i (length-take-le i t within) in
      let one = x.lasting b v w u e (d ∙ s) in
      let two = P.back y f.sound u i [] (d ∙ sym (append-nil (T y))) refl in
      cc

  some_left : (k : ℕ) (x : Stuck T G p i (drop i t) k) → k < length t → 0 < length x.at.rest
  some_left k x h = omega (arith, x.at.place, length-left k x.at, h, within)

  farthest : (k : ℕ) (x : Stuck T G p i (drop i t) k) (rest : List ℕ) → x.at.rest ≡ rest → 0 < length rest → Front T G t i (k + 1) → ⊥
  farthest k x [] e h f = omega arith
  farthest k x (b ∷ v) e h f = no-further k x b v e f

  pub keeps-faith : (r : Result A LineFault) (j : ℕ) → ReadsTo (p t i) i r j → Faithful T G val t i r j
  keeps-faith r j h =
      record {
        back = read_back r j h;
        stands = read-stands r j h;
        reaches = λ k e. reached-front k (stuck_at r j h k e).at;
        furthest = λ k e l f. let x = stuck_at r j h k e in farthest k x x.at.rest refl (some_left k x l) f;
        large = λ f e. large-there f.byte (large-at r j h f e);
      }
