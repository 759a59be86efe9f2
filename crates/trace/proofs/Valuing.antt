-- The number that digits write, digit by digit.
use Rattle.std.proofs.Common.{◌≡◌, ℕ, ◌+◌, ◌-◌, ◌*◌, ◌^◌, ◌<◌, ◌≤◌, List, [], ◌∷◌, Some, None, Ok, Err, Option, sym, ap, ◌∙◌, subst, arith}
use Rattle.std.specs.Fn.{Called}
use Rattle.std.specs.Iterator.{Yields, YieldsThen, AlwaysYields}
use Rattle.std.specs.List.{FoldsTo}
use Rattle.std.specs.Option.{MatchOption, SomeIff, ok_or}
use Rattle.std.proofs.lemmas.Bool.Decides.{nat_tests}
use Rattle.std.proofs.lemmas.Iterator.{YieldsList}
use Rattle.trace.specs.Reading.{value_on, fitting}
use denote.Param.Members.{Mut}

-- more digits never make a number smaller
value_on-ge : (n : ℕ) (ds : List ℕ) → n ≤ value_on n ds
value_on-ge n [] = omega arith
value_on-ge n (d ∷ ds) = omega (arith, value_on-ge (n * 10 + (d - 48)) ds)

-- a number that fits
pub fits-small : (ds : List ℕ) (byte : ℕ) → value_on 0 ds < 2 ^ 32 → fitting ds byte ≡ Ok (value_on 0 ds)
fits-small ds byte h = grind (arith, nat_tests)

-- a number that does not
pub fits-large : (ds : List ℕ) (byte : ℕ) → 2 ^ 32 ≤ value_on 0 ds → fitting ds byte ≡ Err (record { byte = byte })
fits-large ds byte h = grind (arith, nat_tests)

-- digits that an iterator gives, each pushed behind the value so far
module _ {S A F : Type 0} (steps : S → Option A → S → Type 0) (v : A → ℕ) (g : Mut F (ℕ × (A × Unit {0})) (Option ℕ))
    (pushes : (f : F) (n : ℕ) (x : A) (r : Option ℕ) (f' : F) → Called g f (n, (x, tt)) r f' → SomeIff r (n * 10 + (v x - 48) < 2 ^ 32) (n * 10 + (v x - 48))) where
  abbrev Turn : F × ℕ → A → F × ℕ → Type 0
  Turn p x q = (r : Option ℕ) × Called g p.0 (p.1, (x, tt)) r q.0 × (r ≡ Some q.1)

  -- a digit that was pushed
  pushed : (p : F × ℕ) (x : A) (q : F × ℕ) → Turn p x q → (q.1 ≡ p.1 * 10 + (v x - 48)) × (q.1 < 2 ^ 32)
  pushed p x q t =
      let e = subst (λ (r : Option ℕ). SomeIff r (p.1 * 10 + (v x - 48) < 2 ^ 32) (p.1 * 10 + (v x - 48))) t.2 (pushes p.0 p.1 x t.0 q.0 t.1) in
      (e.1, omega (arith, e.0, e.1))

  -- what the digits come to, where all were pushed, and where another follows
  abbrev Pushed : ℕ → List ℕ → ℕ → Option A → Type 0
  Pushed n ds m r = (m < 2 ^ 32) × MatchOption r (value_on n ds ≡ m) (λ x. m * 10 + (v x - 48) ≤ value_on n ds)

  pushed_all : (ds : List ℕ) (xs : List A) (r : Option A) (s t u : S) (p q : F × ℕ) → p.1 < 2 ^ 32 → AlwaysYields steps v s ds → Yields steps s xs t → steps t r u → FoldsTo Turn p xs q
      → Pushed p.1 ds q.1 r
  pushed_all [] [] None s t u p q l a y h f = let e = ap (λ (z : F × ℕ). z.1) f in (omega (arith, l, e), e)
  pushed_all [] [] (Some x) s t u p q l a y h f = absurd (a x u (subst (λ (z : S). steps z (Some x) u) (sym y) h))
  pushed_all (d ∷ ds) [] None s t u p q l a y h f = absurd (a.0 u (subst (λ (z : S). steps z None u) (sym y) h))
  pushed_all (d ∷ ds) [] (Some x) s t u p q l a y h f =
      let e = ap (λ (z : F × ℕ). z.1) f in
      let c = (a.1 x u (subst (λ (z : S). steps z (Some x) u) (sym y) h)).0 in
      (omega (arith, l, e), omega (arith, e, c, value_on-ge (p.1 * 10 + (d - 48)) ds))
  pushed_all [] (x ∷ xs) r s t u p q l a y h f = absurd (a x y.0 y.1)
  pushed_all (d ∷ ds) (x ∷ xs) r s t u p q l a y h f =
      let c = a.1 x y.0 y.1 in
      let e = pushed p x f.0 f.1 in
      let w : f.0.1 ≡ p.1 * 10 + (d - 48) = e.0 ∙ ap (λ (z : ℕ). p.1 * 10 + (z - 48)) c.0 in
      subst (λ (z : ℕ). Pushed z ds q.1 r) w (pushed_all ds xs r y.0 t u f.0 q e.1 c.1 y.2 h f.2)

  -- the value, where all are pushed, and the fault, where one is not
  pub pushed-fitting : {E : Type 0} (ds : List ℕ) (byte : ℕ) (result : Option ℕ) (s u : S) (f : F) → YieldsList steps v s ds
      → (xs : List A) × (o : Option A) × (f' : F) × (n : ℕ) × YieldsThen steps s xs o u × FoldsTo Turn (f, 0) xs (f', n)
      × MatchOption o (result ≡ Some n) (λ x. (r : Option ℕ) × (h : F) × (e : E) × Called g f' (n, (x, tt)) r h × (r ≡ None) × (result ≡ None))
      → ok_or result (record { byte = byte }) ≡ fitting ds byte
  pushed-fitting {E = E} ds byte result s u f a w =
      ended w.1 w.6 (pushed_all ds w.0 w.1 s w.4.0 u (f, 0) (w.2, w.3) (omega arith) a.runs w.4.1 w.4.2 w.5)
    where
      ended : (o : Option A)
          → MatchOption o (result ≡ Some w.3) (λ x. (r : Option ℕ) × (h : F) × (e : E) × Called g w.2 (w.3, (x, tt)) r h × (r ≡ None) × (result ≡ None))
          → Pushed 0 ds w.3 o → ok_or result (record { byte = byte }) ≡ fitting ds byte
      ended None m p = ap (λ (z : Option ℕ). ok_or z (record { byte = byte })) m ∙ (ap Ok (sym p.1) ∙ sym (fits-small ds byte (omega (arith, p.0, p.1))))
      ended (Some x) m p =
          let past = subst (λ (z : Option ℕ). SomeIff z (w.3 * 10 + (v x - 48) < 2 ^ 32) (w.3 * 10 + (v x - 48))) m.4 (pushes w.2 w.3 x m.0 m.1 m.3) in
          ap (λ (z : Option ℕ). ok_or z (record { byte = byte })) m.5 ∙ sym (fits-large ds byte (omega (arith, past, p.1)))
