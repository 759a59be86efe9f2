-- Runs of bytes, and the digits of a written number.
use Rattle.std.proofs.Common.{◌≡◌, ℕ, ◌+◌, ◌^◌, ◌<◌, ◌≤◌, Bool, true, false, eqb, List, [], ◌∷◌, ◌++◌, length, get_or, Ok, Err, decimal, sym, refl, ap, ◌∙◌, ⊎_elim, arith, rules}
use Rattle.std.specs.List.{take_while, list_all}
use Rattle.std.proofs.lemmas.Str.Parse.{IsNumeralModel, IsDigitsTest, FoldsDigits, numerals_by_fold}
use Rattle.std.proofs.lemmas.Fmt.{digits_value-decimal, first_decimal, decimal-digits_value, decimal_nonempty, decimal_digit}
use Rattle.std.proofs.lemmas.Grind.{common_steps}
use Rattle.std.proofs.lemmas.Bool.Decides.{nat_tests}
use Rattle.std.proofs.lemmas.Bool.{and_parts, and_from, not-true, not_from_false, cases_Bool, cases_eq, ne_eqb, eqb-false}
use Rattle.trace.specs.declared.fault.NumberFault.{NumberFault}
use Rattle.trace.specs.declared.fault.LineFault.TheVariants.{Form, Number}
use Rattle.trace.specs.Choices.{is_digit}
use Rattle.trace.specs.Reading.{value_on, fitting, kept_fault, number_of}
use Rattle.trace.proofs.Grammars.{stops}
use Rattle.trace.proofs.Parting.{digits_other}
use Rattle.trace.proofs.Valuing.{fits-small}

-- the longest front of bytes that pass
pub take_while-yes : (p : ℕ → Bool) (b : ℕ) (bs : List ℕ) → p b ≡ true → take_while p (b ∷ bs) ≡ b ∷ take_while p bs
take_while-yes p b bs h = grind (arith, common_steps)

pub take_while-no : (p : ℕ → Bool) (b : ℕ) (bs : List ℕ) → p b ≡ false → take_while p (b ∷ bs) ≡ []
take_while-no p b bs h = grind (arith, common_steps)

-- a front that passes, where the rest does not go on
pub take_while-stops : (p : ℕ → Bool) (r : List ℕ) → stops p r ≡ true → take_while p r ≡ []
take_while-stops p [] h = refl
take_while-stops p (b ∷ bs) h = take_while-no p b bs (not-true (p b) h)

pub take_while-append : (p : ℕ → Bool) (ds r : List ℕ) → list_all p ds ≡ true → stops p r ≡ true → take_while p (ds ++ r) ≡ ds
take_while-append p [] r a h = take_while-stops p r h
take_while-append p (d ∷ ds) r a h =
    let q = and_parts (p d) (list_all p ds) a in
    take_while-yes p d (ds ++ r) q.0 ∙ ap (λ (x : List ℕ). d ∷ x) (take_while-append p ds r q.1 h)

-- a list is its front and a rest that does not go on
pub record Cut (p : ℕ → Bool) (bs : List ℕ) : Type 0 where
  pub rest : List ℕ
  pub whole : bs ≡ take_while p bs ++ rest
  pub ends : stops p rest ≡ true
  pub pass : list_all p (take_while p bs) ≡ true

cut-yes : (p : ℕ → Bool) (b : ℕ) (bs : List ℕ) → p b ≡ true → Cut p bs → Cut p (b ∷ bs)
cut-yes p b bs h c =
    let e = take_while-yes p b bs h in
    record {
      rest = c.rest;
      whole = ap (λ (x : List ℕ). b ∷ x) c.whole ∙ ap (λ (x : List ℕ). x ++ c.rest) (sym e);
      ends = c.ends;
      pass = ap (list_all p) e ∙ and_from (p b) (list_all p (take_while p bs)) h c.pass;
    }

cut-no : (p : ℕ → Bool) (b : ℕ) (bs : List ℕ) → p b ≡ false → Cut p (b ∷ bs)
cut-no p b bs h =
    let e = take_while-no p b bs h in
    record {
      rest = b ∷ bs;
      whole = ap (λ (x : List ℕ). x ++ (b ∷ bs)) (sym e);
      ends = not_from_false (p b) h;
      pass = ap (list_all p) e;
    }

pub cuts : (p : ℕ → Bool) (bs : List ℕ) → Cut p bs
cuts p [] = record { rest = []; whole = refl; ends = refl; pass = refl }
cuts p (b ∷ bs) = ⊎_elim (λ h. cut-yes p b bs h (cuts p bs)) (λ h. cut-no p b bs h) (cases_Bool (p b))

-- `is_digit` and `value_on` are words for digits and the number that they write
tells : IsDigitsTest (λ ds. list_all is_digit ds ≡ true)
tells = search rules

folds : FoldsDigits value_on
folds = search rules

pub own : IsNumeralModel (λ ds. list_all is_digit ds ≡ true) (value_on 0)
own = numerals_by_fold (λ ds. list_all is_digit ds ≡ true) tells value_on folds

pub small : (n : ℕ) → n < 2 ^ 32 → n < 2 ^ 64
small n h = omega arith

-- only 0 is written with a zero first
first-not_zero : (n : ℕ) → n < 2 ^ 32 → 1 < length (decimal n) → eqb (get_or (decimal n) 0 0) 48 ≡ false
first-not_zero n h l =
    let some : 0 < n =
    ⊎_elim (λ (e : n ≡ 0). absurd (let k : length (decimal n) ≡ 1 = ap (λ (m : ℕ). length (decimal m)) e ∙ ap length (decimal_digit 0 (omega arith)) in omega (arith, k, l)))
    (λ e. omega (arith, e)) (cases_eq n 0)
    in
    ne_eqb (get_or (decimal n) 0 0) 48 (λ e. omega (arith, e, first_decimal n some (small n h)))

-- a written number is read
pub decimal_read : (n i : ℕ) → n < 2 ^ 32 → number_of (decimal n) i ≡ Ok n
decimal_read n i h =
    let v = digits_value-decimal own n (small n h) in
    digits_other (decimal n) i (decimal_nonempty n (small n h)) (first-not_zero n h)
    ∙ (ap kept_fault (fits-small (decimal n) i (omega (arith, v, h))) ∙ ap (λ (m : ℕ). Ok m) v)

-- digits that were read
pub record ReadDigits (ds : List ℕ) (n : ℕ) : Type 0 where
  pub some : 0 < length ds
  pub leads : get_or ds 0 0 ≡ 48 → length ds ≡ 1
  pub value : value_on 0 ds ≡ n
  pub fits : n < 2 ^ 32

fitting-ok : (ds : List ℕ) (i n : ℕ) → kept_fault (fitting ds i) ≡ Ok n → (value_on 0 ds ≡ n) × (n < 2 ^ 32)
fitting-ok ds i n h = grind (arith, nat_tests)

-- the same behind no leading zero
longer_ok : (d e : ℕ) (ds : List ℕ) (i n : ℕ) → number_of (d ∷ (e ∷ ds)) i ≡ Ok n → (eqb d 48 ≡ false) × (value_on 0 (d ∷ (e ∷ ds)) ≡ n) × (n < 2 ^ 32)
longer_ok d e ds i n h = grind (arith, nat_tests)

-- digits that are read are at least one, have no leading zero, and write a number that fits
pub digits_ok : (ds : List ℕ) (i n : ℕ) → number_of ds i ≡ Ok n → ReadDigits ds n
digits_ok [] i n h = absurd (cc)
digits_ok (d ∷ []) i n h =
    let f = fitting-ok (d ∷ []) i n h in
    record { some = omega arith; leads = λ _. refl; value = f.0; fits = f.1 }
digits_ok (d ∷ (e ∷ ds)) i n h =
    let f = longer_ok d e ds i n h in
    record { some = omega arith; leads = λ y. absurd (eqb-false d 48 f.0 y); value = f.1; fits = f.2 }

-- they are what `decimal` writes
pub digits-written : (ds : List ℕ) (n : ℕ) → list_all is_digit ds ≡ true → ReadDigits ds n → decimal n ≡ ds
digits-written ds n a r =
    ap decimal (sym r.value) ∙ decimal-digits_value own ds a r.some r.leads (omega (arith, r.value, r.fits))

-- why the form of digits is wrong: there are none, or a zero leads
pub data WrongDigits (i : ℕ) : List ℕ → ℕ → Type 0 where
  none : {k : ℕ} → k ≡ i → WrongDigits i [] k
  leading_zero : {k d e : ℕ} {ds : List ℕ} → d ≡ 48 → k ≡ i + 1 → WrongDigits i (d ∷ (e ∷ ds)) k

not-form : (ds : List ℕ) (i k : ℕ) → kept_fault (fitting ds i) ≡ Err (Form k) → ⊥
not-form ds i k h = grind (arith, nat_tests)

longer-form : (d e : ℕ) (ds : List ℕ) (i k : ℕ) → number_of (d ∷ (e ∷ ds)) i ≡ Err (Form k) → (d ≡ 48) × (k ≡ i + 1)
longer-form d e ds i k h = grind (arith, nat_tests)

pub digits_wrong : (ds : List ℕ) (i k : ℕ) → number_of ds i ≡ Err (Form k) → WrongDigits i ds k
digits_wrong [] i k h = none (cc)
digits_wrong (d ∷ []) i k h = absurd (not-form (d ∷ []) i k h)
digits_wrong (d ∷ (e ∷ ds)) i k h = let q = longer-form d e ds i k h in leading_zero q.0 q.1

-- a number that does not fit
pub digits-large : (ds : List ℕ) (i : ℕ) (f : NumberFault) → number_of ds i ≡ Err (Number f) → (f.byte ≡ i) × (2 ^ 32 ≤ value_on 0 ds)
digits-large [] i f h = absurd (cc)
digits-large (d ∷ []) i f h = grind (arith, nat_tests)
digits-large (d ∷ (e ∷ ds)) i f h = grind (arith, nat_tests)
