-- The access lines of a text, all of them.
use Rattle.std.proofs.Common.{◌≡◌, ℕ, ◌+◌, ◌<◌, ◌≤◌, List, [], ◌∷◌, ◌++◌, length, drop, Some, None, Ok, Err, Option, Result, sym, refl, ap, ◌∙◌, subst, arith, length-append, length-drop}
use Rattle.std.specs.List.{flat_map, AllByRecursion}
use Rattle.std.specs.Result.{IsErrAnd}
use Rattle.std.proofs.lemmas.List.{drop_all}
use Rattle.trace.specs.declared.access.Access.{Access}
use Rattle.trace.specs.declared.fault.LineFault.{LineFault}
use Rattle.trace.specs.declared.fault.TraceFault.{TraceFault}
use Rattle.trace.specs.Lines.{access_at}
use Rattle.trace.specs.Texts.{Accesses, ended, faulty, more, AccessLaws, NextRead, Counted}
use Rattle.trace.specs.Written.{line_end, access_text, written, Sound}
use Rattle.trace.proofs.Grammars.{same_answer, from_on}
use Rattle.trace.proofs.Accessing.{access-grammar, all-stop}

-- a line has bytes
some_bytes : (a : Access) → 0 < length (written a)
some_bytes a = omega (arith, length-append (access_text a) line_end)

-- reading a line goes on, and not past the text
pub goes_on : (t : List ℕ) (i j : ℕ) (a : Access) → i ≤ length t → access_at t i ≡ Ok (a, j) → (i < j) × (j ≤ length t)
goes_on t i j a h e =
    let x = access-grammar.passes t i (drop i t) a j refl e in
    let n = ap length x.cut in
    let m = length-append (written x.form) x.rest in
    (omega (arith, x.place, some_bytes x.form), omega (arith, x.place, n, m, length-drop i t, h))

written_back : (t : List ℕ) (i : ℕ) (xs : List Access) → i ≤ length t → AllByRecursion Sound xs → drop i t ≡ flat_map written xs → Accesses t i xs None
written_back t i [] h g e = ended (omega (arith, h, length-drop i t, ap length e))
written_back t i (a ∷ xs) h g e =
    let n = length-drop i t in
    let m = ap length e in
    let l = length-append (written a) (flat_map written xs) in
    let s = some_bytes a in
    let r = access-grammar.back a g.0 t i (flat_map written xs) e (all-stop (flat_map written xs)) in
    more (omega (arith, n, m, l, s, h)) r (written_back t (i + length (written a)) xs (omega (arith, n, m, l, h)) g.1 (from_on t i (written a) (flat_map written xs) e))

as_written : (t : List ℕ) (i : ℕ) (xs : List Access) (o : Option LineFault) → i ≤ length t → Accesses t i xs o → o ≡ None → AllByRecursion Sound xs × (drop i t ≡ flat_map written xs)
as_written t i [] o h (ended e) q = (tt, drop_all i t (omega (arith, e)))
as_written t i [] o h (faulty l e) q = absurd (cc)
as_written t i (a ∷ xs) o h (more {j = j} l e r) q =
    let x = access-grammar.passes t i (drop i t) a j refl e in
    let b = as_written t j xs o (goes_on t i j a h e).1 r q in
    let w : written x.form ≡ written a = ap written (sym x.means) in
    let c : drop i t ≡ written a ++ x.rest = x.cut ∙ ap (λ (z : List ℕ). z ++ x.rest) w in
    let d : drop j t ≡ x.rest = ap (λ (k : ℕ). drop k t) (x.place ∙ ap (λ (z : List ℕ). i + length z) w) ∙ from_on t i (written a) x.rest c in
    ((subst Sound (sym x.means) x.sound, b.0), c ∙ ap (λ (z : List ℕ). written a ++ z) (sym d ∙ b.1))

one-reading : (t : List ℕ) (i : ℕ) (xs ys : List Access) (o p : Option LineFault) → Accesses t i xs o → Accesses t i ys p → (xs ≡ ys) × (o ≡ p)
one-reading t i [] [] o p (ended e) (ended f) = (refl, refl)
one-reading t i [] [] o p (ended e) (faulty l f) = absurd (omega (arith, e, l))
one-reading t i [] (b ∷ ys) o p (ended e) (more l f r) = absurd (omega (arith, e, l))
one-reading t i [] [] o p (faulty l e) (ended f) = absurd (omega (arith, f, l))
one-reading t i [] [] (Some d) (Some g) (faulty l e) (faulty m f) = (refl, (cc))
one-reading t i [] (b ∷ ys) o p (faulty l e) (more m f r) = absurd (cc)
one-reading t i (a ∷ xs) [] o p (more l e r) (ended f) = absurd (omega (arith, f, l))
one-reading t i (a ∷ xs) [] o p (more l e r) (faulty m f) = absurd (cc)
one-reading t i (a ∷ xs) (b ∷ ys) o p (more {j = j} l e r) (more {j = k} m f q) =
    let s = same_answer (a, j) (b, k) (sym e ∙ f) in
    let x = one-reading t j xs ys o p r (subst (λ (n : ℕ). Accesses t n ys p) (sym (ap (λ (z : Access × ℕ). z.1) s)) q) in
    let y : a ≡ b = ap (λ (z : Access × ℕ). z.0) s in
    let w = x.0 in
    ((cc), x.1)

pub access-laws : (t : List ℕ) (i : ℕ) → i ≤ length t → AccessLaws t i
access-laws t i h =
    record {
      back = λ xs w. written_back t i xs h w.0 w.1;
      stands = λ xs r. as_written t i xs None h r refl;
      one = one-reading t i;
    }

-- what follows byte j follows byte i behind n lines
abbrev pub Followed : List ℕ → ℕ → ℕ → ℕ → Type 0
Followed t i j n = (ys : List Access) (o : Option LineFault) → Accesses t j ys o → (xs : List Access) × Accesses t i xs o × (length xs ≡ n + length ys)

pub followed_on : (t : List ℕ) (i j k n : ℕ) (a : Access) → j < length t → access_at t j ≡ Ok (a, k) → Followed t i j n → Followed t i k (n + 1)
followed_on t i j k n a l e f ys o r =
    let x = f (a ∷ ys) o (more l e r) in
    (x.0, x.1, omega (arith, x.2))

-- what the next line came to
pub next-some : (u t : List ℕ) (i j : ℕ) (o : Option Access) (a : Access) → u ≡ t → o ≡ Some a → NextRead u i (Ok o) j → (i < length t) × (access_at t i ≡ Ok (a, j))
next-some u t i j o a e q r =
    subst (λ (z : List ℕ). (i < length z) × (access_at z i ≡ Ok (a, j))) e (subst (λ (z : Option Access). NextRead u i (Ok z) j) q r)

pub next-none : (u t : List ℕ) (i j : ℕ) (o : Option Access) → u ≡ t → o ≡ None → NextRead u i (Ok o) j → i ≡ length t
next-none u t i j o e q r =
    subst (λ (z : List ℕ). i ≡ length z) e (subst (λ (z : Option Access). NextRead u i (Ok z) j) q r).0

pub counted-all : (t : List ℕ) (i j n : ℕ) → Followed t i j n → j ≡ length t → Counted t i (Ok n)
counted-all t i j n f e = let x = f [] None (ended e) in (x.0, x.1, omega (arith, x.2))

pub counted-fault : (u t : List ℕ) (i j k n : ℕ) (r : Result ℕ TraceFault) (f : TraceFault) → u ≡ t → IsErrAnd r (λ e. e ≡ f) → NextRead u j (Err f) k → Followed t i j n → Counted t i r
counted-fault u t i j k n (Ok m) f e q h w = absurd q
counted-fault u t i j k n (Err d) f e q h w =
    let g : NextRead t j (Err f) k = subst (λ (z : List ℕ). NextRead z j (Err f) k) e h in
    let x = w [] (Some g.1.0) (faulty g.0 g.1.2) in
    (x.0, g.1.0, x.1, q ∙ g.1.1)
