-- The ways of one set: what putting a copy there changes, and what it leaves.
--
-- times   how often a line stands among the ways
-- tidy    a copy as it is found again: one that is not valid is none
use Rattle.std.proofs.Common.{◌≡◌, ℕ, zero, suc, ◌+◌, ◌<◌, ◌≤◌, Bool, true, false, cond, not, ◌&&◌, ◌||◌, eqb, ◌≢◌, ◌⊎◌, List, [], ◌∷◌, length, replicate, sym, refl, ap, ◌∙◌, subst, inl, inr, ⊎_elim, arith}
use Rattle.std.proofs.lemmas.Bool.{eqb-true, eqb-false, eq-eqb, ne_eqb, cases_eq, and_parts, and_left, and_right, or_parts, or_right, not-false, false≢true, both_ways, cases_Bool}
use Rattle.protocol.specs.States.{valid}
use Rattle.protocol.specs.Cells.{among}
use Rattle.rules.specs.Columns.{Copy, none, one}
use Rattle.rules.specs.Caches.{Slot, vacant, full, stands, find, has, gap, replace, fill, put_in, lowest, lines_of, full_in}

-- how often line n stands among the ways
abbrev pub times : ℕ → List Slot → ℕ
times n [] = 0
times n (s ∷ ss) = one (stands n s) + times n ss

-- a copy as it is found again
abbrev pub tidy : Copy → Copy
tidy x = cond (valid x.state) x none

-- the way with line n and copy x
abbrev slot : ℕ → Copy → Slot
slot n x = record { tag = n; copy = x }

stands_same : (n : ℕ) (x : Copy) → stands n (slot n x) ≡ valid x.state
stands_same n x = rw (eq-eqb n n refl) refl

stands-other : (n m : ℕ) (x : Copy) → m ≢ n → stands m (slot n x) ≡ false
stands-other n m x ne = and_left (eqb n m) (valid x.state) (ne_eqb n m (λ e. ne (sym e)))

stands-full : (n : ℕ) (s : Slot) → stands n s ≡ true → full s ≡ true
stands-full n s e = (and_parts (eqb s.tag n) (full s) e).1

stands-tag : (n : ℕ) (s : Slot) → stands n s ≡ true → s.tag ≡ n
stands-tag n s e = eqb-true s.tag n (and_parts (eqb s.tag n) (full s) e).0

empty_stands : (n : ℕ) (s : Slot) → full s ≡ false → stands n s ≡ false
empty_stands n s e = ⊎_elim (λ t. absurd (both_ways (full s) e (stands-full n s t))) (λ t. t) (cases_Bool (stands n s))

-- another line does not stand where n stands
other-stands : (n m : ℕ) (s : Slot) → m ≢ n → stands n s ≡ true → stands m s ≡ false
other-stands n m s ne e =
    and_left (eqb s.tag m) (full s) (ne_eqb s.tag m (λ p. ne (sym p ∙ stands-tag n s e)))

pub find_absent : (n : ℕ) (ss : List Slot) → has n ss ≡ false → find n ss ≡ none
find_absent n [] e = refl
find_absent n (s ∷ ss) e = rw (or_parts (stands n s) (has n ss) e).0 (find_absent n ss (or_parts (stands n s) (has n ss) e).1)

pub find-held : (n : ℕ) (ss : List Slot) → valid (find n ss).state ≡ has n ss
find-held n [] = refl
find-held n (s ∷ ss) =
    elim (stands n s) as (λ b. stands n s ≡ b → valid (cond b s.copy (find n ss)).state ≡ (b || has n ss))
    [ true ↦ λ e. stands-full n s e | false ↦ λ e. find-held n ss ] refl

absent-times : (n : ℕ) (ss : List Slot) → times n ss ≡ 0 → has n ss ≡ false
absent-times n [] e = refl
absent-times n (s ∷ ss) e =
    elim (stands n s) as (λ b. one b + times n ss ≡ 0 → (b || has n ss) ≡ false)
    [ true ↦ λ t. absurd (omega arith) | false ↦ λ t. absent-times n ss (omega arith) ] e

pub times-absent : (n : ℕ) (ss : List Slot) → has n ss ≡ false → times n ss ≡ 0
times-absent n [] e = refl
times-absent n (s ∷ ss) e =
    rw (or_parts (stands n s) (has n ss) e).0 (omega (arith, times-absent n ss (or_parts (stands n s) (has n ss) e).1))

at_most : (b : Bool) → one b ≤ 1
at_most true = omega arith
at_most false = omega arith

one-and : (a b : Bool) → one (a && b) ≤ one a
one-and true b = at_most b
one-and false b = omega arith

module _ (n : ℕ) (x : Copy) where
  same-times : (s : Slot) (m : ℕ) → stands n s ≡ true → one (stands m (slot n x)) ≤ one (stands m s)
  same-times s m p =
      ⊎_elim
      (λ (e : eqb n m ≡ true). subst (λ (b : Bool). one (stands m (slot n x)) ≤ one b) (sym (subst (λ (j : ℕ). stands j s ≡ true) (eqb-true n m e) p)) (at_most (stands m (slot n x))))
      (λ (e : eqb n m ≡ false). subst (λ (b : Bool). one b ≤ one (stands m s)) (sym (and_left (eqb n m) (valid x.state) e)) (omega arith))
      (cases_Bool (eqb n m))

  -- line n, found again
  find-replace : (ss : List Slot) → times n ss ≤ 1 → has n ss ≡ true → find n (replace n x ss) ≡ tidy x
  find-replace [] o e = absurd (false≢true e)
  find-replace (s ∷ ss) o e =
      elim (stands n s) as
      (λ b. stands n s ≡ b → one b + times n ss ≤ 1 → (b || has n ss) ≡ true → find n (cond b (slot n x ∷ ss) (s ∷ replace n x ss)) ≡ tidy x) [
        | true ↦ λ p o e. rw (stands_same n x, find_absent n ss (absent-times n ss (omega arith)))
        | false ↦ λ p o e. rw p (find-replace ss (omega arith) e)
      ] refl o e

  find-fill : (ss : List Slot) → valid x.state ≡ true → has n ss ≡ false → gap ss ≡ true → find n (fill n x ss) ≡ x
  find-fill [] v a g = absurd (false≢true g)
  find-fill (s ∷ ss) v a g =
      elim (full s) as (λ b. full s ≡ b → (not b || gap ss) ≡ true → find n (cond b (s ∷ fill n x ss) (slot n x ∷ ss)) ≡ x) [
        | true ↦ λ p g. rw (or_parts (stands n s) (has n ss) a).0 (find-fill ss v (or_parts (stands n s) (has n ss) a).1 g)
        | false ↦ λ p g. rw (stands_same n x, v)
      ] refl g

  pub find-put-same : (ss : List Slot) → times n ss ≤ 1 → (valid x.state ≡ true → (has n ss || gap ss) ≡ true) → find n (put_in n x ss) ≡ tidy x
  find-put-same ss o room =
      elim (has n ss) as (λ b. has n ss ≡ b → (valid x.state ≡ true → (b || gap ss) ≡ true) → find n (cond b (replace n x ss) (cond (valid x.state) (fill n x ss) ss)) ≡ tidy x) [
        | true ↦ λ p r. find-replace ss o p
        | false ↦ λ p r.
            elim (valid x.state) as (λ v. valid x.state ≡ v → find n (cond v (fill n x ss) ss) ≡ cond v x none)
            [ true ↦ λ v. find-fill ss v p (r v) | false ↦ λ v. find_absent n ss p ] refl
      ] refl room

  -- another line, found as before
  find-replace_other : (m : ℕ) → m ≢ n → (ss : List Slot) → find m (replace n x ss) ≡ find m ss
  find-replace_other m ne [] = refl
  find-replace_other m ne (s ∷ ss) =
      elim (stands n s) as (λ b. stands n s ≡ b → find m (cond b (slot n x ∷ ss) (s ∷ replace n x ss)) ≡ find m (s ∷ ss)) [
        | true ↦ λ p. rw (stands-other n m x ne, other-stands n m s ne p)
        | false ↦ λ p. ap (λ (y : Copy). cond (stands m s) s.copy y) (find-replace_other m ne ss)
      ] refl

  find-fill_other : (m : ℕ) → m ≢ n → (ss : List Slot) → find m (fill n x ss) ≡ find m ss
  find-fill_other m ne [] = refl
  find-fill_other m ne (s ∷ ss) =
      elim (full s) as (λ b. full s ≡ b → find m (cond b (s ∷ fill n x ss) (slot n x ∷ ss)) ≡ find m (s ∷ ss)) [
        | true ↦ λ p. ap (λ (y : Copy). cond (stands m s) s.copy y) (find-fill_other m ne ss)
        | false ↦ λ p. rw (stands-other n m x ne, empty_stands m s p)
      ] refl

  pub find-put_other : (m : ℕ) → m ≢ n → (ss : List Slot) → find m (put_in n x ss) ≡ find m ss
  find-put_other m ne ss =
      elim (has n ss) as (λ b. find m (cond b (replace n x ss) (cond (valid x.state) (fill n x ss) ss)) ≡ find m ss) [
        | true ↦ find-replace_other m ne ss
        | false ↦ elim (valid x.state) as (λ v. find m (cond v (fill n x ss) ss) ≡ find m ss) [ true ↦ find-fill_other m ne ss | false ↦ refl ]
      ]

  -- how often a line stands
  times-replace : (ss : List Slot) (m : ℕ) → times m (replace n x ss) ≤ times m ss
  times-replace [] m = omega arith
  times-replace (s ∷ ss) m =
      elim (stands n s) as (λ b. stands n s ≡ b → times m (cond b (slot n x ∷ ss) (s ∷ replace n x ss)) ≤ times m (s ∷ ss))
      [ true ↦ λ p. omega (arith, same-times s m p) | false ↦ λ p. omega (arith, times-replace ss m) ] refl

  times-fill : (ss : List Slot) (m : ℕ) → times m (fill n x ss) ≤ times m ss + one (eqb n m)
  times-fill [] m = omega arith
  times-fill (s ∷ ss) m =
      elim (full s) as (λ b. full s ≡ b → times m (cond b (s ∷ fill n x ss) (slot n x ∷ ss)) ≤ times m (s ∷ ss) + one (eqb n m))
      [ true ↦ λ p. omega (arith, times-fill ss m) | false ↦ λ p. rw (empty_stands m s p) (omega (arith, one-and (eqb n m) (valid x.state))) ] refl

  pub times-put : (ss : List Slot) → ((m : ℕ) → times m ss ≤ 1) → (m : ℕ) → times m (put_in n x ss) ≤ 1
  times-put ss once m =
      elim (has n ss) as (λ b. has n ss ≡ b → times m (cond b (replace n x ss) (cond (valid x.state) (fill n x ss) ss)) ≤ 1) [
        | true ↦ λ p. omega (arith, times-replace ss m, once m)
        | false ↦ λ p.
            elim (valid x.state) as (λ v. times m (cond v (fill n x ss) ss) ≤ 1) [
              | true ↦ elim (eqb n m) as (λ q. eqb n m ≡ q → times m (fill n x ss) ≤ 1) [
                | true ↦ λ q. omega (arith, times-fill ss m, ap one q, subst (λ (j : ℕ). times j ss ≡ 0) (eqb-true n m q) (times-absent n ss p))
                | false ↦ λ q. omega (arith, times-fill ss m, ap one q, once m)
              ] refl
              | false ↦ once m
            ]
      ] refl

  -- how many copies stand there
  full-replace : (ss : List Slot) → has n ss ≡ true → full_in (replace n x ss) + 1 ≡ full_in ss + one (valid x.state)
  full-replace [] e = absurd (false≢true e)
  full-replace (s ∷ ss) e =
      elim (stands n s) as (λ b. stands n s ≡ b → (b || has n ss) ≡ true → full_in (cond b (slot n x ∷ ss) (s ∷ replace n x ss)) + 1 ≡ full_in (s ∷ ss) + one (valid x.state))
      [ true ↦ λ p e. rw (stands-full n s p) (omega arith) | false ↦ λ p e. omega (arith, full-replace ss e) ] refl e

  full-fill : (ss : List Slot) → valid x.state ≡ true → gap ss ≡ true → full_in (fill n x ss) ≡ full_in ss + 1
  full-fill [] v g = absurd (false≢true g)
  full-fill (s ∷ ss) v g =
      elim (full s) as (λ b. full s ≡ b → (not b || gap ss) ≡ true → full_in (cond b (s ∷ fill n x ss) (slot n x ∷ ss)) ≡ one b + full_in ss + 1)
      [ true ↦ λ p g. rw p (omega (arith, full-fill ss v g)) | false ↦ λ p g. rw v (omega arith) ] refl g

  pub full_put : (ss : List Slot) → (valid x.state ≡ true → (has n ss || gap ss) ≡ true) → full_in (put_in n x ss) + one (has n ss) ≡ full_in ss + one (valid x.state)
  full_put ss room =
      elim (has n ss) as
      (λ b. has n ss ≡ b → (valid x.state ≡ true → (b || gap ss) ≡ true) → full_in (cond b (replace n x ss) (cond (valid x.state) (fill n x ss) ss)) + one b ≡ full_in ss + one (valid x.state)) [
        | true ↦ λ p r. full-replace ss p
        | false ↦ λ p r.
            elim (valid x.state) as (λ v. valid x.state ≡ v → full_in (cond v (fill n x ss) ss) + 0 ≡ full_in ss + one v)
            [ true ↦ λ v. omega (arith, full-fill ss v (r v)) | false ↦ λ v. omega arith ] refl
      ] refl room

  -- only line n can be new there
  pub has-put : (ss : List Slot) (m : ℕ) → has m (put_in n x ss) ≡ true → (m ≡ n) ⊎ (has m ss ≡ true)
  has-put ss m e =
      ⊎_elim (λ p. inl p)
      (λ ne. inr (sym (find-held m ss) ∙ ap (λ (y : Copy). valid y.state) (sym (find-put_other m ne ss)) ∙ find-held m (put_in n x ss) ∙ e))
      (cases_eq m n)

  length-replace : (ss : List Slot) → length (replace n x ss) ≡ length ss
  length-replace [] = refl
  length-replace (s ∷ ss) =
      elim (stands n s) as (λ b. length (cond b (slot n x ∷ ss) (s ∷ replace n x ss)) ≡ suc (length ss)) [ true ↦ refl | false ↦ ap suc (length-replace ss) ]

  length-fill : (ss : List Slot) → length (fill n x ss) ≡ length ss
  length-fill [] = refl
  length-fill (s ∷ ss) =
      elim (full s) as (λ b. length (cond b (s ∷ fill n x ss) (slot n x ∷ ss)) ≡ suc (length ss)) [ true ↦ ap suc (length-fill ss) | false ↦ refl ]

  pub length-put_in : (ss : List Slot) → length (put_in n x ss) ≡ length ss
  length-put_in ss =
      elim (has n ss) as (λ b. length (cond b (replace n x ss) (cond (valid x.state) (fill n x ss) ss)) ≡ length ss) [
        | true ↦ length-replace ss
        | false ↦ elim (valid x.state) as (λ v. length (cond v (fill n x ss) ss) ≡ length ss) [ true ↦ length-fill ss | false ↦ refl ]
      ]

-- where no way is empty, the line in the lowest way stands
pub lowest-stands : (ss : List Slot) → 0 < length ss → gap ss ≡ false → has (lowest ss) ss ≡ true
lowest-stands [] l g = absurd (omega arith)
lowest-stands (s ∷ ss) l g =
    rw (eq-eqb s.tag s.tag refl, not-false (full s) (or_parts (not (full s)) (gap ss) g).0)

gap-replaced : (n : ℕ) (ss : List Slot) → has n ss ≡ true → gap (replace n none ss) ≡ true
gap-replaced n [] e = absurd (false≢true e)
gap-replaced n (s ∷ ss) e =
    elim (stands n s) as (λ b. (b || has n ss) ≡ true → gap (cond b (slot n none ∷ ss) (s ∷ replace n none ss)) ≡ true)
    [ true ↦ λ e. refl | false ↦ λ e. or_right (not (full s)) (gap (replace n none ss)) (gap-replaced n ss e) ] e

-- a line that goes leaves an empty way
pub gap-removed : (n : ℕ) (ss : List Slot) → has n ss ≡ true → gap (put_in n none ss) ≡ true
gap-removed n ss e = rw e (gap-replaced n ss e)

-- the lines listed are those that stand there
pub among-lines : (n : ℕ) (ss : List Slot) → among n (lines_of ss) ≡ has n ss
among-lines n [] = refl
among-lines n (s ∷ ss) =
    elim (full s) as (λ b. full s ≡ b → among n (cond b (s.tag ∷ lines_of ss) (lines_of ss)) ≡ ((eqb s.tag n && b) || has n ss))
    [ true ↦ λ p. listed (among-lines n ss) (eqb s.tag n) refl | false ↦ λ p. rw (and_right (eqb s.tag n) false refl) (among-lines n ss) ] refl
  where
    listed : among n (lines_of ss) ≡ has n ss → (q : Bool) → eqb s.tag n ≡ q → (eqb n s.tag || among n (lines_of ss)) ≡ ((q && true) || has n ss)
    listed ih true q = rw (eq-eqb n s.tag (sym (eqb-true s.tag n q))) refl
    listed ih false q = rw (ne_eqb n s.tag (λ e. eqb-false s.tag n q (sym e))) ih

-- empty ways
pub empty-set : (ways n : ℕ) → has n (replicate ways vacant) ≡ false
empty-set zero n = refl
empty-set (suc ways) n = rw (and_right (eqb 0 n) false refl) (empty-set ways n)

pub empty-full : (ways : ℕ) → full_in (replicate ways vacant) ≡ 0
empty-full zero = refl
empty-full (suc ways) = omega (arith, empty-full ways)

-- where no line stands no copy does
pub none-full : (ss : List Slot) → ((n : ℕ) → has n ss ≡ false) → full_in ss ≡ 0
none-full [] h = refl
none-full (s ∷ ss) h =
    elim (full s) as (λ b. full s ≡ b → one b + full_in ss ≡ 0) [
      | true ↦ λ p. absurd (both_ways (stands s.tag s) (or_parts (stands s.tag s) (has s.tag ss) (h s.tag)).0 (rw (eq-eqb s.tag s.tag refl, p)))
      | false ↦ λ p. omega (arith, none-full ss (λ n. (or_parts (stands n s) (has n ss) (h n)).1))
    ] refl

-- what stands, put again, changes nothing
replace-find : (n : ℕ) (ss : List Slot) → has n ss ≡ true → replace n (find n ss) ss ≡ ss
replace-find n [] e = refl
replace-find n (s ∷ ss) e =
    elim (stands n s) as (λ b. stands n s ≡ b → (b || has n ss) ≡ true → cond b (slot n (cond b s.copy (find n ss)) ∷ ss) (s ∷ replace n (cond b s.copy (find n ss)) ss) ≡ s ∷ ss)
    [ true ↦ λ p e. ap (λ (j : ℕ). slot j s.copy ∷ ss) (sym (stands-tag n s p)) | false ↦ λ p e. ap (λ (ts : List Slot). s ∷ ts) (replace-find n ss e) ] refl e

pub put-find : (n : ℕ) (ss : List Slot) → put_in n (find n ss) ss ≡ ss
put-find n ss =
    elim (has n ss) as (λ b. has n ss ≡ b → cond b (replace n (find n ss) ss) (cond (valid (find n ss).state) (fill n (find n ss) ss) ss) ≡ ss)
    [ true ↦ λ p. replace-find n ss p | false ↦ λ p. rw (find-held n ss, p) refl ] refl
