-- A settle leaves no copy, and memory with the newest words.
--
-- Clear      a seat holds no copy of a line
-- Flushing   the bus stays good, and what was clear stays clear
use Rattle.std.proofs.Common.{◌≡◌, ℕ, zero, suc, ◌%◌, ◌<◌, ◌≤◌, Bool, true, false, cond, eqb, List, [], ◌∷◌, length, get_or, set, sym, refl, ap, ◌∙◌, subst, ⊎_elim, mod-lt, arith}
use Rattle.std.proofs.lemmas.Bool.{cases_eq, cases_Bool, cases_lt, false≢true, eqb-true, eq-eqb, or_cases, or_left, or_right}
use Rattle.std.proofs.lemmas.List.{get_or-set_same, get_or-set_other, get_or_past, ext_get_or}
use Rattle.protocol.specs.States.{valid}
use Rattle.protocol.specs.Cells.{among}
use Rattle.rules.specs.Columns.{Copy, none, state_at}
use Rattle.rules.specs.Caches.{Cache, look, put, lines_at}
use Rattle.rules.specs.Machines.{Machine, copies_of, copies_held, holds}
use Rattle.rules.specs.Accesses.{flushed, flushed_each, flushed_set, flushed_sets, flushed_seat, flushed_seats, settled}
use Rattle.rules.specs.Coherence.{Sizes}
use Rattle.rules.proofs.Tables.{unheld-unowned}
use Rattle.rules.proofs.Caches.{Wf, look-put-same, look-put_other, look-listed, listed-line, held-zero}
use Rattle.rules.proofs.Machines.{InOrder, column-at}
use Rattle.rules.proofs.Steps.{Good, seat-order, flushed-good, flushed-caches}

-- seat k holds no copy of line n
abbrev pub Clear : List Cache → ℕ → ℕ → Type 0
Clear cs k n = valid (look (get_or cs k []) n).state ≡ false

pub record Flushing (z : Sizes) (truth : List (List ℕ)) (m new : Machine) : Type 0 where
  pub good : Good z truth new
  pub keeps : (k n : ℕ) → Clear m.caches k n → Clear new.caches k n

-- a copy that goes is gone, and no other comes
drop-clears : (lines sets : ℕ) (c : Cache) → Wf lines sets c → (n : ℕ) → valid (look (put n c none) n).state ≡ false
drop-clears lines sets c w n = ap (λ (x : Copy). valid x.state) (look-put-same lines sets c w n none (λ e. absurd (false≢true e)))

drop_keeps : (lines sets : ℕ) (c : Cache) → Wf lines sets c → (n j : ℕ) → valid (look c j).state ≡ false → valid (look (put n c none) j).state ≡ false
drop_keeps lines sets c w n j e =
    ⊎_elim (λ p. subst (λ (i : ℕ). valid (look (put n c none) i).state ≡ false) (sym p) (drop-clears lines sets c w n))
    (λ p. ap (λ (x : Copy). valid x.state) (look-put_other lines sets c w n none j p) ∙ e)
    (cases_eq j n)

-- a seat beyond the bus holds nothing
pub beyond-clear : (cs : List Cache) (k n : ℕ) → length cs ≤ k → Clear cs k n
unfolding look
beyond-clear cs k n l = rw (get_or_past cs k [] l) refl

module _ (z : Sizes) (truth : List (List ℕ)) (r : ℕ) (on : r < z.seats) where
  module _ (n : ℕ) (there : n < z.lines) (m : Machine) (ok : Good z truth m) where
    seat-on : r < length m.caches
    seat-on = subst (λ (k : ℕ). r < k) (sym ok.sound.seated) on

    dropped-at : get_or (set m.caches r (put n (get_or m.caches r []) none)) r [] ≡ put n (get_or m.caches r []) none
    dropped-at = get_or-set_same m.caches r (put n (get_or m.caches r []) none) [] seat-on

    -- after a flush the seat holds nothing of the line
    clears_if : (b : Bool) → holds r n m ≡ b → Clear (cond b (set m.caches r (put n (get_or m.caches r []) none)) m.caches) r n
    clears_if true e = subst (λ (c : Cache). valid (look c n).state ≡ false) (sym dropped-at) (drop-clears z.lines z.sets (get_or m.caches r []) (seat-order ok r on) n)
    clears_if false e = ap (λ (x : Copy). valid x.state) (sym (column-at n m.caches r)) ∙ e

    pub flushed-clears : Clear (flushed r n m).caches r n
    flushed-clears = subst (λ (cs : List Cache). Clear cs r n) (sym (flushed-caches z truth n there r on m ok)) (clears_if (holds r n m) refl)

    keeps-if : (b : Bool) (k j : ℕ) → Clear m.caches k j → Clear (cond b (set m.caches r (put n (get_or m.caches r []) none)) m.caches) k j
    keeps-if false k j e = e
    keeps-if true k j e =
        ⊎_elim
        (λ p. subst (λ (i : ℕ). Clear (set m.caches r (put n (get_or m.caches r []) none)) i j) (sym p)
        (subst (λ (c : Cache). valid (look c j).state ≡ false) (sym dropped-at)
        (drop_keeps z.lines z.sets (get_or m.caches r []) (seat-order ok r on) n j (subst (λ (i : ℕ). Clear m.caches i j) p e))))
        (λ p. subst (λ (c : Cache). valid (look c j).state ≡ false) (sym (get_or-set_other m.caches r k (put n (get_or m.caches r []) none) [] p)) e)
        (cases_eq k r)

    pub flushed-runs : Flushing z truth m (flushed r n m)
    flushed-runs = record {
      good = flushed-good z truth n there r on m ok;
      keeps = λ k j e. subst (λ (cs : List Cache). Clear cs k j) (sym (flushed-caches z truth n there r on m ok)) (keeps-if (holds r n m) k j e);
    }

  -- lines in turn
  each-runs : (ns : List ℕ) (m : Machine) → Good z truth m → ((n : ℕ) → among n ns ≡ true → n < z.lines) → Flushing z truth m (flushed_each r ns m)
  each-runs [] m ok h = record { good = ok; keeps = λ k n e. e }
  each-runs (n ∷ ns) m ok h =
      let one = flushed-runs n (h n (or_left (eqb n n) (among n ns) (eq-eqb n n refl))) m ok in
      let rest = each-runs ns (flushed r n m) one.good (λ j e. h j (or_right (eqb j n) (among j ns) e)) in
      record { good = rest.good; keeps = λ k j e. rest.keeps k j (one.keeps k j e) }

  each-clears : (ns : List ℕ) (m : Machine) → Good z truth m → ((n : ℕ) → among n ns ≡ true → n < z.lines) → (j : ℕ) → among j ns ≡ true → Clear (flushed_each r ns m).caches r j
  each-clears [] m ok h j e = absurd (false≢true e)
  each-clears (n ∷ ns) m ok h j e =
      let there = h n (or_left (eqb n n) (among n ns) (eq-eqb n n refl)) in
      let good = (flushed-runs n there m ok).good in
      let later = λ (i : ℕ) (q : among i ns ≡ true). h i (or_right (eqb i n) (among i ns) q) in
      ⊎_elim
      (λ p. (each-runs ns (flushed r n m) good later).keeps r j
      (subst (λ (i : ℕ). Clear (flushed r n m).caches r i) (sym (eqb-true j n p)) (flushed-clears n there m ok)))
      (λ q. each-clears ns (flushed r n m) good later j q)
      (or_cases (eqb j n) (among j ns) e)

  -- one set
  module _ (i : ℕ) (m : Machine) (ok : Good z truth m) where
    listed : (n : ℕ) → among n (lines_at (get_or m.caches r []) i) ≡ true → n < z.lines
    listed n e = listed-line z.lines z.sets (get_or m.caches r []) (seat-order ok r on) i n e

    set_runs : Flushing z truth m (flushed_set r i m)
    unfolding flushed_set
    set_runs = each-runs (lines_at (get_or m.caches r []) i) m ok listed

    set-clears : (n : ℕ) → n % z.sets ≡ i → Clear (flushed_set r i m).caches r n
    unfolding flushed_set
    set-clears n e =
        ⊎_elim
        (λ h. each-clears (lines_at (get_or m.caches r []) i) m ok listed n
        (subst (λ (k : ℕ). among n (lines_at (get_or m.caches r []) k) ≡ true) e (look-listed z.lines z.sets (get_or m.caches r []) (seat-order ok r on) n h).1))
        (λ h. set_runs.keeps r n h)
        (cases_Bool (valid (look (get_or m.caches r []) n).state))

  -- the first sets
  sets_runs : (j : ℕ) (m : Machine) → Good z truth m → Flushing z truth m (flushed_sets r j m)
  sets_runs zero m ok = record { good = ok; keeps = λ k n e. e }
  sets_runs (suc j) m ok =
      let before = sets_runs j m ok in
      let here = set_runs j (flushed_sets r j m) before.good in
      record { good = here.good; keeps = λ k n e. here.keeps k n (before.keeps k n e) }

  sets-clear : (j : ℕ) (m : Machine) → Good z truth m → (n : ℕ) → n % z.sets < j → Clear (flushed_sets r j m).caches r n
  sets-clear zero m ok n l = absurd (omega arith)
  sets-clear (suc j) m ok n l =
      let before = sets_runs j m ok in
      ⊎_elim (λ p. (set_runs j (flushed_sets r j m) before.good).keeps r n (sets-clear j m ok n p))
      (λ p. set-clears j (flushed_sets r j m) before.good n (omega arith))
      (cases_lt (n % z.sets) j)

  -- the whole seat
  pub seat-runs : (m : Machine) → Good z truth m → Flushing z truth m (flushed_seat r m)
  seat-runs m ok = sets_runs (length (get_or m.caches r [])) m ok

  pub seat-clear : (m : Machine) → Good z truth m → (n : ℕ) → Clear (flushed_seat r m).caches r n
  seat-clear m ok n =
      let w = seat-order ok r on in
      sets-clear (length (get_or m.caches r [])) m ok n (subst (λ (k : ℕ). n % z.sets < k) (sym w.sized) (mod-lt n w.some))

module _ (z : Sizes) (truth : List (List ℕ)) where
  -- the first seats
  seats-run : (j : ℕ) → j ≤ z.seats → (m : Machine) → Good z truth m → Flushing z truth m (flushed_seats j m)
  seats-run zero l m ok = record { good = ok; keeps = λ k n e. e }
  seats-run (suc j) l m ok =
      let before = seats-run j (omega arith) m ok in
      let here = seat-runs z truth j (omega arith) (flushed_seats j m) before.good in
      record { good = here.good; keeps = λ k n e. here.keeps k n (before.keeps k n e) }

  seats-clear : (j : ℕ) → j ≤ z.seats → (m : Machine) → Good z truth m → (k n : ℕ) → k < j → Clear (flushed_seats j m).caches k n
  seats-clear zero l m ok k n h = absurd (omega arith)
  seats-clear (suc j) l m ok k n h =
      let before = seats-run j (omega arith) m ok in
      ⊎_elim (λ p. (seat-runs z truth j (omega arith) (flushed_seats j m) before.good).keeps k n (seats-clear j (omega arith) m ok k n p))
      (λ p. let e : k ≡ j = omega arith in subst (λ (i : ℕ). Clear (flushed_seat j (flushed_seats j m)).caches i n) (sym e) (seat-clear z truth j (omega arith) (flushed_seats j m) before.good n))
      (cases_lt k j)

  module _ (m : Machine) (ok : Good z truth m) where
    pub settled-good : Good z truth (settled m)
    unfolding settled
    settled-good = (seats-run (length m.caches) (omega (arith, ok.sound.seated)) m ok).good

    settled-within : (k n : ℕ) → k < z.seats → Clear (settled m).caches k n
    unfolding settled
    settled-within k n l = seats-clear (length m.caches) (omega (arith, ok.sound.seated)) m ok k n (omega (arith, ok.sound.seated))

    pub settled-clear : (k n : ℕ) → Clear (settled m).caches k n
    settled-clear k n =
        ⊎_elim (λ l. settled-within k n l)
        (λ l. beyond-clear (settled m).caches k n (omega (arith, settled-good.sound.seated)))
        (cases_lt k z.seats)

copies-zero : (lines sets : ℕ) (cs : List Cache) → InOrder lines sets cs → ((k n : ℕ) → Clear cs k n) → copies_held cs ≡ 0
copies-zero lines sets [] o h = refl
copies-zero lines sets (c ∷ cs) o h =
    omega (arith, held-zero lines sets c (o 0 (omega arith)) (λ n. h 0 n), copies-zero lines sets cs (λ k l. o (suc k) (omega arith)) (λ k n. h (suc k) n))

module _ (z : Sizes) (truth : List (List ℕ)) (m : Machine) (ok : Good z truth m) where
  -- no copy is held
  pub settled-none : copies_held (settled m).caches ≡ 0
  settled-none = copies-zero z.lines z.sets (settled m).caches (settled-good z truth m ok).sound.order (settled-clear z truth m ok)

  -- memory has the newest words
  pub settled-memory : (settled m).memory ≡ truth
  settled-memory =
      let g = settled-good z truth m ok in
      ext_get_or [] (settled m).memory truth (g.sound.lined ∙ sym g.sound.truths)
      (λ n l. (g.sound.each n (omega (arith, g.sound.lined))).safe
      (λ k. unheld-unowned (state_at (copies_of n (settled m).caches) k) (ap (λ (x : Copy). valid x.state) (column-at n (settled m).caches k) ∙ settled-clear z truth m ok k n)))
