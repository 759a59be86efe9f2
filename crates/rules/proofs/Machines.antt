-- The caches of all seats over the memory: installing one line keeps every line coherent, and counts.
--
-- Sound   caches and memory of the agreed sizes, every cache in order, every line coherent with its newest words
use Rattle.std.proofs.Common.{◌≡◌, ℕ, zero, suc, ◌+◌, ◌<◌, Bool, true, false, cond, not, ◌&&◌, ◌≢◌, List, [], ◌∷◌, map, length, get_or, set, sym, refl, ap, ◌∙◌, subst, ⊎_elim, arith}
use Rattle.std.proofs.lemmas.Bool.{cases_eq, cond-true}
use Rattle.std.proofs.lemmas.List.{length-set, get_or-set_same, get_or-set_other, length-map}
use Rattle.protocol.specs.declared.state.State.{State}
use Rattle.protocol.specs.States.{valid, owned}
use Rattle.rules.specs.Columns.{Copy, none, Column, state_at, words_at, one, holders}
use Rattle.rules.specs.Caches.{Cache, look, room, put}
use Rattle.rules.specs.Machines.{copies_of, put_each, copies_held, lost_in, lost}
use Rattle.rules.specs.Coherence.{Sizes}
use Rattle.rules.proofs.Tables.{agree, unheld}
use Rattle.rules.proofs.Seats.{holders-lost, none-gained, holders-set}
use Rattle.rules.proofs.Lines.{Coherent, Moved}
use Rattle.rules.proofs.Sets.{tidy}
use Rattle.rules.proofs.Caches.{Wf, Fit, look-room, put-look, look-put-same, look-put_other, held_in-put, wf-put}

-- one line of caches over a memory
abbrev pub line_in : List Cache → List (List ℕ) → ℕ → Column
line_in cs lines n = record { copies = copies_of n cs; home = get_or lines n [] }

-- a tidy copy stands for the copy
tidy-state : (x : Copy) → (tidy x).state ≡ x.state
tidy-state x =
    elim (valid x.state) as (λ b. valid x.state ≡ b → (cond b x none).state ≡ x.state)
    [ true ↦ λ e. refl | false ↦ λ e. sym (unheld x.state e) ] refl

tidy-at : (xs : List Copy) (k : ℕ) → get_or (map tidy xs) k none ≡ tidy (get_or xs k none)
tidy-at [] k = refl
tidy-at (x ∷ xs) zero = refl
tidy-at (x ∷ xs) (suc k) = tidy-at xs k

pub tidy-state_at : (xs : List Copy) (k : ℕ) → state_at (map tidy xs) k ≡ state_at xs k
tidy-state_at xs k = ap (λ (x : Copy). x.state) (tidy-at xs k) ∙ tidy-state (get_or xs k none)

tidy-words_at : (xs : List Copy) (k : ℕ) → valid (state_at xs k) ≡ true → words_at (map tidy xs) k ≡ words_at xs k
tidy-words_at xs k e = ap (λ (x : Copy). x.words) (tidy-at xs k ∙ cond-true (valid (state_at xs k)) (get_or xs k none) none e)

tidy-coherent : (xs : List Copy) (home truth : List ℕ) → Coherent (record { copies = xs; home = home }) truth → Coherent (record { copies = map tidy xs; home = home }) truth
tidy-coherent xs home truth ok = record {
  apart = λ i j ne. subst (λ (s : State). agree s (state_at (map tidy xs) j) ≡ true) (sym (tidy-state_at xs i)) (subst (λ (s : State). agree (state_at xs i) s ≡ true) (sym (tidy-state_at xs j)) (ok.apart i j ne));
  current = λ i e. let h : valid (state_at xs i) ≡ true = ap valid (sym (tidy-state_at xs i)) ∙ e in tidy-words_at xs i h ∙ ok.current i h;
  safe = λ n. ok.safe (λ i. ap owned (sym (tidy-state_at xs i)) ∙ n i);
  wide = ok.wide;
}

-- a seat of the column is the seat's copy
pub column-at : (n : ℕ) (cs : List Cache) (k : ℕ) → get_or (copies_of n cs) k none ≡ look (get_or cs k []) n
unfolding look
column-at n [] k = refl
column-at n (c ∷ cs) zero = refl
column-at n (c ∷ cs) (suc k) = column-at n cs k

pub put_each-at : (n : ℕ) (cs : List Cache) (xs : List Copy) → length xs ≡ length cs → (k : ℕ) → get_or (put_each n cs xs) k [] ≡ put n (get_or cs k []) (get_or xs k none)
unfolding put
put_each-at n [] xs e k = refl
put_each-at n (c ∷ cs) [] e k = absurd (omega arith)
put_each-at n (c ∷ cs) (x ∷ xs) e zero = refl
put_each-at n (c ∷ cs) (x ∷ xs) e (suc k) = put_each-at n cs xs (omega arith) k

pub length-put_each : (n : ℕ) (cs : List Cache) (xs : List Copy) → length (put_each n cs xs) ≡ length cs
length-put_each n [] xs = refl
length-put_each n (c ∷ cs) [] = refl
length-put_each n (c ∷ cs) (x ∷ xs) = ap suc (length-put_each n cs xs)

-- every seat's own copy, put again, changes nothing
pub put_each-same : (n : ℕ) (cs : List Cache) → put_each n cs (copies_of n cs) ≡ cs
put_each-same n [] = refl
put_each-same n (c ∷ cs) = ap (λ (d : Cache). d ∷ put_each n cs (copies_of n cs)) (put-look c n) ∙ ap (λ (ds : List Cache). c ∷ ds) (put_each-same n cs)

-- one seat's copy, put alone
pub put_each-one : (n r : ℕ) (cs : List Cache) (x : Copy) → put_each n cs (set (copies_of n cs) r x) ≡ set cs r (put n (get_or cs r []) x)
put_each-one n r [] x = refl
put_each-one n zero (c ∷ cs) x = ap (λ (ds : List Cache). put n c x ∷ ds) (put_each-same n cs)
put_each-one n (suc r) (c ∷ cs) x =
    ap (λ (d : Cache). d ∷ put_each n cs (set (copies_of n cs) r x)) (put-look c n) ∙ ap (λ (ds : List Cache). c ∷ ds) (put_each-one n r cs x)

-- every cache in order
abbrev pub InOrder : ℕ → ℕ → List Cache → Type 0
InOrder lines sets cs = (k : ℕ) → k < length cs → Wf lines sets (get_or cs k [])

-- every copy may be put
abbrev pub Fits : ℕ → List Cache → List Copy → Type 0
Fits n cs xs = (k : ℕ) → k < length cs → Fit (get_or cs k []) n (get_or xs k none)

module _ (lines sets n : ℕ) where
  look-same : (cs : List Cache) (xs : List Copy) → length xs ≡ length cs → InOrder lines sets cs → Fits n cs xs → copies_of n (put_each n cs xs) ≡ map tidy xs
  look-same [] [] e o f = refl
  look-same [] (x ∷ xs) e o f = absurd (omega arith)
  look-same (c ∷ cs) [] e o f = absurd (omega arith)
  look-same (c ∷ cs) (x ∷ xs) e o f =
      ap (λ (y : Copy). y ∷ copies_of n (put_each n cs xs)) (look-put-same lines sets c (o 0 (omega arith)) n x (f 0 (omega arith)))
      ∙ ap (λ (ys : List Copy). tidy x ∷ ys) (look-same cs xs (omega arith) (λ k l. o (suc k) (omega arith)) (λ k l. f (suc k) (omega arith)))

  look-other : (m : ℕ) → m ≢ n → (cs : List Cache) (xs : List Copy) → InOrder lines sets cs → copies_of m (put_each n cs xs) ≡ copies_of m cs
  look-other m ne [] xs o = refl
  look-other m ne (c ∷ cs) [] o = refl
  look-other m ne (c ∷ cs) (x ∷ xs) o =
      ap (λ (y : Copy). y ∷ copies_of m (put_each n cs xs)) (look-put_other lines sets c (o 0 (omega arith)) n x m ne)
      ∙ ap (λ (ys : List Copy). look c m ∷ ys) (look-other m ne cs xs (λ k l. o (suc k) (omega arith)))

  held-install :
      (cs : List Cache) (xs : List Copy) → length xs ≡ length cs → InOrder lines sets cs → Fits n cs xs
      → copies_held (put_each n cs xs) + holders (copies_of n cs) ≡ copies_held cs + holders xs
  held-install [] [] e o f = refl
  held-install [] (x ∷ xs) e o f = absurd (omega arith)
  held-install (c ∷ cs) [] e o f = absurd (omega arith)
  held-install (c ∷ cs) (x ∷ xs) e o f =
      omega (
        arith,
        held_in-put lines sets c (o 0 (omega arith)) n x (f 0 (omega arith)),
        held-install cs xs (omega arith) (λ k l. o (suc k) (omega arith)) (λ k l. f (suc k) (omega arith)),
      )

-- caches and memory of the agreed sizes, in order, every line coherent with its newest words
pub record Sound (z : Sizes) (truth : List (List ℕ)) (cs : List Cache) (memory : List (List ℕ)) : Type 0 where
  pub truths : length truth ≡ z.lines
  pub widths : (n : ℕ) → n < z.lines → length (get_or truth n []) ≡ z.width
  pub seated : length cs ≡ z.seats
  pub lined : length memory ≡ z.lines
  pub order : InOrder z.lines z.sets cs
  pub each : (n : ℕ) → n < z.lines → Coherent (line_in cs memory n) (get_or truth n [])

-- the other seats that lose the line, and the requester that gains it
gained :
    (xs ys : List Copy) (r : ℕ) → length ys ≡ length xs → r < length xs
    → ((k : ℕ) → k ≢ r → valid (state_at ys k) ≡ true → valid (state_at xs k) ≡ true)
    → lost_in ys (set xs r none) ≡ one (valid (state_at ys r))
gained [] ys r e l g = absurd (omega arith)
gained (x ∷ xs) [] r e l g = absurd (omega arith)
gained (x ∷ xs) (y ∷ ys) zero e l g =
    elim (valid y.state) as (λ b. one (b && true) + lost_in ys xs ≡ one b) [ true ↦ omega (arith, rest) | false ↦ omega (arith, rest) ]
  where
    rest : lost_in ys xs ≡ 0
    rest = none-gained xs ys (omega arith) (λ i h. g (suc i) (omega arith) h)
gained (x ∷ xs) (y ∷ ys) (suc r) e l g =
    elim (valid y.state) as (λ b. valid y.state ≡ b → one (b && not (valid x.state)) + lost_in ys (set xs r none) ≡ one (valid (state_at ys r))) [
      | true ↦ λ t. rw (g 0 (omega arith) t) (omega (arith, gained xs ys r (omega arith) (omega arith) (λ k ne h. g (suc k) (omega arith) h)))
      | false ↦ λ t. omega (arith, gained xs ys r (omega arith) (omega arith) (λ k ne h. g (suc k) (omega arith) h))
    ] refl

pub lost-count :
    (xs ys : List Copy) (r : ℕ) → length ys ≡ length xs → r < length xs
    → ((k : ℕ) → k ≢ r → valid (state_at ys k) ≡ true → valid (state_at xs k) ≡ true)
    → holders ys + lost r xs ys + one (valid (state_at xs r)) ≡ holders xs + one (valid (state_at ys r))
lost-count xs ys r e l g =
    omega (arith, holders-lost (set xs r none) ys (length-set xs r none ∙ sym e), gained xs ys r e l g, holders-set xs r none l)

module _ (z : Sizes) (truth : List (List ℕ)) (cs : List Cache) (memory : List (List ℕ)) (ok : Sound z truth cs memory)
    (n : ℕ) (there : n < z.lines) (r : ℕ) (on : r < z.seats) (col : Column) (holding : Bool) (line : List ℕ)
    (moved : Moved (line_in cs memory n) col r holding line)
    (space : holding ≡ true → room (get_or cs r []) n ≡ true) where
  as_long : length col.copies ≡ length cs
  as_long = moved.long ∙ length-map cs (λ c. look c n)

  all_fit : Fits n cs col.copies
  all_fit k l e =
      ⊎_elim (λ p. subst (λ (j : ℕ). room (get_or cs j []) n ≡ true) (sym p) (space (sym moved.own ∙ subst (λ (j : ℕ). valid (state_at col.copies j) ≡ true) p e)))
      (λ ne. look-room (get_or cs k []) n (ap (λ (x : Copy). valid x.state) (sym (column-at n cs k)) ∙ moved.no_gain k ne e))
      (cases_eq k r)

  -- the line afterwards
  pub installed-same : line_in (put_each n cs col.copies) (set memory n col.home) n ≡ record { copies = map tidy col.copies; home = col.home }
  installed-same =
      ap (λ (xs : List Copy). record { copies = xs; home = get_or (set memory n col.home) n [] }) (look-same z.lines z.sets n cs col.copies as_long ok.order all_fit)
      ∙ ap (λ (h : List ℕ). record { copies = map tidy col.copies; home = h }) (get_or-set_same memory n col.home [] (subst (λ (k : ℕ). n < k) (sym ok.lined) there))

  -- every other line is as it was
  pub installed_other : (j : ℕ) → j ≢ n → line_in (put_each n cs col.copies) (set memory n col.home) j ≡ line_in cs memory j
  installed_other j ne =
      ap (λ (xs : List Copy). record { copies = xs; home = get_or (set memory n col.home) j [] }) (look-other z.lines z.sets n j ne cs col.copies ok.order)
      ∙ ap (λ (h : List ℕ). record { copies = copies_of j cs; home = h }) (get_or-set_other memory n j col.home [] ne)

  pub install-sound : length line ≡ z.width → Sound z (set truth n line) (put_each n cs col.copies) (set memory n col.home)
  install-sound wide = record {
    truths = length-set truth n line ∙ ok.truths;
    widths = λ j l. ⊎_elim
        (λ p. ap length (ap (λ (k : ℕ). get_or (set truth n line) k []) p ∙ get_or-set_same truth n line [] (subst (λ (k : ℕ). n < k) (sym ok.truths) there)) ∙ wide)
        (λ ne. ap length (get_or-set_other truth n j line [] ne) ∙ ok.widths j l)
        (cases_eq j n);
    seated = length-put_each n cs col.copies ∙ ok.seated;
    lined = length-set memory n col.home ∙ ok.lined;
    order = λ k l.
        let h : k < length cs = omega (arith, length-put_each n cs col.copies) in
        subst (Wf z.lines z.sets) (sym (put_each-at n cs col.copies as_long k))
        (wf-put z.lines z.sets (get_or cs k []) (ok.order k h) n (get_or col.copies k none) there);
    each = λ j l. ⊎_elim
        (λ p. subst (λ (k : ℕ). Coherent (line_in (put_each n cs col.copies) (set memory n col.home) k) (get_or (set truth n line) k [])) (sym p) here)
        (λ ne. subst (λ (c : Column). Coherent c (get_or (set truth n line) j [])) (sym (installed_other j ne))
        (subst (λ (w : List ℕ). Coherent (line_in cs memory j) w) (sym (get_or-set_other truth n j line [] ne)) (ok.each j l)))
        (cases_eq j n);
  }
    where
      here : Coherent (line_in (put_each n cs col.copies) (set memory n col.home) n) (get_or (set truth n line) n [])
      here =
          subst (λ (c : Column). Coherent c (get_or (set truth n line) n [])) (sym installed-same)
          (subst (λ (w : List ℕ). Coherent (record { copies = map tidy col.copies; home = col.home }) w)
          (sym (get_or-set_same truth n line [] (subst (λ (k : ℕ). n < k) (sym ok.truths) there)))
          (tidy-coherent col.copies col.home line moved.coherent))

  pub install-held : copies_held (put_each n cs col.copies) + holders (copies_of n cs) ≡ copies_held cs + holders col.copies
  install-held = held-install z.lines z.sets n cs col.copies as_long ok.order all_fit

  -- the copies held, counted: the others that are lost, the requester's before and after
  pub install-count : copies_held (put_each n cs col.copies) + lost r (copies_of n cs) col.copies + one (valid (state_at (copies_of n cs) r)) ≡ copies_held cs + one holding
  install-count =
      omega (
        arith,
        install-held,
        lost-count (copies_of n cs) col.copies r moved.long (subst (λ (k : ℕ). r < k) (sym (length-map cs (λ c. look c n) ∙ ok.seated)) on) moved.no_gain,
        ap one moved.own,
      )
