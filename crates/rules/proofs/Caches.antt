-- One seat's cache: the laws of look, room, victim, put, held_in and lines_at. Past this file nothing knows the layout.
--
-- Wf    a cache in order: sets of at least one way, no line twice in a set, each held copy in the set of its line
-- Fit   a copy may be put: where it is held the line has room
use Rattle.std.proofs.Common.{◌≡◌, ℕ, zero, suc, ◌+◌, ◌%◌, ◌<◌, ◌≤◌, Bool, true, false, cond, eqb, ◌≢◌, List, [], ◌∷◌, length, get_or, set, replicate, sym, refl, ap, ◌∙◌, subst, ⊎_elim, mod-lt, arith}
use Rattle.std.proofs.lemmas.Bool.{cases_eq, cases_lt, eq-eqb, ne_eqb, or_parts, or_left, or_right, both_ways}
use Rattle.std.proofs.lemmas.List.{length-set, get_or-set_same, get_or-set_other, set-get_or, get_or_past, length-replicate, get_or-replicate}
use Rattle.protocol.specs.States.{valid}
use Rattle.protocol.specs.Cells.{among}
use Rattle.rules.specs.Columns.{Copy, none, one}
use Rattle.rules.specs.Caches.{Slot, vacant, find, has, gap, put_in, full_in, Cache, set_of, look, room, victim, put, held_in, lines_at, fresh}
use Rattle.rules.proofs.Sets.{times, tidy, find_absent, find-held, find-put-same, find-put_other, times-put, times-absent, full_put, has-put, length-put_in, lowest-stands, gap-removed, among-lines, empty-set, empty-full, none-full, put-find}

-- a cache in order, for a memory of so many lines
pub record Wf (lines sets : ℕ) (c : Cache) : Type 0 where
  pub sized : length c ≡ sets
  pub some : 0 < sets
  pub ways : (i : ℕ) → i < sets → 0 < length (get_or c i [])
  pub once : (i m : ℕ) → times m (get_or c i []) ≤ 1
  pub homes : (i m : ℕ) → has m (get_or c i []) ≡ true → (m < lines) × (m % sets ≡ i)

-- a copy may be put: where it is held the line has room
abbrev pub Fit : Cache → ℕ → Copy → Type 0
Fit c n x = valid x.state ≡ true → room c n ≡ true

-- a held line has room
pub look-room : (c : Cache) (n : ℕ) → valid (look c n).state ≡ true → room c n ≡ true
unfolding look room
look-room c n e = or_left (has n (set_of c n)) (gap (set_of c n)) (sym (find-held n (set_of c n)) ∙ e)

-- what a seat has, put again, changes nothing
pub put-look : (c : Cache) (n : ℕ) → put n c (look c n) ≡ c
unfolding look put
put-look c n = ap (set c (n % length c)) (put-find n (set_of c n)) ∙ set-get_or c (n % length c) []

pub length-put : (c : Cache) (n : ℕ) (x : Copy) → length (put n c x) ≡ length c
unfolding put
length-put c n x = length-set c (n % length c) (put_in n x (set_of c n))

held-set : (c : Cache) (i : ℕ) (ss : List Slot) → i < length c → held_in (set c i ss) + full_in (get_or c i []) ≡ held_in c + full_in ss
held-set [] i ss l = absurd (omega arith)
held-set (t ∷ c) zero ss l = omega arith
held-set (t ∷ c) (suc i) ss l = omega (arith, held-set c i ss (omega arith))

-- where no set has a copy, the cache has none
held_none : (c : Cache) → ((i : ℕ) → full_in (get_or c i []) ≡ 0) → held_in c ≡ 0
held_none [] h = refl
held_none (ss ∷ c) h = omega (arith, h 0, held_none c (λ i. h (suc i)))

module _ (lines sets : ℕ) (c : Cache) (wf : Wf lines sets c) where
  -- a line's set is one of them
  at : (n : ℕ) → n % length c < length c
  at n = mod-lt n (subst (λ (k : ℕ). 0 < k) (sym wf.sized) wf.some)

  -- a line that is held is one of memory's
  pub look-line : (n : ℕ) → valid (look c n).state ≡ true → n < lines
  unfolding look
  look-line n e = (wf.homes (n % length c) n (sym (find-held n (set_of c n)) ∙ e)).0

  -- what stands in a set is held, and what is listed there
  pub listed-line : (i n : ℕ) → among n (lines_at c i) ≡ true → n < lines
  unfolding lines_at
  listed-line i n e = (wf.homes i n (sym (among-lines n (get_or c i [])) ∙ e)).0

  -- every held line is listed in its set
  pub look-listed : (n : ℕ) → valid (look c n).state ≡ true → (n % sets < sets) × (among n (lines_at c (n % sets)) ≡ true)
  unfolding look lines_at
  look-listed n e = (
    mod-lt n wf.some,
    among-lines n (get_or c (n % sets) []) ∙ subst (λ (k : ℕ). has n (get_or c (n % k) []) ≡ true) wf.sized (sym (find-held n (set_of c n)) ∙ e),
  )

  -- a line that is held is listed in no other set
  pub listed-held : (i n : ℕ) → among n (lines_at c i) ≡ true → valid (look c n).state ≡ true
  unfolding look lines_at
  listed-held i n e =
      let h : has n (get_or c i []) ≡ true = sym (among-lines n (get_or c i [])) ∙ e in
      find-held n (set_of c n) ∙ subst (λ (k : ℕ). has n (get_or c k []) ≡ true) (sym (wf.homes i n h).1 ∙ ap (λ (k : ℕ). n % k) (sym wf.sized)) h

  -- where no line is held no copy is
  pub held-zero : ((n : ℕ) → valid (look c n).state ≡ false) → held_in c ≡ 0
  unfolding look
  held-zero h = held_none c (λ i. none-full (get_or c i []) (λ n. absent i n (has n (get_or c i [])) refl))
    where
      absent : (i n : ℕ) (b : Bool) → has n (get_or c i []) ≡ b → b ≡ false
      absent i n false e = refl
      absent i n true e =
          absurd (both_ways (has n (set_of c n)) (sym (find-held n (set_of c n)) ∙ h n)
          (subst (λ (k : ℕ). has n (get_or c k []) ≡ true) (sym (wf.homes i n e).1 ∙ ap (λ (k : ℕ). n % k) (sym wf.sized)) e))

  module _ (n : ℕ) (x : Copy) where
    -- the line's own set, and any other, after a copy was put
    set_same : set_of (put n c x) n ≡ put_in n x (set_of c n)
    unfolding put
    set_same =
        ap (λ (k : ℕ). get_or (set c (n % length c) (put_in n x (set_of c n))) (n % k) []) (length-set c (n % length c) (put_in n x (set_of c n)))
        ∙ get_or-set_same c (n % length c) (put_in n x (set_of c n)) [] (at n)

    pub look-put-same : Fit c n x → look (put n c x) n ≡ tidy x
    unfolding look room
    look-put-same fit =
        ap (find n) set_same ∙ find-put-same n x (set_of c n) (wf.once (n % length c) n) fit

    put-at : (i : ℕ) → get_or (put n c x) i [] ≡ cond (eqb i (n % length c)) (put_in n x (set_of c n)) (get_or c i [])
    unfolding put
    put-at i =
        ⊎_elim (λ p. rw (eq-eqb i (n % length c) p) (subst (λ (k : ℕ). get_or (set c (n % length c) (put_in n x (set_of c n))) k [] ≡ put_in n x (set_of c n)) (sym p) (get_or-set_same c (n % length c) (put_in n x (set_of c n)) [] (at n))))
        (λ p. rw (ne_eqb i (n % length c) p) (get_or-set_other c (n % length c) i (put_in n x (set_of c n)) [] p))
        (cases_eq i (n % length c))

    -- what holds of a set and of the set with the copy put holds of every set afterwards
    put-each : (P : ℕ → List Slot → Type 0) → ((i : ℕ) → P i (get_or c i [])) → P (n % length c) (put_in n x (set_of c n)) → (i : ℕ) → P i (get_or (put n c x) i [])
    put-each P old new i =
        subst (P i) (sym (put-at i))
        (⊎_elim
        (λ p. subst (λ (b : Bool). P i (cond b (put_in n x (set_of c n)) (get_or c i []))) (sym (eq-eqb i (n % length c) p)) (subst (λ (k : ℕ). P k (put_in n x (set_of c n))) (sym p) new))
        (λ p. subst (λ (b : Bool). P i (cond b (put_in n x (set_of c n)) (get_or c i []))) (sym (ne_eqb i (n % length c) p)) (old i))
        (cases_eq i (n % length c)))

    pub look-put_other : (m : ℕ) → m ≢ n → look (put n c x) m ≡ look c m
    unfolding look
    look-put_other m ne =
        ap (λ (k : ℕ). find m (get_or (put n c x) (m % k) [])) (length-put c n x)
        ∙ put-each (λ i ss. find m ss ≡ find m (get_or c i [])) (λ i. refl) (find-put_other n x m ne (set_of c n)) (m % length c)

    pub held_in-put : Fit c n x → held_in (put n c x) + one (valid (look c n).state) ≡ held_in c + one (valid x.state)
    unfolding look room put
    held_in-put fit =
        let h = held-set c (n % length c) (put_in n x (set_of c n)) (at n) in
        let f = full_put n x (set_of c n) fit in
        let e = ap one (find-held n (set_of c n)) in
        omega (arith, h, f, e)

    pub wf-put : n < lines → Wf lines sets (put n c x)
    wf-put below = record {
      sized = length-put c n x ∙ wf.sized;
      some = wf.some;
      ways = put-each (λ i ss. i < sets → 0 < length ss) wf.ways
          (λ l. subst (λ (k : ℕ). 0 < k) (sym (length-put_in n x (set_of c n))) (wf.ways (n % length c) l));
      once = put-each (λ i ss. (m : ℕ) → times m ss ≤ 1) wf.once (times-put n x (set_of c n) (wf.once (n % length c)));
      homes = put-each (λ i ss. (m : ℕ) → has m ss ≡ true → (m < lines) × (m % sets ≡ i)) wf.homes
          (λ m e. ⊎_elim
          (λ p. (subst (λ (k : ℕ). k < lines) (sym p) below, ap (λ (k : ℕ). k % sets) p ∙ ap (λ (k : ℕ). n % k) (sym wf.sized)))
          (λ h. wf.homes (n % length c) m h) (has-put n x (set_of c n) m e));
    }

  -- where there is no room for line n
  module _ (n : ℕ) (no : room c n ≡ false) where
    victim-has : has (victim c n) (set_of c n) ≡ true
    unfolding room victim
    victim-has =
        lowest-stands (set_of c n) (wf.ways (n % length c) (subst (λ (k : ℕ). n % length c < k) wf.sized (at n)))
        (or_parts (has n (set_of c n)) (gap (set_of c n)) no).1

    victim-set : victim c n % length c ≡ n % length c
    victim-set = ap (λ (k : ℕ). victim c n % k) wf.sized ∙ (wf.homes (n % length c) (victim c n) victim-has).1

    pub victim-line : victim c n < lines
    victim-line = (wf.homes (n % length c) (victim c n) victim-has).0

    pub victim-held : valid (look c (victim c n)).state ≡ true
    unfolding look
    victim-held = find-held (victim c n) (set_of c (victim c n)) ∙ subst (λ (k : ℕ). has (victim c n) (get_or c k []) ≡ true) (sym victim-set) victim-has

    pub victim-room : room (put (victim c n) c none) n ≡ true
    unfolding room
    victim-room =
        or_right (has n (set_of (put (victim c n) c none) n)) (gap (set_of (put (victim c n) c none) n))
        (subst (λ (ss : List Slot). gap ss ≡ true) (sym (ap (λ (k : ℕ). get_or (put (victim c n) c none) k []) sets-meet ∙ set_same (victim c n) none))
        (gap-removed (victim c n) (set_of c (victim c n)) (subst (λ (k : ℕ). has (victim c n) (get_or c k []) ≡ true) (sym victim-set) victim-has)))
      where
        sets-meet : n % length (put (victim c n) c none) ≡ victim c n % length (put (victim c n) c none)
        sets-meet = ap (λ (k : ℕ). n % k) (length-put c (victim c n) none) ∙ sym victim-set ∙ ap (λ (k : ℕ). victim c n % k) (sym (length-put c (victim c n) none))

    pub victim-other : n ≢ victim c n
    unfolding room
    victim-other e =
        both_ways (has n (set_of c n)) (or_parts (has n (set_of c n)) (gap (set_of c n)) no).0
        (subst (λ (k : ℕ). has k (set_of c n) ≡ true) (sym e) victim-has)

-- an empty cache
fresh_set : (sets ways i : ℕ) → (P : List Slot → Type 0) → P [] → P (replicate ways vacant) → P (get_or (fresh sets ways) i [])
fresh_set sets ways i P p q =
    ⊎_elim (λ l. subst P (sym (get_or-replicate sets i (replicate ways vacant) [] l)) q)
    (λ l. subst P (sym (get_or_past (fresh sets ways) i [] (subst (λ (k : ℕ). k ≤ i) (sym (length-replicate sets (replicate ways vacant))) l))) p)
    (cases_lt i sets)

pub fresh-wf : (lines sets ways : ℕ) → 0 < sets → 0 < ways → Wf lines sets (fresh sets ways)
fresh-wf lines sets ways s w = record {
  sized = length-replicate sets (replicate ways vacant);
  some = s;
  ways = λ i l. subst (λ (ss : List Slot). 0 < length ss) (sym (get_or-replicate sets i (replicate ways vacant) [] l)) (subst (λ (k : ℕ). 0 < k) (sym (length-replicate ways vacant)) w);
  once = λ i m. fresh_set sets ways i (λ ss. times m ss ≤ 1) (omega arith) (omega (arith, times-absent m (replicate ways vacant) (empty-set ways m)));
  homes = λ i m e. absurd (both_ways (has m (get_or (fresh sets ways) i [])) (fresh_set sets ways i (λ ss. has m ss ≡ false) refl (empty-set ways m)) e);
}

pub fresh-look : (sets ways n : ℕ) → look (fresh sets ways) n ≡ none
unfolding look
fresh-look sets ways n = find_absent n (set_of (fresh sets ways) n) (fresh_set sets ways (n % length (fresh sets ways)) (λ ss. has n ss ≡ false) refl (empty-set ways n))

pub fresh-held : (sets ways : ℕ) → held_in (fresh sets ways) ≡ 0
fresh-held sets ways = held_none (fresh sets ways) (λ i. fresh_set sets ways i (λ ss. full_in ss ≡ 0) refl (empty-full ways))
