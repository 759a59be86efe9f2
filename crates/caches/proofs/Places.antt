-- One place of the table and the cache that the rules see: what stands there, and what a change of it is to them.
use Rattle.std.proofs.Common.{◌≡◌, ℕ, zero, suc, ◌+◌, ◌%◌, ◌<◌, ◌≤◌, Bool, true, false, cond, not, ◌&&◌, ◌||◌, eqb, List, [], ◌∷◌, map, length, get_or, take, set, sym, refl, ap, ◌∙◌, subst, ⊎_elim, mod-lt, arith}
use Rattle.std.proofs.lemmas.Bool.{cases_eq, cond-true, cond-false, false≢true}
use Rattle.std.proofs.lemmas.List.{map-set, length-map, length-take-le, get_or-map, get_or-take, get_or-set_same, get_or-set_other, length-set}
use Rattle.protocol.specs.declared.state.State.{State}
use Rattle.protocol.specs.declared.state.State.TheVariants.{Invalid, Shared, Exclusive, Owned, Modified}
use Rattle.protocol.specs.States.{valid}
use Rattle.rules.specs.Columns.{Copy, kept, none, one}
use Rattle.rules.specs.Caches.{Slot, Cache, stands, full, find, has, gap, put_in, set_of, look, room, put}
use Rattle.rules.specs.Machines.{copies_of, put_each}
use Rattle.rules.proofs.Sets.{times, tidy, find-put-same}
use Rattle.rules.proofs.Machines.{put_each-one}
use Rattle.caches.specs.declared.line.CacheLine.{CacheLine}
use Rattle.caches.specs.declared.table.Caches.{Caches}
use Rattle.caches.specs.Lines.{blank, copy_of, slot_of, Wide, Homed}
use Rattle.caches.specs.Views.{row_view, table_view, caches_of}

-- a way of a set, with line n and its copy
abbrev pub slot : ℕ → Copy → Slot
slot n x = record { tag = n; copy = x }

-- what putting a copy into one way gives: the line stands there or not, the way is full or not, the copy is valid or not
put-new : (b f v : Bool) (new old : List Slot) → ((b || false) || (not f || false)) ≡ true → v ≡ true →
    cond (b || false) (cond b new old) (cond v (cond f old new) old) ≡ new
put-new true f v new old e h = refl
put-new false true v new old e h = absurd (false≢true e)
put-new false false true new old e h = refl
put-new false false false new old e h = absurd (false≢true h)

put-there : (b f v : Bool) (new old : List Slot) → b ≡ true → cond (b || false) (cond b new old) (cond v (cond f old new) old) ≡ new
put-there true f v new old e = refl
put-there false f v new old e = absurd (false≢true e)

put-away : (b f v : Bool) (new old : List Slot) → b ≡ false → v ≡ false → cond (b || false) (cond b new old) (cond v (cond f old new) old) ≡ old
put-away true f v new old e h = absurd (false≢true (sym e))
put-away false f true new old e h = absurd (false≢true (sym h))
put-away false f false new old e h = refl

-- line n stands in the place
abbrev pub stands_in : ℕ → CacheLine → Bool
stands_in n p = eqb p.tag n && valid p.state

module _ (n : ℕ) (p : CacheLine) (x : Copy) where
  -- there is room, and the line takes the place
  pub put-room : (has n (slot_of p ∷ []) || gap (slot_of p ∷ [])) ≡ true → valid x.state ≡ true → put_in n x (slot_of p ∷ []) ≡ slot n x ∷ []
  put-room e h = put-new (stands n (slot_of p)) (full (slot_of p)) (valid x.state) (slot n x ∷ []) (slot_of p ∷ []) e h

  -- where the line stands its copy is replaced
  pub put-stands : stands_in n p ≡ true → put_in n x (slot_of p ∷ []) ≡ slot n x ∷ []
  put-stands e = put-there (stands n (slot_of p)) (full (slot_of p)) (valid x.state) (slot n x ∷ []) (slot_of p ∷ []) e

  -- where it does not stand, no copy changes nothing
  pub put-absent : stands_in n p ≡ false → valid x.state ≡ false → put_in n x (slot_of p ∷ []) ≡ slot_of p ∷ []
  put-absent e h = put-away (stands n (slot_of p)) (full (slot_of p)) (valid x.state) (slot n x ∷ []) (slot_of p ∷ []) e h

-- a copy that is kept is tidy
pub tidy-kept : (t : State) (w : List ℕ) → tidy (kept t w) ≡ kept t w
tidy-kept Invalid w = refl
tidy-kept Shared w = refl
tidy-kept Exclusive w = refl
tidy-kept Owned w = refl
tidy-kept Modified w = refl

one_way : (b : Bool) → one b + 0 ≤ 1
one_way true = omega arith
one_way false = omega arith

take-set_in : {X : Type 0} (n : ℕ) (xs : List X) (i : ℕ) (x : X) → take n (set xs i x) ≡ set (take n xs) i x
take-set_in zero xs i x = refl
take-set_in (suc n) [] i x = refl
take-set_in (suc n) (y ∷ ys) zero x = refl
take-set_in (suc n) (y ∷ ys) (suc i) x = ap (λ zs. y ∷ zs) (take-set_in n ys i x)

module _ (sets : ℕ) (row : List CacheLine) where
  row-set : (i : ℕ) (p : CacheLine) → row_view sets (set row i p) ≡ set (row_view sets row) i (slot_of p ∷ [])
  row-set i p =
      ap (map (λ (q : CacheLine). slot_of q ∷ [])) (take-set_in sets row i p) ∙ map-set (λ (q : CacheLine). slot_of q ∷ []) (take sets row) i p

  row-length : sets ≤ length row → length (row_view sets row) ≡ sets
  row-length h = length-map (take sets row) (λ (q : CacheLine). slot_of q ∷ []) ∙ length-take-le sets row h

  row_at : (i : ℕ) → i < sets → sets ≤ length row → get_or (row_view sets row) i [] ≡ slot_of (get_or row i blank) ∷ []
  row_at i l h =
      let long : length (take sets row) ≡ sets = length-take-le sets row h in
      get_or-map (λ (q : CacheLine). slot_of q ∷ []) (take sets row) i blank [] (omega arith)
      ∙ ap (λ (q : CacheLine). slot_of q ∷ []) (get_or-take sets row i blank l)

table-set : (seats sets : ℕ) (table : List (List CacheLine)) (k : ℕ) (row : List CacheLine) →
    table_view seats sets (set table k row) ≡ set (table_view seats sets table) k (row_view sets row)
table-set seats sets table k row = ap (map (row_view sets)) (take-set_in seats table k row) ∙ map-set (row_view sets) (take seats table) k row

-- the place of line n in seat k's row
abbrev pub place_in : Caches → (k n : ℕ) → CacheLine
place_in s k n = get_or (get_or s.table k []) (n % s.agreed.sets) blank

module _ (s : Caches) where
  viewed : table_view s.agreed.seats s.agreed.sets s.table ≡ caches_of s
  unfolding caches_of
  viewed = refl

  pub caches-long : length (caches_of s) ≡ s.agreed.seats
  unfolding caches_of
  caches-long =
      let f : s.agreed.seats ≤ 8 = s.agreed.few in
      let r : length s.table ≡ 8 = s.rows in
      length-map (take s.agreed.seats s.table) (row_view s.agreed.sets) ∙ length-take-le s.agreed.seats s.table (omega arith)

  pub place-lt : (n : ℕ) → n % s.agreed.sets < s.agreed.sets
  place-lt n = let h : 0 < s.agreed.sets = s.agreed.some_sets in mod-lt n h

  module _ (k : ℕ) (on : k < s.agreed.seats) where
    row-long : length (get_or s.table k []) ≡ 64
    row-long = let f : s.agreed.seats ≤ 8 = s.agreed.few in s.wide k (omega arith)

    row-wide : s.agreed.sets ≤ length (get_or s.table k [])
    row-wide = let e = row-long in let n : s.agreed.sets ≤ 64 = s.agreed.few_sets in omega arith

    seat-on : k < length (take s.agreed.seats s.table)
    seat-on =
        let f : s.agreed.seats ≤ 8 = s.agreed.few in
        let r : length s.table ≡ 8 = s.rows in
        let e = length-take-le s.agreed.seats s.table (omega arith) in
        omega arith

    cache-at : get_or (caches_of s) k [] ≡ row_view s.agreed.sets (get_or s.table k [])
    unfolding caches_of
    cache-at =
        get_or-map (row_view s.agreed.sets) (take s.agreed.seats s.table) k [] [] seat-on
        ∙ ap (row_view s.agreed.sets) (get_or-take s.agreed.seats s.table k [] on)

    pub cache-sets : length (get_or (caches_of s) k []) ≡ s.agreed.sets
    cache-sets = ap length cache-at ∙ row-length s.agreed.sets (get_or s.table k []) row-wide

    -- a set has one way
    pub single-at : (i : ℕ) → i < s.agreed.sets → get_or (get_or (caches_of s) k []) i [] ≡ slot_of (get_or (get_or s.table k []) i blank) ∷ []
    single-at i l = ap (λ (c : Cache). get_or c i []) cache-at ∙ row_at s.agreed.sets (get_or s.table k []) i l row-wide

    pub single : (n : ℕ) → set_of (get_or (caches_of s) k []) n ≡ slot_of (place_in s k n) ∷ []
    single n =
        ap (λ (m : ℕ). get_or (get_or (caches_of s) k []) (n % m) []) cache-sets ∙ single-at (n % s.agreed.sets) (place-lt n)

    -- the copy of a line
    pub look-place : (n : ℕ) → look (get_or (caches_of s) k []) n ≡ cond (stands_in n (place_in s k n)) (copy_of (place_in s k n)) none
    unfolding look
    look-place n = ap (find n) (single n)

    pub look-stands : (n : ℕ) → stands_in n (place_in s k n) ≡ true → look (get_or (caches_of s) k []) n ≡ copy_of (place_in s k n)
    look-stands n e = look-place n ∙ cond-true (stands_in n (place_in s k n)) (copy_of (place_in s k n)) none e

    pub look-absent : (n : ℕ) → stands_in n (place_in s k n) ≡ false → look (get_or (caches_of s) k []) n ≡ none
    look-absent n e = look-place n ∙ cond-false (stands_in n (place_in s k n)) (copy_of (place_in s k n)) none e

    put_is : (n : ℕ) (q : CacheLine) (x : Copy) → slot_of q ∷ [] ≡ put_in n x (slot_of (place_in s k n) ∷ []) →
        put n (get_or (caches_of s) k []) x ≡ set (get_or (caches_of s) k []) (n % s.agreed.sets) (slot_of q ∷ [])
    unfolding put
    put_is n q x e =
        ap (λ (m : ℕ). set (get_or (caches_of s) k []) (n % m) (put_in n x (set_of (get_or (caches_of s) k []) n))) cache-sets
        ∙ ap (λ (ss : List Slot). set (get_or (caches_of s) k []) (n % s.agreed.sets) (put_in n x ss)) (single n)
        ∙ ap (λ (ss : List Slot). set (get_or (caches_of s) k []) (n % s.agreed.sets) ss) (sym e)

    -- a place changes, and one copy with it
    changed₀ : (n : ℕ) (q : CacheLine) (x : Copy) → slot_of q ∷ [] ≡ put_in n x (slot_of (place_in s k n) ∷ []) →
        table_view s.agreed.seats s.agreed.sets (set s.table k (set (get_or s.table k []) (n % s.agreed.sets) q)) ≡ set (caches_of s) k (put n (get_or (caches_of s) k []) x)
    changed₀ n q x e =
        table-set s.agreed.seats s.agreed.sets s.table k (set (get_or s.table k []) (n % s.agreed.sets) q)
        ∙ ap (λ (cs : List Cache). set cs k (row_view s.agreed.sets (set (get_or s.table k []) (n % s.agreed.sets) q))) viewed
        ∙ ap (set (caches_of s) k)
        (row-set s.agreed.sets (get_or s.table k []) (n % s.agreed.sets) q
        ∙ ap (λ (c : Cache). set c (n % s.agreed.sets) (slot_of q ∷ [])) (sym cache-at)
        ∙ sym (put_is n q x e))

    pub changed : (n i : ℕ) → i ≡ n % s.agreed.sets → (q : CacheLine) (x : Copy) → slot_of q ∷ [] ≡ put_in n x (slot_of (get_or (get_or s.table k []) i blank) ∷ []) →
        table_view s.agreed.seats s.agreed.sets (set s.table k (set (get_or s.table k []) i q)) ≡ set (caches_of s) k (put n (get_or (caches_of s) k []) x)
    changed n i e q x h =
        subst
        (λ (j : ℕ). table_view s.agreed.seats s.agreed.sets (set s.table k (set (get_or s.table k []) j q)) ≡ set (caches_of s) k (put n (get_or (caches_of s) k []) x))
        (sym e) (changed₀ n q x (h ∙ ap (λ (j : ℕ). put_in n x (slot_of (get_or (get_or s.table k []) j blank) ∷ [])) e))

    -- what is put is found again
    pub look-put : (n : ℕ) (t : State) (w : List ℕ) → (valid t ≡ true → room (get_or (caches_of s) k []) n ≡ true) →
        look (put n (get_or (caches_of s) k []) (kept t w)) n ≡ kept t w
    unfolding look put room
    look-put n t w fit =
        let c = get_or (caches_of s) k [] in
        let x = kept t w in
        let long : length (set c (n % length c) (put_in n x (set_of c n))) ≡ length c = length-set c (n % length c) (put_in n x (set_of c n)) in
        let below : n % length c < length c =
        subst (λ (m : ℕ). n % m < m) (sym cache-sets) (place-lt n)
        in
        let once : times n (set_of c n) ≤ 1 = subst (λ (ss : List Slot). times n ss ≤ 1) (sym (single n)) (one_way (stands n (slot_of (place_in s k n)))) in
        ap (λ (m : ℕ). find n (get_or (set c (n % length c) (put_in n x (set_of c n))) (n % m) [])) long
        ∙ ap (find n) (get_or-set_same c (n % length c) (put_in n x (set_of c n)) [] below)
        ∙ find-put-same n x (set_of c n) once fit
        ∙ tidy-kept t w

    -- one seat's copy is put: the caches then, and the copies of the line
    pub put-caches : (n i : ℕ) → i ≡ n % s.agreed.sets → (q : CacheLine) (x : Copy) → slot_of q ∷ [] ≡ put_in n x (slot_of (get_or (get_or s.table k []) i blank) ∷ []) →
        table_view s.agreed.seats s.agreed.sets (set s.table k (set (get_or s.table k []) i q)) ≡ put_each n (caches_of s) (set (copies_of n (caches_of s)) k x)
    put-caches n i e q x h = changed n i e q x h ∙ sym (put_each-one n k (caches_of s) x)

    pub put-copies : (n : ℕ) (t : State) (w : List ℕ) → (valid t ≡ true → room (get_or (caches_of s) k []) n ≡ true) →
        copies_of n (put_each n (caches_of s) (set (copies_of n (caches_of s)) k (kept t w))) ≡ set (copies_of n (caches_of s)) k (kept t w)
    put-copies n t w fit =
        ap (copies_of n) (put_each-one n k (caches_of s) (kept t w))
        ∙ map-set (λ (c : Cache). look c n) (caches_of s) k (put n (get_or (caches_of s) k []) (kept t w))
        ∙ ap (set (copies_of n (caches_of s)) k) (look-put n t w fit)

-- the bounds of the table, after one place has changed
module _ (table : List (List CacheLine)) (k i : ℕ) (q : CacheLine) where
  pub rows-set : length table ≡ 8 → length (set table k (set (get_or table k []) i q)) ≡ 8
  rows-set e = length-set table k (set (get_or table k []) i q) ∙ e

  pub wide-set : length table ≡ 8 → Wide table → Wide (set table k (set (get_or table k []) i q))
  wide-set e wide j l =
      ⊎_elim
      (λ (same : j ≡ k). let at : j < length table = omega arith in
      ap length (subst (λ (m : ℕ). get_or (set table k (set (get_or table k []) i q)) m [] ≡ set (get_or table k []) i q) (sym same) (get_or-set_same table k (set (get_or table k []) i q) [] (subst (λ (m : ℕ). m < length table) same at)))
      ∙ length-set (get_or table k []) i q ∙ ap (λ (m : ℕ). length (get_or table m [])) (sym same) ∙ wide j l)
      (λ (other : j ≡ k → ⊥). ap length (get_or-set_other table k j (set (get_or table k []) i q) [] other) ∙ wide j l)
      (cases_eq j k)

  -- a place read after the change
  pub read_back : k < length table → i < length (get_or table k []) → get_or (get_or (set table k (set (get_or table k []) i q)) k []) i blank ≡ q
  read_back l m =
      ap (λ (row : List CacheLine). get_or row i blank) (get_or-set_same table k (set (get_or table k []) i q) [] l)
      ∙ get_or-set_same (get_or table k []) i q blank m

  read_other : (j h : ℕ) → (j ≡ k → h ≡ i → ⊥) → k < length table → get_or (get_or (set table k (set (get_or table k []) i q)) j []) h blank ≡ get_or (get_or table j []) h blank
  read_other j h ne l =
      ⊎_elim
      (λ (same : j ≡ k).
      subst (λ (m : ℕ). get_or (get_or (set table k (set (get_or table k []) i q)) m []) h blank ≡ get_or (get_or table m []) h blank) (sym same)
      (ap (λ (row : List CacheLine). get_or row h blank) (get_or-set_same table k (set (get_or table k []) i q) [] l)
      ∙ get_or-set_other (get_or table k []) i h q blank (ne same)))
      (λ (other : j ≡ k → ⊥). ap (λ (row : List CacheLine). get_or row h blank) (get_or-set_other table k j (set (get_or table k []) i q) [] other))
      (cases_eq j k)

  pub homed-set : (sets : ℕ) → k < length table → i < length (get_or table k []) → (valid q.state ≡ true → q.tag % sets ≡ i) → Homed sets table →
      Homed sets (set table k (set (get_or table k []) i q))
  homed-set sets l m home homed j h v =
      ⊎_elim
      (λ (same : j ≡ k).
      ⊎_elim
      (λ (here : h ≡ i).
      let p : get_or (get_or (set table k (set (get_or table k []) i q)) j []) h blank ≡ q =
      subst (λ (a : ℕ). get_or (get_or (set table k (set (get_or table k []) i q)) a []) h blank ≡ q) (sym same)
      (subst (λ (b : ℕ). get_or (get_or (set table k (set (get_or table k []) i q)) k []) b blank ≡ q) (sym here) (read_back l m))
      in
      ap (λ (r : CacheLine). r.tag % sets) p ∙ home (ap (λ (r : CacheLine). valid r.state) (sym p) ∙ v) ∙ sym here)
      (λ (other : h ≡ i → ⊥). old j h (λ _. other) v)
      (cases_eq h i))
      (λ (other : j ≡ k → ⊥). old j h (λ e _. other e) v)
      (cases_eq j k)
    where
      old : (j h : ℕ) → (j ≡ k → h ≡ i → ⊥) → valid (get_or (get_or (set table k (set (get_or table k []) i q)) j []) h blank).state ≡ true → (get_or (get_or (set table k (set (get_or table k []) i q)) j []) h blank).tag % sets ≡ h
      old j h ne v =
          let p = read_other j h ne l in
          ap (λ (r : CacheLine). r.tag % sets) p ∙ homed j h (ap (λ (r : CacheLine). valid r.state) (sym p) ∙ v)
