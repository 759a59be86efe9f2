-- What a change of one place is to the rules: a line placed, written, let go, or one that has reacted.
use Rattle.std.proofs.Common.{◌≡◌, ℕ, ◌%◌, ◌<◌, ◌≤◌, true, false, ◌||◌, eqb, List, [], ◌∷◌, length, get_or, set, sym, refl, ap, ◌∙◌, subst, ⊎_elim, arith}
use Rattle.std.proofs.lemmas.Bool.{cases_Bool, eq-eqb, ne_eqb, eqb-true, and_left, and_right, and_from, and_parts, false≢true, or_right}
use Rattle.std.proofs.lemmas.List.{get_or-set_same, length-set, set-get_or}
use Rattle.protocol.specs.declared.state.State.{State}
use Rattle.protocol.specs.declared.state.State.TheVariants.{Invalid}
use Rattle.protocol.specs.States.{valid}
use Rattle.rules.specs.Columns.{Copy, kept, none, state_at, words_at}
use Rattle.rules.specs.Caches.{Slot, Cache, has, gap, put_in, set_of, look, room, put}
use Rattle.rules.specs.Machines.{copies_of, put_each}
use Rattle.rules.proofs.Caches.{look-room}
use Rattle.rules.proofs.Machines.{column-at, put_each-same, put_each-one}
use Rattle.caches.specs.declared.line.CacheLine.{CacheLine}
use Rattle.caches.specs.declared.table.Caches.{Caches}
use Rattle.caches.specs.declared.heard.Heard.{Heard}
use Rattle.caches.specs.Lines.{blank, copy_of, slot_of, Wide, Homed}
use Rattle.caches.specs.Hearing.{reaction}
use Rattle.caches.specs.Views.{table_view, caches_of}
use Rattle.caches.proofs.Places.{slot, stands_in, place_in, place-lt, caches-long, cache-sets, single, changed, put-room, put-stands, put-absent, put-caches, put-copies, look-absent, rows-set, wide-set, homed-set}
use Rattle.caches.proofs.Finds.{state-at, not_valid, held-stands, held-look, held-words, room-ways}

-- a place with a tag, a state and words, as a way of a set
slot_is : (q : CacheLine) (n : ℕ) (t : State) (w : List ℕ) → q.tag ≡ n → q.state ≡ t → q.words ≡ w → slot_of q ≡ slot n (kept t w)
slot_is q n t w e f g =
    ap (λ (m : ℕ). slot m (kept q.state q.words)) e ∙ ap (λ (u : State). slot n (kept u q.words)) f ∙ ap (λ (v : List ℕ). slot n (kept t v)) g

-- the table with one place changed
abbrev pub with_place : Caches → (k i : ℕ) → CacheLine → List (List CacheLine)
with_place s k i q = set s.table k (set (get_or s.table k []) i q)

-- the bounds that the table keeps, where one place changes
pub record Bounds (sets : ℕ) (table : List (List CacheLine)) : Type 0 where
  pub rows : length table ≡ 8
  pub wide : Wide table
  pub homed : Homed sets table

pub bounds : (s : Caches) (k : ℕ) → k < s.agreed.seats → (i : ℕ) → i < s.agreed.sets → (q : CacheLine) → (valid q.state ≡ true → q.tag % s.agreed.sets ≡ i) → Bounds s.agreed.sets (with_place s k i q)
bounds s k on i l q home =
    let f : s.agreed.seats ≤ 8 = s.agreed.few in
    let r : length s.table ≡ 8 = s.rows in
    let n : s.agreed.sets ≤ 64 = s.agreed.few_sets in
    let w : length (get_or s.table k []) ≡ 64 = s.wide k (omega arith) in
    record {
      rows = rows-set s.table k i q s.rows;
      wide = wide-set s.table k i q s.rows s.wide;
      homed = homed-set s.table k i q s.agreed.sets (omega arith) (omega arith) home s.homed;
    }

-- one seat's copy of a line is this one now: the caches, and the copies of the line
pub record Put (s : Caches) (k n : ℕ) (x : Copy) (cs : List Cache) : Type 0 where
  pub caches : cs ≡ put_each n (caches_of s) (set (copies_of n (caches_of s)) k x)
  pub copies : copies_of n cs ≡ set (copies_of n (caches_of s)) k x

module _ (s : Caches) (k : ℕ) (on : k < s.agreed.seats) (n i : ℕ) (here : i ≡ n % s.agreed.sets) where
  here_lt : i < s.agreed.sets
  here_lt = subst (λ (m : ℕ). m < s.agreed.sets) (sym here) (place-lt s n)

  -- a place of the line's own is in its set
  pub own_home : (q : CacheLine) → q.tag ≡ n → q.tag % s.agreed.sets ≡ i
  own_home q e = ap (λ (m : ℕ). m % s.agreed.sets) e ∙ sym here

  putting : (q : CacheLine) (t : State) (w : List ℕ) → slot_of q ∷ [] ≡ put_in n (kept t w) (slot_of (get_or (get_or s.table k []) i blank) ∷ []) →
      (valid t ≡ true → room (get_or (caches_of s) k []) n ≡ true) → Put s k n (kept t w) (table_view s.agreed.seats s.agreed.sets (with_place s k i q))
  putting q t w e fit =
      let p = put-caches s k on n i here q (kept t w) e in
      record { caches = p; copies = ap (copies_of n) p ∙ put-copies s k on n t w fit }

  -- a line is placed where there is room
  pub placed : (t : State) (w : List ℕ) → valid t ≡ true → room (get_or (caches_of s) k []) n ≡ true →
      Put s k n (kept t w) (table_view s.agreed.seats s.agreed.sets (with_place s k i (record { state = t; tag = n; words = w })))
  placed t w v free =
      putting (record { state = t; tag = n; words = w }) t w
      (sym (put-room n (get_or (get_or s.table k []) i blank) (kept t w) (sym (room-ways s k on n i here) ∙ free) v))
      (λ _. free)

  pub held-tag : valid (state_at (copies_of n (caches_of s)) k) ≡ true → (get_or (get_or s.table k []) i blank).tag ≡ n
  held-tag v =
      let p = get_or (get_or s.table k []) i blank in
      eqb-true p.tag n (and_parts (eqb p.tag n) (valid p.state) (held-stands s k on n i here v)).0

  held-room : valid (state_at (copies_of n (caches_of s)) k) ≡ true → room (get_or (caches_of s) k []) n ≡ true
  held-room v = look-room (get_or (caches_of s) k []) n (ap valid (sym (state-at s k on n)) ∙ v)

  -- a held copy takes a state and a word
  pub rewritten : (q : CacheLine) (t : State) (o v : ℕ) → valid (state_at (copies_of n (caches_of s)) k) ≡ true →
      q.tag ≡ (get_or (get_or s.table k []) i blank).tag → q.state ≡ t → q.words ≡ set (get_or (get_or s.table k []) i blank).words o v →
      Put s k n (kept t (set (words_at (copies_of n (caches_of s)) k) o v)) (table_view s.agreed.seats s.agreed.sets (with_place s k i q))
  rewritten q t o v held tag state words =
      let w = set (words_at (copies_of n (caches_of s)) k) o v in
      putting q t w
      (ap (λ (a : Slot). a ∷ [])
      (slot_is q n t w (tag ∙ held-tag held) state
      (words ∙ ap (λ (u : List ℕ). set u o v) (held-words s k on n i here held)))
      ∙ sym (put-stands n (get_or (get_or s.table k []) i blank) (kept t w) (held-stands s k on n i here held)))
      (λ _. held-room held)

  -- the place's copy goes
  pub let_go : (get_or (get_or s.table k []) i blank).tag ≡ n →
      Put s k n none (table_view s.agreed.seats s.agreed.sets (with_place s k i (record { state = Invalid; tag = (get_or (get_or s.table k []) i blank).tag; words = (get_or (get_or s.table k []) i blank).words })))
  let_go tag =
      let p = get_or (get_or s.table k []) i blank in
      let q : CacheLine = record { state = Invalid; tag = p.tag; words = p.words } in
      putting q Invalid []
      (⊎_elim
      (λ (v : valid p.state ≡ true).
      ap (λ (m : ℕ). slot m none ∷ []) tag ∙ sym (put-stands n p none (and_from (eqb p.tag n) (valid p.state) (eq-eqb p.tag n tag) v)))
      (λ (v : valid p.state ≡ false).
      ap (λ (t : State). slot p.tag (kept t p.words) ∷ []) (sym (not_valid p.state v))
      ∙ sym (put-absent n p none (and_right (eqb p.tag n) (valid p.state) v) refl))
      (cases_Bool (valid p.state)))
      (λ e. absurd (false≢true e))

  -- no copy stands there, and nothing changes
  pub not_there : ((get_or (get_or s.table k []) i blank).tag ≡ n → ⊥) → Put s k n none (caches_of s)
  not_there ne =
      let p = place_in s k n in
      let q = get_or (get_or s.table k []) i blank in
      let same : q ≡ p = ap (λ (j : ℕ). get_or (get_or s.table k []) j blank) here in
      let absent : look (get_or (caches_of s) k []) n ≡ none =
      look-absent s k on n (and_left (eqb p.tag n) (valid p.state) (ne_eqb p.tag n (λ e. ne (ap (λ (r : CacheLine). r.tag) same ∙ e))))
      in
      let e : copies_of n (caches_of s) ≡ set (copies_of n (caches_of s)) k none =
      sym (set-get_or (copies_of n (caches_of s)) k none) ∙ ap (set (copies_of n (caches_of s)) k) (column-at n (caches_of s) k ∙ absent)
      in
      record { caches = sym (put_each-same n (caches_of s)) ∙ ap (put_each n (caches_of s)) e; copies = e }

  pub not-held : ((get_or (get_or s.table k []) i blank).tag ≡ n → ⊥) → valid (state_at (copies_of n (caches_of s)) k) ≡ true → ⊥
  not-held ne v = ne (held-tag v)

  -- where a copy went there is room for any line of its set
  freed : (cs : List Cache) → cs ≡ set (caches_of s) k (put n (get_or (caches_of s) k []) none) → valid (state_at (copies_of n (caches_of s)) k) ≡ true →
      (m : ℕ) → m % s.agreed.sets ≡ n % s.agreed.sets → room (get_or cs k []) m ≡ true
  unfolding room put
  freed cs e held m same =
      let c = get_or (caches_of s) k [] in
      let long : length c ≡ s.agreed.sets = cache-sets s k on in
      let seats : length (caches_of s) ≡ s.agreed.seats = caches-long s in
      let p = get_or (get_or s.table k []) i blank in
      let w = put_in n none (set_of c n) in
      let below : n % length c < length c = subst (λ (j : ℕ). n % j < j) (sym long) (place-lt s n) in
      let gone : w ≡ slot n none ∷ [] =
      ap (put_in n none) (single s k on n ∙ ap (λ (j : ℕ). slot_of (get_or (get_or s.table k []) j blank) ∷ []) (sym here))
      ∙ put-stands n p none (held-stands s k on n i here held)
      in
      let size : m % length (set c (n % length c) w) ≡ n % length c =
      ap (λ (j : ℕ). m % j) (length-set c (n % length c) w ∙ long) ∙ same ∙ ap (λ (j : ℕ). n % j) (sym long)
      in
      ap (λ (d : Cache). has m (set_of d m) || gap (set_of d m)) (ap (λ (ds : List Cache). get_or ds k []) e ∙ get_or-set_same (caches_of s) k (set c (n % length c) w) [] (omega arith))
      ∙ ap (λ (ss : List Slot). has m ss || gap ss) (ap (λ (j : ℕ). get_or (set c (n % length c) w) j []) size ∙ get_or-set_same c (n % length c) w [] below ∙ gone)
      ∙ or_right (has m (slot n none ∷ [])) true refl

  pub room-freed : (cs : List Cache) → Put s k n none cs → valid (state_at (copies_of n (caches_of s)) k) ≡ true →
      (m : ℕ) → m % s.agreed.sets ≡ n % s.agreed.sets → room (get_or cs k []) m ≡ true
  room-freed cs p = freed cs (p.caches ∙ put_each-one n k (caches_of s) none)

  -- a held copy has reacted
  pub heeding : (q : CacheLine) (c : ℕ → ℕ) (h : Heard) → stands_in n (get_or (get_or s.table k []) i blank) ≡ true →
      q.tag ≡ (get_or (get_or s.table k []) i blank).tag → copy_of q ≡ reaction c h (copy_of (get_or (get_or s.table k []) i blank)) →
      table_view s.agreed.seats s.agreed.sets (with_place s k i q) ≡ set (caches_of s) k (put n (get_or (caches_of s) k []) (reaction c h (look (get_or (caches_of s) k []) n)))
  heeding q c h stands tag e =
      let p = get_or (get_or s.table k []) i blank in
      let x = reaction c h (look (get_or (caches_of s) k []) n) in
      let named : p.tag ≡ n = eqb-true p.tag n (and_parts (eqb p.tag n) (valid p.state) stands).0 in
      changed s k on n i here q x
      (ap (λ (m : ℕ). slot m (copy_of q) ∷ []) (tag ∙ named)
      ∙ ap (λ (y : Copy). slot n y ∷ []) (e ∙ ap (reaction c h) (sym (held-look s k on n i here stands)))
      ∙ sym (put-stands n p x stands))
