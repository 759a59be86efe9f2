-- What a place tells of the seat's copy of a line, and of its set.
use Rattle.std.proofs.Common.{IfSome, Some, None, Option, ◌≡◌, ℕ, ◌%◌, ◌<◌, Bool, true, false, cond, not, ◌&&◌, ◌||◌, eqb, List, [], ◌∷◌, get_or, sym, refl, ap, ◌∙◌, ⊎_elim}
use Rattle.std.specs.Bool.{then_some}
use Rattle.std.specs.Option.{option_to_list}
use Rattle.std.proofs.lemmas.Bool.{cases_Bool, cond-true, eq-eqb, ne_eqb, and_left, and_parts, both_ways, false≢true}
use Rattle.protocol.specs.declared.state.State.{State}
use Rattle.protocol.specs.declared.state.State.TheVariants.{Invalid, Shared, Exclusive, Owned, Modified}
use Rattle.protocol.specs.States.{valid}
use Rattle.rules.specs.Columns.{Copy, kept, none, state_at, words_at}
use Rattle.rules.specs.Caches.{Slot, has, gap, lowest, lines_of, look, room, victim, lines_at}
use Rattle.rules.specs.Machines.{copies_of}
use Rattle.rules.proofs.Machines.{column-at}
use Rattle.caches.specs.declared.line.CacheLine.{CacheLine}
use Rattle.caches.specs.declared.table.Caches.{Caches}
use Rattle.caches.specs.Lines.{blank, copy_of, slot_of}
use Rattle.caches.specs.Views.{caches_of}
use Rattle.caches.proofs.Places.{stands_in, place_in, single, single-at, look-place, look-stands, look-absent}

-- the state of a seat's copy, told in both ways
pub record StateIs (s : Caches) (k n : ℕ) (t : State) : Type 0 where
  pub value : t ≡ state_at (copies_of n (caches_of s)) k
  pub seat : t ≡ (look (get_or (caches_of s) k []) n).state

-- a copy that is not valid is Invalid
pub not_valid : (t : State) → valid t ≡ false → t ≡ Invalid
not_valid Invalid e = refl
not_valid Shared e = absurd (false≢true (sym e))
not_valid Exclusive e = absurd (false≢true (sym e))
not_valid Owned e = absurd (false≢true (sym e))
not_valid Modified e = absurd (false≢true (sym e))

found-state : (t : State) (w : List ℕ) (b : Bool) → b ≡ true → (cond (b && valid t) (kept t w) none).state ≡ t
found-state Invalid w true e = refl
found-state Shared w true e = refl
found-state Exclusive w true e = refl
found-state Owned w true e = refl
found-state Modified w true e = refl
found-state t w false e = absurd (false≢true e)

-- one way has room unless another line stands there, by its tag and whether it is full
room-one : (a v : Bool) → (((a && v) || false) || (not v || false)) ≡ not (not a && v)
room-one true true = refl
room-one true false = refl
room-one false true = refl
room-one false false = refl

module _ (s : Caches) (k : ℕ) (on : k < s.agreed.seats) (n : ℕ) where
  -- one seat of the column
  pub state-at : state_at (copies_of n (caches_of s)) k ≡ (look (get_or (caches_of s) k []) n).state
  state-at = ap (λ (x : Copy). x.state) (column-at n (caches_of s) k)

  pub words-at : words_at (copies_of n (caches_of s)) k ≡ (look (get_or (caches_of s) k []) n).words
  words-at = ap (λ (x : Copy). x.words) (column-at n (caches_of s) k)

  told : (t : State) → t ≡ (look (get_or (caches_of s) k []) n).state → StateIs s k n t
  told t e = record { value = e ∙ sym state-at; seat = e }

  module _ (i : ℕ) (here : i ≡ n % s.agreed.sets) where
    place_here : get_or (get_or s.table k []) i blank ≡ place_in s k n
    place_here = ap (λ (j : ℕ). get_or (get_or s.table k []) j blank) here

    pub state-here : (get_or (get_or s.table k []) i blank).tag ≡ n → StateIs s k n (get_or (get_or s.table k []) i blank).state
    state-here e =
        let p = place_in s k n in
        let tag : p.tag ≡ n = ap (λ (q : CacheLine). q.tag) (sym place_here) ∙ e in
        told (get_or (get_or s.table k []) i blank).state
        (ap (λ (q : CacheLine). q.state) place_here
        ∙ sym (found-state p.state p.words (eqb p.tag n) (eq-eqb p.tag n tag))
        ∙ ap (λ (x : Copy). x.state) (sym (look-place s k on n)))

    pub state-elsewhere : ((get_or (get_or s.table k []) i blank).tag ≡ n → ⊥) → StateIs s k n Invalid
    state-elsewhere ne =
        let p = place_in s k n in
        told Invalid
        (ap (λ (x : Copy). x.state)
        (sym (look-absent s k on n (and_left (eqb p.tag n) (valid p.state) (ne_eqb p.tag n (λ e. ne (ap (λ (q : CacheLine). q.tag) place_here ∙ e)))))))

    -- a held line stands in its place
    pub held-stands : valid (state_at (copies_of n (caches_of s)) k) ≡ true → stands_in n (get_or (get_or s.table k []) i blank) ≡ true
    held-stands v =
        ⊎_elim (λ (e : stands_in n (place_in s k n) ≡ true). ap (stands_in n) place_here ∙ e)
        (λ (e : stands_in n (place_in s k n) ≡ false).
        absurd (both_ways (valid (state_at (copies_of n (caches_of s)) k)) (ap valid (state-at ∙ ap (λ (x : Copy). x.state) (look-absent s k on n e))) v))
        (cases_Bool (stands_in n (place_in s k n)))

    pub held-look : stands_in n (get_or (get_or s.table k []) i blank) ≡ true → look (get_or (caches_of s) k []) n ≡ copy_of (get_or (get_or s.table k []) i blank)
    held-look e = look-stands s k on n (ap (stands_in n) (sym place_here) ∙ e) ∙ ap copy_of (sym place_here)

    pub held-words : valid (state_at (copies_of n (caches_of s)) k) ≡ true → (get_or (get_or s.table k []) i blank).words ≡ words_at (copies_of n (caches_of s)) k
    held-words v =
        let p = get_or (get_or s.table k []) i blank in
        let e = held-stands v in
        sym (cond-true (valid p.state) p.words [] (and_parts (eqb p.tag n) (valid p.state) e).1)
        ∙ ap (λ (x : Copy). x.words) (sym (held-look e)) ∙ sym words-at

    -- whether there is room
    pub room-ways : room (get_or (caches_of s) k []) n ≡ (has n (slot_of (get_or (get_or s.table k []) i blank) ∷ []) || gap (slot_of (get_or (get_or s.table k []) i blank) ∷ []))
    unfolding room
    room-ways =
        ap (λ (ss : List Slot). has n ss || gap ss) (single s k on n ∙ ap (λ (p : CacheLine). slot_of p ∷ []) (sym place_here))

    pub victim-tag : victim (get_or (caches_of s) k []) n ≡ (get_or (get_or s.table k []) i blank).tag
    unfolding victim
    victim-tag = ap lowest (single s k on n ∙ ap (λ (p : CacheLine). slot_of p ∷ []) (sym place_here))

-- the line that stands in a place is held
pub occupant-held : (s : Caches) (k : ℕ) → k < s.agreed.seats → (i : ℕ) → valid (get_or (get_or s.table k []) i blank).state ≡ true →
    valid (state_at (copies_of (get_or (get_or s.table k []) i blank).tag (caches_of s)) k) ≡ true
occupant-held s k on i e =
    let v = (get_or (get_or s.table k []) i blank).tag in
    ap valid (sym (state-here s k on v i (sym (s.homed k i e)) refl).value) ∙ e

-- the line that has to go, if there is one: where another line is held in the place
pub record Occupant (s : Caches) (k n : ℕ) (r : Option ℕ) : Type 0 where
  pub answer : r ≡ cond (room (get_or (caches_of s) k []) n) None (Some (victim (get_or (caches_of s) k []) n))
  pub stands : IfSome r (λ v. (v % s.agreed.sets ≡ n % s.agreed.sets) × (valid (state_at (copies_of v (caches_of s)) k) ≡ true))

pub occupant-told : (s : Caches) (k : ℕ) → k < s.agreed.seats → (n i : ℕ) → i ≡ n % s.agreed.sets →
    Occupant s k n (then_some (not (eqb (get_or (get_or s.table k []) i blank).tag n) && valid (get_or (get_or s.table k []) i blank).state) (get_or (get_or s.table k []) i blank).tag)
occupant-told s k on n i here =
    let p = get_or (get_or s.table k []) i blank in
    let a = eqb p.tag n in
    let v = valid p.state in
    record {
      answer = chosen (not a && v) p.tag
          ∙ ap (λ (b : Bool). cond b None (Some p.tag)) (sym (room-ways s k on n i here ∙ room-one a v))
          ∙ ap (λ (m : ℕ). cond (room (get_or (caches_of s) k []) n) None (Some m)) (sym (victim-tag s k on n i here));
      stands = if_goes _ (not a && v) p.tag (λ e. let h = (and_parts (not a) v e).1 in (s.homed k i h ∙ here, occupant-held s k on i h));
    }
  where
    chosen : (b : Bool) (m : ℕ) → then_some b m ≡ cond (not b) None (Some m)
    chosen true m = refl
    chosen false m = refl

    if_goes : (P : ℕ → Type 0) (b : Bool) (m : ℕ) → (b ≡ true → P m) → IfSome (then_some b m) P
    if_goes P true m h = h refl
    if_goes P false m h = tt

-- the lines that stand in a set
pub lines-told : (s : Caches) (k : ℕ) → k < s.agreed.seats → (i : ℕ) → i < s.agreed.sets →
    option_to_list (then_some (valid (get_or (get_or s.table k []) i blank).state) (get_or (get_or s.table k []) i blank).tag) ≡ lines_at (get_or (caches_of s) k []) i
unfolding lines_at
lines-told s k on i l =
    let p = get_or (get_or s.table k []) i blank in
    listed (valid p.state) p.tag ∙ sym (ap lines_of (single-at s k on i l))
  where
    listed : (b : Bool) (n : ℕ) → option_to_list (then_some b n) ≡ cond b (n ∷ []) []
    listed true n = refl
    listed false n = refl
