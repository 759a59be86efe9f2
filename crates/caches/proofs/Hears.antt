-- The seats react in turn, and all together as the rules have it.
--
-- Going   the first k seats have reacted: what the caches are, and what of the answer is left to come
use Rattle.std.proofs.Common.{None, Option, Bool, ◌≡◌, ℕ, suc, ◌+◌, ◌<◌, ◌≤◌, true, false, eqb, ◌≢◌, List, [], ◌∷◌, ◌++◌, length, get_or, take, drop, set, sym, refl, ap, ◌∙◌, subst, ⊎_elim, zero-add, add-one, arith}
use Rattle.std.proofs.lemmas.Bool.{cases_eq, cases_Bool, both_ways, false≢true, and_parts}
use Rattle.std.proofs.lemmas.List.{get_or_at, set_at, append_assoc, append-nil, take_more, drop_more, take_all, drop_all, length-take-le, length-set, length-map, get_or-set_same, get_or-set_other, set-get_or, ext_get_or}
use Rattle.protocol.specs.declared.state.State.{State}
use Rattle.protocol.specs.declared.state.State.TheVariants.{Invalid, Shared, Exclusive, Owned, Modified}
use Rattle.protocol.specs.States.{valid}
use Rattle.rules.specs.Columns.{Copy, none}
use Rattle.rules.specs.Transactions.{hear}
use Rattle.rules.specs.Caches.{Cache, look, put}
use Rattle.rules.specs.Machines.{copies_of, put_each}
use Rattle.rules.proofs.Seats.{hear-at, length-hear}
use Rattle.rules.proofs.Caches.{put-look, look-room}
use Rattle.rules.proofs.Machines.{column-at, put_each-at, length-put_each}
use Rattle.caches.specs.declared.heard.Heard.{Heard}
use Rattle.caches.specs.declared.heard.Heard.TheVariants.{ReadShared, ReadInvalidate, Invalidate, Update, ThroughUpdate, ThroughInvalidate}
use Rattle.caches.specs.declared.heeded.Heeded.{Heeded}
use Rattle.caches.specs.declared.heeded.Owner.{Owner}
use Rattle.caches.specs.declared.line.CacheLine.{CacheLine}
use Rattle.caches.specs.declared.table.Caches.{Caches}
use Rattle.caches.specs.Hearing.{state_heard, words_heard, reaction, heard_by}
use Rattle.caches.specs.Heeding.{unheeded, noted}
use Rattle.caches.specs.Views.{caches_of}
use Rattle.caches.proofs.Places.{caches-long, look-put, look-absent, look-stands, stands_in, place_in}
use Rattle.caches.proofs.Sweeps.{sweep, own-none, noted-none, noted-few}

-- a list whose front is another's
module _ {X : Type 0} (new old : List X) (long : length new ≡ length old) (k : ℕ) (l : k < length old) (d : X) where
  front : length (take k new) ≡ k
  front = length-take-le k new (omega arith)

  here : take k new ++ drop k old ≡ take k new ++ (get_or old k d ∷ drop (k + 1) old)
  here = ap (λ (zs : List X). take k new ++ zs) (drop_more old k d l)

  next : take (k + 1) new ++ drop (k + 1) old ≡ take k new ++ (get_or new k d ∷ drop (k + 1) old)
  next =
      ap (λ (zs : List X). zs ++ drop (k + 1) old) (take_more new k d (omega arith))
      ∙ append_assoc (take k new) (get_or new k d ∷ []) (drop (k + 1) old)

  front_read : get_or (take k new ++ drop k old) k d ≡ get_or old k d
  front_read = ap (λ (zs : List X). get_or zs k d) here ∙ get_or_at (take k new) (get_or old k d) (drop (k + 1) old) d k front

  front-set : (x : X) → x ≡ get_or new k d → set (take k new ++ drop k old) k x ≡ take (k + 1) new ++ drop (k + 1) old
  front-set x e =
      ap (λ (zs : List X). set zs k x) here ∙ set_at (take k new) (get_or old k d) (drop (k + 1) old) x k front
      ∙ ap (λ (y : X). take k new ++ (y ∷ drop (k + 1) old)) e ∙ sym next

  front-stay : get_or old k d ≡ get_or new k d → take k new ++ drop k old ≡ take (k + 1) new ++ drop (k + 1) old
  front-stay e = here ∙ ap (λ (y : X). take k new ++ (y ∷ drop (k + 1) old)) e ∙ sym next

front-all : {X : Type 0} (new old : List X) (k : ℕ) → length new ≤ k → length old ≤ k → take k new ++ drop k old ≡ new
front-all new old k l m =
    ap (λ zs. zs ++ drop k old) (take_all k new l) ∙ ap (λ zs. new ++ zs) (drop_all k old m) ∙ append-nil new

-- where there is no copy none comes
invalid-stays : (h : Heard) (c : ℕ → ℕ) → state_heard h c Invalid ≡ Invalid
invalid-stays ReadShared c = refl
invalid-stays ReadInvalidate c = refl
invalid-stays Invalidate c = refl
invalid-stays (Update st) c = refl
invalid-stays (ThroughUpdate st) c = refl
invalid-stays ThroughInvalidate c = refl

pub none-reacts : (c : ℕ → ℕ) (h : Heard) → reaction c h none ≡ none
none-reacts c ReadShared = refl
none-reacts c ReadInvalidate = refl
none-reacts c Invalidate = refl
none-reacts c (Update st) = refl
none-reacts c (ThroughUpdate st) = refl
none-reacts c ThroughInvalidate = refl

-- a copy left valid was valid
left-valid : (h : Heard) (c : ℕ → ℕ) (s : State) → valid (state_heard h c s) ≡ true → valid s ≡ true
left-valid h c Invalid e = absurd (false≢true (ap valid (sym (invalid-stays h c)) ∙ e))
left-valid h c Shared e = refl
left-valid h c Exclusive e = refl
left-valid h c Owned e = refl
left-valid h c Modified e = refl

-- the default is the answer before any seat has reacted
pub unheeded-is : (a : Heeded) → (a.owner ≡ None) × ((a.shared ≡ false) × (a.lost ≡ 0)) → a ≡ unheeded
unheeded-is a d =
    ap (λ (o : Option Owner). record { owner = o; shared = a.shared; lost = a.lost }) d.0
    ∙ ap (λ (b : Bool). record { owner = None; shared = b; lost = a.lost }) d.1.0
    ∙ ap (λ (m : ℕ). record { owner = None; shared = false; lost = m }) d.1.1

module _ (cell : ℕ → ℕ → ℕ) (h : Heard) (r n : ℕ) (s : Caches) where
  -- the caches and the line's copies before, and after all seats but r have reacted
  abbrev was : List Cache
  was = caches_of s

  abbrev before : List Copy
  before = copies_of n (caches_of s)

  abbrev after : List Copy
  after = heard_by cell h r (copies_of n (caches_of s))

  abbrev then : List Cache
  then = put_each n (caches_of s) (heard_by cell h r (copies_of n (caches_of s)))

  long-before : length before ≡ length was
  long-before = length-map was (λ (c : Cache). look c n)

  pub long_after : length after ≡ length before
  long_after =
      length-set (hear (λ k. state_heard h (cell k)) (words_heard h) 0 before) r (get_or before r none)
      ∙ length-hear (λ k. state_heard h (cell k)) (words_heard h) 0 before

  long-then : length then ≡ length was
  long-then = length-put_each n was after

  -- another seat's copy has reacted
  heard-at : (k : ℕ) → k ≢ r → get_or after k none ≡ reaction (cell k) h (look (get_or was k []) n)
  heard-at k ne =
      get_or-set_other (hear (λ j. state_heard h (cell j)) (words_heard h) 0 before) r k (get_or before r none) none ne
      ∙ hear-at (λ j. state_heard h (cell j)) (words_heard h) (λ j. invalid-stays h (cell j)) 0 before k
      ∙ ap (λ (j : ℕ). reaction (cell j) h (get_or before k none)) (zero-add k)
      ∙ ap (reaction (cell k) h) (column-at n was k)

  -- the requester's is as it was
  heard-own : r < length was → get_or after r none ≡ look (get_or was r []) n
  heard-own l =
      let e = length-hear (λ k. state_heard h (cell k)) (words_heard h) 0 before in
      let f = long-before in
      get_or-set_same (hear (λ k. state_heard h (cell k)) (words_heard h) 0 before) r (get_or before r none) none (omega arith) ∙ column-at n was r

  then_at : (k : ℕ) → get_or then k [] ≡ put n (get_or was k []) (get_or after k none)
  then_at k = put_each-at n was after (long_after ∙ long-before) k

  then-other : (k : ℕ) → k ≢ r → put n (get_or was k []) (reaction (cell k) h (look (get_or was k []) n)) ≡ get_or then k []
  then-other k ne = ap (put n (get_or was k [])) (sym (heard-at k ne)) ∙ sym (then_at k)

  then-own : r < length was → get_or was r [] ≡ get_or then r []
  then-own l = sym (then_at r ∙ ap (put n (get_or was r [])) (heard-own l) ∙ put-look (get_or was r []) n)

  -- the copies that are found then
  pub found-then : r < s.agreed.seats → copies_of n then ≡ after
  found-then on =
      let seats : length was ≡ s.agreed.seats = caches-long s in
      let b = long-before in
      let a = long_after in
      let t = long-then in
      let m : length (copies_of n then) ≡ length then = length-map then (λ (c : Cache). look c n) in
      ext_get_or none (copies_of n then) after (omega arith)
      (λ k l.
      let lk : k < s.agreed.seats = omega arith in
      let lr : r < length was = omega arith in
      column-at n then k ∙ ap (λ (c : Cache). look c n) (then_at k)
      ∙ ⊎_elim
      (λ (same : k ≡ r).
      subst (λ (j : ℕ). look (put n (get_or was j []) (get_or after j none)) n ≡ get_or after j none) (sym same)
      (ap (λ (x : Copy). look (put n (get_or was r []) x) n) (heard-own lr) ∙ ap (λ (c : Cache). look c n) (put-look (get_or was r []) n) ∙ sym (heard-own lr)))
      (λ (other : k ≡ r → ⊥).
      let x = look (get_or was k []) n in
      ap (λ (y : Copy). look (put n (get_or was k []) y) n) (heard-at k other)
      ∙ look-put s k lk n (state_heard h (cell k) x.state) (words_heard h x.words) (λ v. look-room (get_or was k []) n (left-valid h (cell k) x.state v))
      ∙ sym (heard-at k other))
      (cases_eq k r))

  -- the first k seats have reacted
  pub record Going (t : Caches) (k : ℕ) (a : Heeded) : Type 0 where
    pub agreed : t.agreed ≡ s.agreed
    pub caches : caches_of t ≡ take k then ++ drop k was
    pub answer : sweep 0 unheeded (set before r none) (set after r none) ≡ sweep k a (drop k (set before r none)) (drop k (set after r none))
    pub few : a.lost ≤ k

  pub none_yet : (a : Heeded) → a ≡ unheeded → Going s 0 a
  none_yet a e = record {
    agreed = refl;
    caches = refl;
    answer = ap (λ (b : Heeded). sweep 0 b (set before r none) (set after r none)) (sym e);
    few = subst (λ (b : Heeded). b.lost ≤ 0) (sym e) (omega arith);
  }

  -- one seat further
  swept : (k : ℕ) (a b : Heeded) → k < length was → b ≡ noted k (get_or (set before r none) k none) (get_or (set after r none) k none).state a →
      sweep k a (drop k (set before r none)) (drop k (set after r none)) ≡ sweep (k + 1) b (drop (k + 1) (set before r none)) (drop (k + 1) (set after r none))
  swept k a b l e =
      let us = set before r none in
      let vs = set after r none in
      let m = length-set before r none in
      let o = length-set after r none in
      let p = long-before in
      let q = long_after in
      ap (λ (zs : List Copy). sweep k a zs (drop k vs)) (drop_more us k none (omega arith))
      ∙ ap (λ (zs : List Copy). sweep k a (get_or us k none ∷ drop (k + 1) us) zs) (drop_more vs k none (omega arith))
      ∙ ap (λ (c : Heeded). sweep (suc k) c (drop (k + 1) us) (drop (k + 1) vs)) (sym e)
      ∙ ap (λ (j : ℕ). sweep j b (drop (k + 1) us) (drop (k + 1) vs)) (sym (add-one k))

  pub one_more_lem : (t u : Caches) (k : ℕ) (a b : Heeded) → Going t k a → k < s.agreed.seats → k ≢ r →
      caches_of u ≡ set (caches_of t) k (put n (get_or (caches_of t) k []) (reaction (cell k) h (look (get_or (caches_of t) k []) n))) →
      b ≡ noted k (look (get_or (caches_of t) k []) n) (reaction (cell k) h (look (get_or (caches_of t) k []) n)).state a →
      u.agreed ≡ t.agreed → Going u (k + 1) b
  one_more_lem t u k a b go l ne put_is note-is agreed-is =
      let size : length was ≡ s.agreed.seats = caches-long s in
      let lk : k < length was = omega arith in
      let long = long-then in
      let same : get_or (caches_of t) k [] ≡ get_or was k [] = ap (λ (cs : List Cache). get_or cs k []) go.caches ∙ front_read then was long k lk [] in
      let x = look (get_or was k []) n in
      let note : b ≡ noted k x (reaction (cell k) h x).state a =
      note-is ∙ ap (λ (c : Cache). noted k (look c n) (reaction (cell k) h (look c n)).state a) same
      in
      let ours : x ≡ get_or (set before r none) k none = sym (get_or-set_other before r k none none ne ∙ column-at n was k) in
      let theirs : reaction (cell k) h x ≡ get_or (set after r none) k none = sym (get_or-set_other after r k none none ne ∙ heard-at k ne) in
      record {
        agreed = agreed-is ∙ go.agreed;
        caches = put_is
            ∙ ap (λ (c : Cache). set (caches_of t) k (put n c (reaction (cell k) h (look c n)))) same
            ∙ ap (λ (cs : List Cache). set cs k (put n (get_or was k []) (reaction (cell k) h x))) go.caches
            ∙ front-set then was long k lk [] (put n (get_or was k []) (reaction (cell k) h x)) (then-other k ne);
        answer = go.answer
            ∙ swept k a b lk
            (note ∙ ap (λ (y : Copy). noted k y (reaction (cell k) h x).state a) ours
            ∙ ap (λ (y : Copy). noted k (get_or (set before r none) k none) y.state a) theirs);
        few = subst (λ (c : Heeded). c.lost ≤ k + 1) (sym note) (noted-few k x (reaction (cell k) h x).state a k go.few);
      }

  -- the requester itself does not react
  pub itself : (t : Caches) (k : ℕ) (a : Heeded) → Going t k a → k < s.agreed.seats → k ≡ r → Going t (k + 1) a
  itself t k a go l same =
      let size : length was ≡ s.agreed.seats = caches-long s in
      let lk : k < length was = omega arith in
      let f : a.lost ≤ k = go.few in
      record {
        agreed = go.agreed;
        caches = go.caches
            ∙ front-stay then was long-then k lk []
            (subst (λ (j : ℕ). get_or was j [] ≡ get_or then j []) (sym same) (then-own (subst (λ (j : ℕ). j < length was) same lk)));
        answer = go.answer
            ∙ swept k a a lk
            (sym
            (ap (λ (x : Copy). noted k x (get_or (set after r none) k none).state a) (subst (λ (j : ℕ). get_or (set before r none) j none ≡ none) (sym same) (own-none before r))
            ∙ ap (λ (x : Copy). noted k none x.state a) (subst (λ (j : ℕ). get_or (set after r none) j none ≡ none) (sym same) (own-none after r))
            ∙ noted-none k a));
        few = omega arith;
      }

  -- all seats have reacted
  pub all-reacted : (t : Caches) (k : ℕ) (a : Heeded) → Going t k a → s.agreed.seats ≤ k → caches_of t ≡ then
  all-reacted t k a go l =
      let size : length was ≡ s.agreed.seats = caches-long s in
      let long = long-then in
      go.caches ∙ front-all then was k (omega arith) (omega arith)

  pub all_told : (t : Caches) (k : ℕ) (a : Heeded) → Going t k a → s.agreed.seats ≤ k → a ≡ sweep 0 unheeded (set before r none) (set after r none)
  all_told t k a go l =
      let size : length was ≡ s.agreed.seats = caches-long s in
      let m = length-set before r none in
      let p = long-before in
      sym (go.answer ∙ ap (λ (zs : List Copy). sweep k a zs (drop k (set after r none))) (drop_all k (set before r none) (omega arith)))

stands-valid : (n : ℕ) (p : CacheLine) → stands_in n p ≡ true → valid p.state ≡ true
stands-valid n p e = (and_parts (eqb p.tag n) (valid p.state) e).1

-- a seat that has no copy: nothing changes
pub no_copy : (s : Caches) (k n : ℕ) → k < s.agreed.seats → valid (look (get_or (caches_of s) k []) n).state ≡ false → look (get_or (caches_of s) k []) n ≡ none
no_copy s k n on v =
    ⊎_elim
    (λ (e : stands_in n (place_in s k n) ≡ true).
    absurd (both_ways (valid (look (get_or (caches_of s) k []) n).state) v (ap (λ (x : Copy). valid x.state) (look-stands s k on n e) ∙ stands-valid n (place_in s k n) e)))
    (λ (e : stands_in n (place_in s k n) ≡ false). look-absent s k on n e)
    (cases_Bool (stands_in n (place_in s k n)))

module _ (c : ℕ → ℕ) (h : Heard) where
  pub still : (s : Caches) (k n : ℕ) → look (get_or (caches_of s) k []) n ≡ none →
      caches_of s ≡ set (caches_of s) k (put n (get_or (caches_of s) k []) (reaction c h (look (get_or (caches_of s) k []) n)))
  still s k n absent =
      let d = get_or (caches_of s) k [] in
      sym
      (ap (λ (x : Copy). set (caches_of s) k (put n d x)) (ap (reaction c h) absent ∙ none-reacts c h ∙ sym absent)
      ∙ ap (set (caches_of s) k) (put-look d n) ∙ set-get_or (caches_of s) k [])

  pub not-noted : (k : ℕ) (x : Copy) (a : Heeded) → x ≡ none → a ≡ noted k x (reaction c h x).state a
  not-noted k x a absent =
      sym
      (ap (λ (y : Copy). noted k y (reaction c h y).state a) absent
      ∙ ap (λ (y : Copy). noted k none y.state a) (none-reacts c h) ∙ noted-none k a)
