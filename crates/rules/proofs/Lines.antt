-- One line: what makes it coherent, and the one argument that every transaction keeps it so.
--
-- Coherent   any two seats agree; every held copy has the newest words; with no owner memory has them
-- Moved      the line stays coherent, no seat but r gains a copy, r holds it or not, the seats stay
use Rattle.std.proofs.Common.{◌≡◌, ℕ, ◌<◌, Bool, true, false, ◌≢◌, ◌⊎◌, List, length, get_or, set, sym, ap, ◌∙◌, subst, inl, inr, zero-add}
use Rattle.std.proofs.lemmas.Bool.{cases_eq}
use Rattle.std.proofs.lemmas.List.{length-set, get_or-set_same, get_or-set_other}
use Rattle.protocol.specs.declared.state.State.{State}
use Rattle.protocol.specs.declared.state.State.TheVariants.{Invalid}
use Rattle.protocol.specs.States.{valid, owned}
use Rattle.rules.specs.Columns.{Copy, kept, none, Column, state_at, words_at}
use Rattle.rules.specs.Transactions.{hear, same}
use Rattle.rules.proofs.Tables.{agree, below, agree-below, agree-sym, below-valid}
use Rattle.rules.proofs.Seats.{hear-at, length-hear, kept-words}

-- a line is coherent, and its newest words are truth
pub record Coherent (c : Column) (truth : List ℕ) : Type 0 where
  pub apart : (i j : ℕ) → i ≢ j → agree (state_at c.copies i) (state_at c.copies j) ≡ true
  pub current : (i : ℕ) → valid (state_at c.copies i) ≡ true → words_at c.copies i ≡ truth
  pub safe : ((i : ℕ) → owned (state_at c.copies i) ≡ false) → c.home ≡ truth
  pub wide : length c.home ≡ length truth

-- a line moved, and is coherent still
pub record Moved (old new : Column) (r : ℕ) (holding : Bool) (truth : List ℕ) : Type 0 where
  pub coherent : Coherent new truth
  pub no_gain : (k : ℕ) → k ≢ r → valid (state_at new.copies k) ≡ true → valid (state_at old.copies k) ≡ true
  pub own : valid (state_at new.copies r) ≡ holding
  pub long : length new.copies ≡ length old.copies

-- seat r's copy is kept in state s with words ws, the others went to h with words by w
pub record Turned (xs zs : List Copy) (r : ℕ) (h : ℕ → State → State) (w : List ℕ → List ℕ) (s : State) (ws : List ℕ) : Type 0 where
  pub other-state : (i : ℕ) → i ≢ r → state_at zs i ≡ h i (state_at xs i)
  pub other-words : (i : ℕ) → i ≢ r → valid (h i (state_at xs i)) ≡ true → words_at zs i ≡ w (words_at xs i)
  pub own-state : state_at zs r ≡ s
  pub own-words : valid s ≡ true → words_at zs r ≡ ws
  pub long : length zs ≡ length xs

pub by-hearing :
    (xs : List Copy) (r : ℕ) (h : ℕ → State → State) (w : List ℕ → List ℕ) (s : State) (ws : List ℕ)
    → r < length xs → ((k : ℕ) → h k Invalid ≡ Invalid) → Turned xs (set (hear h w 0 xs) r (kept s ws)) r h w s ws
by-hearing xs r h w s ws on z = record {
  other-state = λ i ne. ap (λ (x : Copy). x.state) (at i ne);
  other-words = λ i ne e. ap (λ (x : Copy). x.words) (at i ne) ∙ kept-words (h i (state_at xs i)) (w (words_at xs i)) e;
  own-state = ap (λ (x : Copy). x.state) own;
  own-words = λ e. ap (λ (x : Copy). x.words) own ∙ kept-words s ws e;
  long = length-set (hear h w 0 xs) r (kept s ws) ∙ length-hear h w 0 xs;
}
  where
    at : (i : ℕ) → i ≢ r → get_or (set (hear h w 0 xs) r (kept s ws)) i none ≡ kept (h i (state_at xs i)) (w (words_at xs i))
    at i ne = get_or-set_other (hear h w 0 xs) r i (kept s ws) none ne ∙ hear-at h w z 0 xs i ∙ ap (λ (j : ℕ). kept (h j (state_at xs i)) (w (words_at xs i))) (zero-add i)

    own : get_or (set (hear h w 0 xs) r (kept s ws)) r none ≡ kept s ws
    own = get_or-set_same (hear h w 0 xs) r (kept s ws) none (subst (λ (n : ℕ). r < n) (sym (length-hear h w 0 xs)) on)

pub by-setting : (xs : List Copy) (r : ℕ) (s : State) (ws : List ℕ) → r < length xs → Turned xs (set xs r (kept s ws)) r (λ k t. t) same s ws
by-setting xs r s ws on = record {
  other-state = λ i ne. ap (λ (x : Copy). x.state) (get_or-set_other xs r i (kept s ws) none ne);
  other-words = λ i ne e. ap (λ (x : Copy). x.words) (get_or-set_other xs r i (kept s ws) none ne);
  own-state = ap (λ (x : Copy). x.state) (get_or-set_same xs r (kept s ws) none on);
  own-words = λ e. ap (λ (x : Copy). x.words) (get_or-set_same xs r (kept s ws) none on) ∙ kept-words s ws e;
  long = length-set xs r (kept s ws);
}

-- two seats agree after a turn
apart-turn :
    {xs zs : List Copy} {r : ℕ} {h : ℕ → State → State} {w : List ℕ → List ℕ} {s : State} {ws : List ℕ} → Turned xs zs r h w s ws
    → ((i j : ℕ) → i ≢ j → agree (state_at xs i) (state_at xs j) ≡ true)
    → ((k : ℕ) → k ≢ r → below (h k (state_at xs k)) (state_at xs k) ≡ true)
    → ((k : ℕ) → k ≢ r → agree s (h k (state_at xs k)) ≡ true)
    → (i j : ℕ) → i ≢ j → (i ≡ r) ⊎ (i ≡ r → ⊥) → (j ≡ r) ⊎ (j ≡ r → ⊥) → agree (state_at zs i) (state_at zs j) ≡ true
apart-turn {xs} {zs} {r} {h} {w} {s} {ws} t a b m i j ne (inl p) (inl q) = absurd (ne (p ∙ sym q))
apart-turn {xs} {zs} {r} {h} {w} {s} {ws} t a b m i j ne (inl p) (inr q) =
    subst (λ (x : State). agree x (state_at zs j) ≡ true) (sym (ap (state_at zs) p ∙ t.own-state))
    (subst (λ (x : State). agree s x ≡ true) (sym (t.other-state j q)) (m j q))
apart-turn {xs} {zs} {r} {h} {w} {s} {ws} t a b m i j ne (inr p) (inl q) =
    subst (λ (x : State). agree (state_at zs i) x ≡ true) (sym (ap (state_at zs) q ∙ t.own-state))
    (subst (λ (x : State). agree x s ≡ true) (sym (t.other-state i p)) (agree-sym s (h i (state_at xs i)) (m i p)))
apart-turn {xs} {zs} {r} {h} {w} {s} {ws} t a b m i j ne (inr p) (inr q) =
    subst (λ (x : State). agree x (state_at zs j) ≡ true) (sym (t.other-state i p))
    (subst (λ (x : State). agree (h i (state_at xs i)) x ≡ true) (sym (t.other-state j q))
    (agree-below (h i (state_at xs i)) (state_at xs i) (h j (state_at xs j)) (state_at xs j) (b i p) (b j q) (a i j ne)))

-- a held copy has the new words after a turn
current-turn :
    {xs zs : List Copy} {r : ℕ} {h : ℕ → State → State} {w : List ℕ → List ℕ} {s : State} {ws : List ℕ} → Turned xs zs r h w s ws
    → (truth truth' : List ℕ) → ((i : ℕ) → valid (state_at xs i) ≡ true → words_at xs i ≡ truth)
    → ((k : ℕ) → k ≢ r → below (h k (state_at xs k)) (state_at xs k) ≡ true)
    → ((k : ℕ) → k ≢ r → valid (h k (state_at xs k)) ≡ true → w truth ≡ truth') → (valid s ≡ true → ws ≡ truth')
    → (i : ℕ) → (i ≡ r) ⊎ (i ≡ r → ⊥) → valid (state_at zs i) ≡ true → words_at zs i ≡ truth'
current-turn {xs} {zs} {r} {h} {w} {s} {ws} t truth truth' old b wt wr i (inl p) e =
    ap (words_at zs) p ∙ t.own-words held ∙ wr held
  where
    held : valid s ≡ true
    held = subst (λ (x : State). valid x ≡ true) (ap (state_at zs) p ∙ t.own-state) e
current-turn {xs} {zs} {r} {h} {w} {s} {ws} t truth truth' old b wt wr i (inr p) e =
    t.other-words i p heard ∙ ap w (old i (below-valid (h i (state_at xs i)) (state_at xs i) (b i p) heard)) ∙ wt i p heard
  where
    heard : valid (h i (state_at xs i)) ≡ true
    heard = subst (λ (x : State). valid x ≡ true) (t.other-state i p) e

-- the one argument: the others lose attributes or keep them, the requester agrees with each, who stays valid has the new
-- words, and with no owner left memory has them
pub turn_moved :
    {xs zs : List Copy} {r : ℕ} {h : ℕ → State → State} {w : List ℕ → List ℕ} {s : State} {ws : List ℕ}
    (holding : Bool) (home home' truth truth' : List ℕ) → valid s ≡ holding → Turned xs zs r h w s ws
    → Coherent (record { copies = xs; home = home }) truth
    → ((k : ℕ) → k ≢ r → below (h k (state_at xs k)) (state_at xs k) ≡ true)
    → ((k : ℕ) → k ≢ r → agree s (h k (state_at xs k)) ≡ true)
    → ((k : ℕ) → k ≢ r → valid (h k (state_at xs k)) ≡ true → w truth ≡ truth') → (valid s ≡ true → ws ≡ truth')
    → (((i : ℕ) → owned (state_at zs i) ≡ false) → home' ≡ truth')
    → length home' ≡ length truth'
    → Moved (record { copies = xs; home = home }) (record { copies = zs; home = home' }) r holding truth'
turn_moved {xs} {zs} {r} {h} {w} {s} {ws} holding home home' truth truth' v t ok b m wt wr sf lg = record {
  coherent = record {
    apart = λ i j ne. apart-turn t ok.apart b m i j ne (cases_eq i r) (cases_eq j r);
    current = λ i e. current-turn t truth truth' ok.current b wt wr i (cases_eq i r) e;
    safe = sf;
    wide = lg;
  };
  no_gain = λ k ne e. below-valid (h k (state_at xs k)) (state_at xs k) (b k ne) (subst (λ (x : State). valid x ≡ true) (t.other-state k ne) e);
  own = ap valid t.own-state ∙ v;
  long = t.long;
}
