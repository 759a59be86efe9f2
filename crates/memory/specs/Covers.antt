-- Waiting lines put over the lines below: what a read finds, and what a write comes to.
use Rattle.std.specs.Prelude.{◌≡◌, ℕ, zero, suc, ◌+◌, ◌<◌, true, false, cond, List, [], ◌∷◌, ◌++◌, length, get_or, set, ◌==◌, ◌≢◌, nat_eq, slice_index_or, slice_set, refl}
use Rattle.std.proofs.Common.{sym, ap, ◌∙◌, ⊎_elim, arith}
use Rattle.std.proofs.lemmas.List.{get_or-set_same, get_or-set_other, length-set, set_comm, set_past, set-set}
use Rattle.std.proofs.lemmas.Bool.{cases_Bool, cases_eq, cases_lt, cond-true, eq-eqb, eqb-true, eqb-false, or_left, or_right, or_parts, both_ways, cond_both, ne_eqb}
use Rattle.memory.specs.Ages.{Apart, blank, waits, with_words, full, holds, Newest, Wide, changed, over}
use Rattle.memory.specs.Buffers.{Buffer, held_changed, seen, sent_from, room_made, come, line_taken, word_taken}
use Rattle.memory.specs.Lines.{Shaped, Lawful, word_written, words_in_line}
use Rattle.memory.specs.declared.queue.Waiting.{Waiting}

pub length_over : (ws : List Waiting) (lines : List (List ℕ)) → length (over ws lines) ≡ length lines
length_over [] lines = refl
length_over (w ∷ ws) lines = length_over ws (slice_set lines w.line w.words) ∙ length-set lines w.line w.words

pub over-push : (ws : List Waiting) (w : Waiting) (lines : List (List ℕ)) → over (ws ++ w ∷ []) lines ≡ slice_set (over ws lines) w.line w.words
over-push [] w lines = refl
over-push (v ∷ ws) w lines = over-push ws w (slice_set lines v.line v.words)

-- a line that does not wait is the line below
pub over-other : (ws : List Waiting) (line : ℕ) (lines : List (List ℕ)) → holds line ws ≡ false → slice_index_or (over ws lines) line [] ≡ slice_index_or lines line []
over-other [] line lines h = refl
over-other (w ∷ ws) line lines h =
    let p = or_parts (w.line == line) (holds line ws) h in
    over-other ws line (slice_set lines w.line w.words) p.1
    ∙ get_or-set_other lines w.line line w.words [] (λ e. eqb-false w.line line p.0 (sym e))

-- a write below to a line that does not wait
pub over-set : (ws : List Waiting) (line : ℕ) (v : List ℕ) (lines : List (List ℕ)) → holds line ws ≡ false → over ws (slice_set lines line v) ≡ slice_set (over ws lines) line v
over-set [] line v lines h = refl
over-set (w ∷ ws) line v lines h =
    let p = or_parts (w.line == line) (holds line ws) h in
    ap (over ws) (set_comm lines line w.line v w.words (λ e. eqb-false w.line line p.0 (sym e)))
    ∙ over-set ws line v (slice_set lines w.line w.words) p.1

-- the newest place of a line, seen from the place after the first
older : (line : ℕ) (w : Waiting) (ws : List Waiting) (i : ℕ) → Newest line (w ∷ ws) (suc i) → Newest line ws i
older line w ws i n =
    let e : suc i + 1 ≡ suc (i + 1) = omega arith in
    record { within = omega (arith, n.within); here = n.here; last = rw e at n.last }

-- a line that waits nowhere waits at no place
pub not-held : (line : ℕ) (ws : List Waiting) (i : ℕ) → holds line ws ≡ false → i < length ws → (get_or ws i blank).line ≢ line
not-held line [] i h k e = omega arith
not-held line (w ∷ ws) zero h k e =
    eqb-false w.line line (or_parts (w.line == line) (holds line ws) h).0 e
not-held line (w ∷ ws) (suc i) h k e =
    not-held line ws i (or_parts (w.line == line) (holds line ws) h).1 (omega arith) e

pub apart-rest : (w : Waiting) (ws : List Waiting) → Apart (w ∷ ws) → Apart ws
apart-rest w ws a i j h k e = a (suc i) (suc j) (omega arith) (omega arith) e

pub newest-holds : (line : ℕ) (ws : List Waiting) (i : ℕ) → Newest line ws i → holds line ws ≡ true
newest-holds line [] i n = absurd (omega (arith, n.within))
newest-holds line (w ∷ ws) zero n = or_left (w.line == line) (holds line ws) (eq-eqb w.line line n.here)
newest-holds line (w ∷ ws) (suc i) n =
    or_right (w.line == line) (holds line ws) (newest-holds line ws i (older line w ws i n))

-- a line that waits is read where it waits
pub over-newest : (line : ℕ) (ws : List Waiting) (i : ℕ) (lines : List (List ℕ)) → Newest line ws i → line < length lines → slice_index_or (over ws lines) line [] ≡ (get_or ws i blank).words
over-newest line [] i lines n h = absurd (omega (arith, n.within))
over-newest line (w ∷ ws) zero lines n h =
    let e : w.line ≡ line = n.here in
    over-other ws line (slice_set lines w.line w.words) n.last
    ∙ rw e (get_or-set_same lines line w.words [] h)
over-newest line (w ∷ ws) (suc i) lines n h =
    over-newest line ws i (slice_set lines w.line w.words) (older line w ws i n) (omega (arith, length-set lines w.line w.words))

-- where a line does not wait, nothing changes
pub changed-none : (line : ℕ) (f : List ℕ → List ℕ) (ws : List Waiting) → holds line ws ≡ false → changed line f ws ≡ ws
changed-none line f [] h = refl
changed-none line f (w ∷ ws) h =
    let p = or_parts (w.line == line) (holds line ws) h in
    rw (p.0, changed-none line f ws p.1)

-- a change at the newest place of a line
pub changed-newest : (line : ℕ) (f : List ℕ → List ℕ) (ws : List Waiting) (i : ℕ) → Apart ws → Newest line ws i → slice_set ws i (with_words f (slice_index_or ws i blank)) ≡ changed line f ws
changed-newest line f [] i a n = absurd (omega (arith, n.within))
changed-newest line f (w ∷ ws) zero a n = rw (eq-eqb w.line line n.here, changed-none line f ws n.last)
changed-newest line f (w ∷ ws) (suc i) a n =
    let m = older line w ws i n in
    let other : nat_eq w.line line ≡ false = ne_eqb w.line line (λ e. a 0 (suc i) (omega arith) n.within (e ∙ sym n.here)) in
    rw other (ap (λ r. w ∷ r) (changed-newest line f ws i (apart-rest w ws a) m))

-- twice to one place, the second from the first
set-from : (f : List ℕ → List ℕ) (xs : List (List ℕ)) (i : ℕ) (v : List ℕ) → slice_set (slice_set xs i v) i (f (slice_index_or (slice_set xs i v) i [])) ≡ slice_set xs i (f v)
set-from f xs i v =
    set-set xs i v (f (slice_index_or (slice_set xs i v) i []))
    ∙ ⊎_elim
    (λ h. ap (λ x. set xs i (f x)) (get_or-set_same xs i v [] h))
    (λ h. set_past xs i (f (slice_index_or (slice_set xs i v) i [])) h ∙ sym (set_past xs i (f v) h))
    (cases_lt i (length xs))

-- what stands below a line that waits is not seen
pub over-hides : (line : ℕ) (v : List ℕ) (ws : List Waiting) (lines : List (List ℕ)) → holds line ws ≡ true → over ws (slice_set lines line v) ≡ over ws lines
over-hides line v [] lines h = absurd (both_ways false refl h)
over-hides line v (w ∷ ws) lines h =
    ⊎_elim
    (λ e. rw e (ap (over ws) (set-set lines line v w.words)))
    (λ ne. ap (over ws) (set_comm lines line w.line v w.words (λ e. ne (sym e)))
    ∙ over-hides line v ws (slice_set lines w.line w.words) (later ne))
    (cases_eq w.line line)
  where
    later : (w.line ≢ line) → holds line ws ≡ true
    later ne = rw (ne_eqb w.line line ne) at h

-- a change of a line that waits at the first place
changed-first : (line : ℕ) (f : List ℕ → List ℕ) (v : List ℕ) (ws : List Waiting) (lines : List (List ℕ)) → (holds line ws ≡ true → (xs : List (List ℕ)) → over (changed line f ws) xs ≡ slice_set (over ws xs) line (f (slice_index_or (over ws xs) line []))) → over (changed line f ws) (slice_set lines line (f v)) ≡ slice_set (over ws (slice_set lines line v)) line (f (slice_index_or (over ws (slice_set lines line v)) line []))
changed-first line f v ws lines again =
    ⊎_elim
    (λ t. again t (slice_set lines line (f v)) ∙ ap (λ x. set x line (f (slice_index_or x line []))) (over-hides line (f v) ws lines t ∙ sym (over-hides line v ws lines t)))
    (λ t. ap (λ x. over x (slice_set lines line (f v))) (changed-none line f ws t)
    ∙ over-set ws line (f v) lines t
    ∙ sym (ap (λ x. set x line (f (slice_index_or x line []))) (over-set ws line v lines t) ∙ set-from f (over ws lines) line v))
    (cases_Bool (holds line ws))

-- a change of a line that waits
pub over-changed : (line : ℕ) (f : List ℕ → List ℕ) (ws : List Waiting) (lines : List (List ℕ)) → holds line ws ≡ true → over (changed line f ws) lines ≡ slice_set (over ws lines) line (f (slice_index_or (over ws lines) line []))
over-changed line f [] lines h = absurd (both_ways false refl h)
over-changed line f (w ∷ ws) lines h =
    ⊎_elim
    (λ e. rw (eq-eqb w.line line e, e) (changed-first line f w.words ws lines (λ t xs. over-changed line f ws xs t)))
    (λ ne. let other = ne_eqb w.line line ne in rw other (over-changed line f ws (slice_set lines w.line w.words) (rw other at h)))
    (cases_eq w.line line)

-- what a call of the buffer comes to for its reader
pub seen-sent : (b : Buffer) → seen (sent_from b.waiting b.below) ≡ seen b
seen-sent b = sent b.waiting b.below
  where
    sent : (ws : List Waiting) (lines : List (List ℕ)) → seen (sent_from ws lines) ≡ over ws lines
    sent [] lines = refl
    sent (w ∷ ws) lines = refl

pub seen-room : (b : Buffer) → seen (room_made b) ≡ seen b
seen-room b =
    cond_both (full b.waiting) (sent_from b.waiting b.below) b (λ x. seen x ≡ seen b) (λ _. seen-sent b) (λ _. refl)

module _ (line : ℕ) (b : Buffer) where
  -- a held line is changed, or something else happens that comes to the same for a reader
  seen-held : (f : List ℕ → List ℕ) (other : Buffer) → (holds line b.waiting ≡ false → seen other ≡ slice_set (seen b) line (f (slice_index_or (seen b) line []))) → seen (cond (holds line b.waiting) (held_changed line f b) other) ≡ slice_set (seen b) line (f (slice_index_or (seen b) line []))
  seen-held f other same =
      cond_both
      (holds line b.waiting)
      (held_changed line f b)
      other
      (λ x. seen x ≡ slice_set (seen b) line (f (slice_index_or (seen b) line [])))
      (λ t. over-changed line f b.waiting b.below t)
      same

  pub seen-line : (words : List ℕ) → seen (line_taken line words b) ≡ slice_set (seen b) line words
  seen-line words =
      seen-held (λ _. words) (come line words (room_made b))
      (λ _. over-push (room_made b).waiting (waits line words) (room_made b).below ∙ ap (λ x. set x line words) (seen-room b))

  pub seen-word : (word value : ℕ) → seen (word_taken line word value b) ≡ word_written (seen b) line word value
  seen-word word value =
      seen-held (λ words. set words word value) (record { waiting = b.waiting; below = word_written b.below line word value })
      (λ t. over-set b.waiting line (slice_set (slice_index_or b.below line []) word value) b.below t ∙ ap (λ x. set (seen b) line (slice_set x word value)) (sym (over-other b.waiting line b.below t)))

-- whole lines put over whole lines
shaped-set : (lines : List (List ℕ)) (i : ℕ) (v : List ℕ) → Shaped lines → length v ≡ words_in_line → Shaped (slice_set lines i v)
shaped-set lines i v shaped long n h =
    let k = length-set lines i v in
    ⊎_elim
    (λ e. rw e (ap length (get_or-set_same lines i v [] (omega arith)) ∙ long))
    (λ ne. ap length (get_or-set_other lines i n v [] ne) ∙ shaped n (omega arith))
    (cases_eq n i)

pub shaped-over : (ws : List Waiting) (lines : List (List ℕ)) → Wide ws → Shaped lines → Shaped (over ws lines)
shaped-over [] lines wide shaped = shaped
shaped-over (w ∷ ws) lines wide shaped =
    shaped-over ws (slice_set lines w.line w.words) (λ k h. wide (suc k) (omega arith)) (shaped-set lines w.line w.words shaped (wide 0 (omega arith)))

pub lawful-over : (ws : List Waiting) (lines settled : List (List ℕ)) → Wide ws → Lawful lines settled → Lawful (over ws lines) settled
lawful-over ws lines settled wide law =
    let k = length_over ws lines in
    record { level = law.level ∙ sym k; most = omega (arith, law.most); shaped = shaped-over ws lines wide law.shaped; bottom = law.bottom }

-- the oldest of a full buffer leaves room
pub room-left : (ws : List Waiting) (lines : List (List ℕ)) → full ws ≡ true → full (sent_from ws lines).waiting ≡ false
room-left [] lines h = absurd (both_ways false refl h)
room-left (w ∷ ws) lines h =
    let n = eqb-true (suc (length ws)) 4 h in ne_eqb (length ws) 4 (λ e. omega arith)

-- a held line changed at its newest place, as the buffer's rules have it
pub held_at : (line : ℕ) (b : Buffer) (i : ℕ) → Apart b.waiting → Newest line b.waiting i → (ws : List Waiting) (f : List ℕ → List ℕ) (other : Buffer) → ws ≡ slice_set b.waiting i (with_words f (slice_index_or b.waiting i blank)) → record { waiting = ws; below = b.below } ≡ cond (holds line b.waiting) (held_changed line f b) other
held_at line b i a n ws f other e =
    ap (λ (x : List Waiting). record { waiting = x; below = b.below }) (e ∙ changed-newest line f b.waiting i a n)
    ∙ sym (cond-true (holds line b.waiting) (held_changed line f b) other (newest-holds line b.waiting i n))
