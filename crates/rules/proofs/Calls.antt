-- Opening and each call keep a run in step with its ledger.
--
-- InStep   the run's lines have newest words, which are the ledger's, and the counts are the same
use Rattle.std.proofs.Common.{◌≡◌, ℕ, zero, suc, ◌+◌, ◌*◌, ◌/◌, ◌%◌, ◌<◌, ◌≤◌, Bool, true, false, cond, eqb, ltb, leb, ◌≢◌, List, [], length, get_or, set, replicate, Some, None, Option, sym, refl, ap, ◌∙◌, subst, ⊎_elim, mod-lt, div-lt_iff_lt-mul, arith}
use native.Mathlib.Nat.{div-add-mod}
use Rattle.std.proofs.lemmas.Bool.{cases_eq, cases_lt, eq-eqb, ne_eqb, leb-false, cond-true, cond-false, false≢true}
use Rattle.std.proofs.lemmas.List.{get_or-set_same, get_or-set_other, get_or_past, get_or-replicate, length-replicate}
use Rattle.refusal.specs.Refusals.{Told, plain}
use Rattle.protocol.specs.declared.state.State.TheVariants.{Invalid}
use Rattle.protocol.specs.States.{valid}
use Rattle.protocol.specs.Cells.{Lawful}
use Rattle.rules.specs.declared.call.Call.{Call}
use Rattle.rules.specs.declared.call.Call.TheVariants.{Read, Write, Flush, Settle}
use Rattle.rules.specs.Columns.{Copy, none, state_at}
use Rattle.rules.specs.Transactions.{Protocol}
use Rattle.rules.specs.Caches.{Cache, look, fresh}
use Rattle.rules.specs.Tallies.{one_read, one_write}
use Rattle.rules.specs.Machines.{Machine, copies_of, copies_held, holds}
use Rattle.rules.specs.Accesses.{counting}
use Rattle.rules.specs.Systems.{System, opened, at_work, limit, places_needed, due_access, due, due_in, word_of, reached, ended, outcome_if, outcome}
use Rattle.rules.specs.Ledgers.{Ledger, begun, entered_if, entered}
use Rattle.rules.specs.Coherence.{Sizes, addresses, Sized, Since, opening, calling}
use Rattle.rules.proofs.Tables.{agree-unheld}
use Rattle.rules.proofs.Lines.{Coherent}
use Rattle.rules.proofs.Caches.{Wf, fresh-wf, fresh-look, fresh-held}
use Rattle.rules.proofs.Machines.{column-at}
use Rattle.rules.proofs.Steps.{Good, flushed-good}
use Rattle.rules.proofs.Accesses.{fetched-good, written-good}
use Rattle.rules.proofs.Settling.{settled-good}

-- a run in step with its ledger
pub record InStep (z : Sizes) (s : System) (l : Ledger) : Type 0 where
  pub lawful : Lawful s.cell
  pub wide : 0 < z.width
  pub truth : List (List ℕ)
  pub good : Good z truth (at_work s)
  pub words : (a : ℕ) → a < addresses z → word_of z.width truth a ≡ l.word a
  pub count : s.answered ≡ l.count

-- the line of an address
pub line_of : (z : Sizes) → 0 < z.width → (a : ℕ) → a < addresses z → a / z.width < z.lines
line_of z w a l = (div-lt_iff_lt-mul w).1 l

-- opening
fresh-seat : (seats sets n k : ℕ) → look (get_or (replicate seats (fresh sets 1)) k []) n ≡ none
unfolding look
fresh-seat seats sets n k =
    ⊎_elim (λ l. ap (λ (c : Cache). look c n) (get_or-replicate seats k (fresh sets 1) [] l) ∙ fresh-look sets 1 n)
    (λ l. ap (λ (c : Cache). look c n) (get_or_past (replicate seats (fresh sets 1)) k [] (subst (λ (i : ℕ). i ≤ k) (sym (length-replicate seats (fresh sets 1))) l)))
    (cases_lt k seats)

fresh-state : (seats sets n k : ℕ) → state_at (copies_of n (replicate seats (fresh sets 1))) k ≡ Invalid
fresh-state seats sets n k = ap (λ (x : Copy). x.state) (column-at n (replicate seats (fresh sets 1)) k ∙ fresh-seat seats sets n k)

fresh-copies : (seats sets : ℕ) → copies_held (replicate seats (fresh sets 1)) ≡ 0
fresh-copies zero sets = refl
fresh-copies (suc seats) sets = omega (arith, fresh-held sets 1, fresh-copies seats sets)

fresh-coherent : (seats sets n : ℕ) (home : List ℕ) → Coherent (record { copies = copies_of n (replicate seats (fresh sets 1)); home = home }) home
fresh-coherent seats sets n home = record {
  apart = λ i j ne. agree-unheld (state_at (copies_of n (replicate seats (fresh sets 1))) i) (state_at (copies_of n (replicate seats (fresh sets 1))) j) (ap valid (fresh-state seats sets n j));
  current = λ i e. absurd (false≢true (sym (ap valid (fresh-state seats sets n i)) ∙ e));
  safe = λ _. refl;
  wide = refl;
}

pub opened-in-step :
    (z : Sizes) (cell : Protocol) → Lawful cell → 0 < z.sets → 0 < z.width → (memory : List (List ℕ)) → Sized z memory
    → InStep z (opened cell z.seats z.sets memory) (begun z.width memory)
opened-in-step z cell law sets width memory sized = record {
  lawful = law;
  wide = width;
  truth = memory;
  good = record {
    sound = record {
      truths = sized.lines;
      widths = sized.words;
      seated = length-replicate z.seats (fresh z.sets 1);
      lined = sized.lines;
      order = λ k l. subst (Wf z.lines z.sets)
          (sym (get_or-replicate z.seats k (fresh z.sets 1) [] (subst (λ (i : ℕ). k < i) (length-replicate z.seats (fresh z.sets 1)) l)))
          (fresh-wf z.lines z.sets 1 sets (omega arith));
      each = λ n l. fresh-coherent z.seats z.sets n (get_or memory n []);
    };
    balanced = omega (arith, fresh-copies z.seats z.sets);
  };
  words = λ a l. refl;
  count = refl;
}

-- an access that is not refused is on the bus and within memory
no-some : {A : Type 0} {P : Type 0} (x : A) → Some x ≡ None → P
no-some x e = let q : ◌≡◌ {A = ℕ} 0 1 = cc in absurd (omega arith)

pub access-fine : (answered counts seats addresses seat address places : ℕ) → due_access answered counts seats addresses seat address places ≡ None → (seat < seats) × (address < addresses)
access-fine answered counts seats addresses seat address places e =
    elim (ltb limit (answered + counts)) as
    (λ b. cond b (Some (plain 5)) (cond (leb seats seat) (Some (plain 6)) (cond (leb addresses address) (Some (plain 7)) (cond (ltb places places_needed) (Some (plain 8)) None))) ≡ None → (seat < seats) × (address < addresses)) [
      | true ↦ λ h. no-some (plain 5) h
      | false ↦
          elim (leb seats seat) as
          (λ b. leb seats seat ≡ b → cond b (Some (plain 6)) (cond (leb addresses address) (Some (plain 7)) (cond (ltb places places_needed) (Some (plain 8)) None)) ≡ None → (seat < seats) × (address < addresses)) [
            | true ↦ λ p h. no-some (plain 6) h
            | false ↦ λ p.
                elim (leb addresses address) as
                (λ b. leb addresses address ≡ b → cond b (Some (plain 7)) (cond (ltb places places_needed) (Some (plain 8)) None) ≡ None → (seat < seats) × (address < addresses))
                [ true ↦ λ q h. no-some (plain 7) h | false ↦ λ q h. (leb-false seats seat p, leb-false addresses address q) ] refl
          ] refl
    ] e

-- counting a read or a write leaves the balance
read-counted : {z : Sizes} {truth : List (List ℕ)} {m : Machine} (b : Bool) → Good z truth m → Good z truth (counting (one_read b) m)
read-counted true ok = record { sound = ok.sound; balanced = ok.balanced }
read-counted false ok = record { sound = ok.sound; balanced = ok.balanced }

write-counted : {z : Sizes} {truth : List (List ℕ)} {m : Machine} (b : Bool) → Good z truth m → Good z truth (counting (one_write b) m)
write-counted true ok = record { sound = ok.sound; balanced = ok.balanced }
write-counted false ok = record { sound = ok.sound; balanced = ok.balanced }

-- the words after a write
module _ (z : Sizes) (truth : List (List ℕ)) (wide : 0 < z.width) (lines : length truth ≡ z.lines)
    (widths : (n : ℕ) → n < z.lines → length (get_or truth n []) ≡ z.width) (address value : ℕ) (l : address < addresses z) where
  abbrev line_now : List ℕ
  line_now = set (get_or truth (address / z.width) []) (address % z.width) value

  abbrev lines_now : List (List ℕ)
  lines_now = set truth (address / z.width) line_now

  line-now : get_or lines_now (address / z.width) [] ≡ line_now
  line-now = get_or-set_same truth (address / z.width) line_now [] (subst (λ (k : ℕ). address / z.width < k) (sym lines) (line_of z wide address l))

  word-now : word_of z.width lines_now address ≡ value
  word-now =
      ap (λ (w : List ℕ). get_or w (address % z.width) 0) line-now
      ∙ get_or-set_same (get_or truth (address / z.width) []) (address % z.width) value 0
      (subst (λ (k : ℕ). address % z.width < k) (sym (widths (address / z.width) (line_of z wide address l))) (mod-lt address wide))

  word-other : (a : ℕ) → a ≢ address → word_of z.width lines_now a ≡ word_of z.width truth a
  word-other a ne =
      ⊎_elim
      (λ p. ap (λ (k : ℕ). get_or (get_or lines_now k []) (a % z.width) 0) p
      ∙ ap (λ (w : List ℕ). get_or w (a % z.width) 0) line-now
      ∙ get_or-set_other (get_or truth (address / z.width) []) (address % z.width) (a % z.width) value 0
      (λ q. ne (sym (div-add-mod a z.width) ∙ ap (λ (k : ℕ). z.width * k + a % z.width) p ∙ ap (λ (k : ℕ). z.width * (address / z.width) + k) q ∙ div-add-mod address z.width))
      ∙ ap (λ (k : ℕ). get_or (get_or truth k []) (a % z.width) 0) (sym p))
      (λ p. ap (λ (w : List ℕ). get_or w (a % z.width) 0) (get_or-set_other truth (address / z.width) (a / z.width) line_now [] p))
      (cases_eq (a / z.width) (address / z.width))

  written-word : (a : ℕ) → word_of z.width lines_now a ≡ cond (eqb a address) value (word_of z.width truth a)
  written-word a =
      ⊎_elim
      (λ p. subst (λ (i : ℕ). word_of z.width lines_now i ≡ cond (eqb i address) value (word_of z.width truth i)) (sym p)
      (word-now ∙ sym (cond-true (eqb address address) value (word_of z.width truth address) (eq-eqb address address refl))))
      (λ p. word-other a p ∙ sym (cond-false (eqb a address) value (word_of z.width truth a) (ne_eqb a address p)))
      (cases_eq a address)

-- the run and the ledger refuse alike
pub refuses-alike : {z : Sizes} {s : System} {l : Ledger} → InStep z s l → (call : Call) → due_in z.width s call ≡ due l.count z.seats (addresses z) call
refuses-alike {z} {s} {l} k call =
    ap (λ (n : ℕ). due n (length s.caches) (length s.memory * z.width) call) k.count
    ∙ ap (λ (n : ℕ). due l.count n (length s.memory * z.width) call) k.good.sound.seated
    ∙ ap (λ (n : ℕ). due l.count z.seats (n * z.width) call) k.good.sound.lined

module _ (z : Sizes) (s : System) (l : Ledger) (k : InStep z s l) where
  -- an access that is not refused
  pub access-on :
      (counts seat address places : ℕ) → due_access s.answered counts (length s.caches) (length s.memory * z.width) seat address places ≡ None
      → (seat < z.seats) × (address < addresses z)
  access-on counts seat address places e =
      let f = access-fine s.answered counts (length s.caches) (length s.memory * z.width) seat address places e in (
        subst (λ (n : ℕ). seat < n) k.good.sound.seated f.0,
        subst (λ (n : ℕ). address < n * z.width) k.good.sound.lined f.1,
      )

  -- an answered call
  answered-in-step : (call : Call) → due_in z.width s call ≡ None → InStep z (ended z.width call s (reached z.width call s)).system (entered_if None call l)
  answered-in-step (Read seat address places) e =
      let on = access-on 1 seat address places e in
      let g = read-counted (holds seat (address / z.width) (at_work s)) (fetched-good z s.cell k.lawful (address / z.width) (line_of z k.wide address on.1) seat on.0 k.truth (at_work s) k.good).0 in
      record { lawful = k.lawful; wide = k.wide; truth = k.truth; good = record { sound = g.sound; balanced = g.balanced }; words = k.words; count = ap (λ (n : ℕ). n + 1) k.count }
  answered-in-step (Write seat address value places) e =
      let on = access-on 1 seat address places e in
      let n = address / z.width in
      let g = write-counted (holds seat n (at_work s)) (written-good z s.cell k.lawful n (line_of z k.wide address on.1) seat on.0 (address % z.width) value k.truth (at_work s) k.good) in
      record {
        lawful = k.lawful;
        wide = k.wide;
        truth = set k.truth n (set (get_or k.truth n []) (address % z.width) value);
        good = record { sound = g.sound; balanced = g.balanced };
        words = λ a h.
            written-word z k.truth k.wide k.good.sound.truths k.good.sound.widths address value on.1 a
            ∙ ap (λ (w : ℕ). cond (eqb a address) value w) (k.words a h);
        count = ap (λ (n : ℕ). n + 1) k.count;
      }
  answered-in-step (Flush seat address places) e =
      let on = access-on 1 seat address places e in
      let g = flushed-good z k.truth (address / z.width) (line_of z k.wide address on.1) seat on.0 (at_work s) k.good in
      record { lawful = k.lawful; wide = k.wide; truth = k.truth; good = record { sound = g.sound; balanced = g.balanced }; words = k.words; count = ap (λ (n : ℕ). n + 1) k.count }
  answered-in-step Settle e =
      let g = settled-good z k.truth (at_work s) k.good in
      record { lawful = k.lawful; wide = k.wide; truth = k.truth; good = record { sound = g.sound; balanced = g.balanced }; words = k.words; count = ap (λ (n : ℕ). n + 1) k.count }

  call_if : (o : Option Told) (call : Call) → due_in z.width s call ≡ o → InStep z (outcome_if z.width o call s).system (entered_if o call l)
  call_if None call e = answered-in-step call e
  call_if (Some x) call e = k

  -- every call keeps the run in step
  pub called-in-step : (call : Call) → InStep z (outcome z.width call s).system (entered z.seats (addresses z) call l)
  unfolding outcome
  called-in-step call =
      subst (λ (o : Option Told). InStep z (outcome_if z.width (due_in z.width s call) call s).system (entered_if o call l)) (refuses-alike k call)
      (call_if (due_in z.width s call) call refl)

-- since its opening a run is in step with its ledger
pub in_step : {z : Sizes} {s : System} {l : Ledger} → Since z s l → InStep z s l
in_step {z} (opening cell law sets width memory sized) = opened-in-step z cell law sets width memory sized
in_step {z} (calling {s} {l} before call) = called-in-step z s l (in_step before) call
