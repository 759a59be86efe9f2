-- A run in step with its ledger keeps the promise, at opening and after every call.
use Rattle.std.proofs.Common.{◌≡◌, ℕ, ◌+◌, ◌/◌, ◌%◌, ◌<◌, true, false, ◌≢◌, List, [], ◌∷◌, length, get_or, Some, None, Option, sym, refl, ap, ◌∙◌, subst, ⊎_elim, arith}
use Rattle.std.proofs.lemmas.Bool.{cases_eq, cases_lt, both_ways}
use Rattle.refusal.specs.Refusals.{Told}
use Rattle.protocol.specs.States.{valid, exclusive, owned}
use Rattle.rules.specs.declared.call.Call.{Call}
use Rattle.rules.specs.declared.call.Call.TheVariants.{Read, Settle}
use Rattle.rules.specs.declared.tally.Tally.{Tally}
use Rattle.rules.specs.Columns.{Copy}
use Rattle.rules.specs.Caches.{look}
use Rattle.rules.specs.Machines.{Machine}
use Rattle.rules.specs.Accesses.{settled}
use Rattle.rules.specs.Systems.{System, state_on, opened, at_work, due_in, word_of, outcome_if, outcome, after, closed}
use Rattle.rules.specs.Ledgers.{Ledger, begun, ledger_after}
use Rattle.rules.specs.Coherence.{Sizes, addresses, Sized, Since, opening, calling, Equals, Promise, Coherence}
use Rattle.rules.proofs.Tables.{agree, both_own, lone, owned-valid, exclusive-valid}
use Rattle.rules.proofs.Caches.{look-line}
use Rattle.rules.proofs.Machines.{column-at}
use Rattle.rules.proofs.Steps.{Good}
use Rattle.rules.proofs.Accesses.{fetched-good}
use Rattle.rules.proofs.Settling.{beyond-clear, settled-good, settled-none, settled-memory}
use Rattle.rules.proofs.Calls.{InStep, line_of, access-on, refuses-alike, in_step}

closed-memory : (s : System) → (closed s).memory ≡ (settled (at_work s)).memory
unfolding closed
closed-memory s = refl

closed-tally : (s : System) → (closed s).tally ≡ (settled (at_work s)).tally
unfolding closed
closed-tally s = refl

-- memory of the agreed size
sized-from : {z : Sizes} {truth : List (List ℕ)} {m : Machine} → Good z truth m → Sized z m.memory
sized-from ok = record { lines = ok.sound.lined; words = λ n l. (ok.sound.each n l).wide ∙ ok.sound.widths n l }

module _ (z : Sizes) (s : System) (l : Ledger) (k : InStep z s l) where
  -- a held line is one of memory's
  held-line : (n i : ℕ) → valid (state_on s n i) ≡ true → n < z.lines
  held-line n i e =
      let h : valid (look (get_or s.caches i []) n).state ≡ true = ap (λ (x : Copy). valid x.state) (sym (column-at n s.caches i)) ∙ e in
      ⊎_elim (λ p. look-line z.lines z.sets (get_or s.caches i []) (k.good.sound.order i p) n h)
      (λ p. absurd (both_ways (valid (look (get_or s.caches i []) n).state) (beyond-clear s.caches i n p) h))
      (cases_lt i (length s.caches))

  apart : (n i j : ℕ) → n < z.lines → i ≢ j → agree (state_on s n i) (state_on s n j) ≡ true
  apart n i j h ne = (k.good.sound.each n h).apart i j ne

  one-owner : (n i j : ℕ) → owned (state_on s n i) ≡ true → owned (state_on s n j) ≡ true → i ≡ j
  one-owner n i j p q =
      ⊎_elim (λ e. e)
      (λ ne. absurd (both_ways (agree (state_on s n i) (state_on s n j)) (both_own (state_on s n i) (state_on s n j) p q) (apart n i j (held-line n i (owned-valid (state_on s n i) p)) ne)))
      (cases_eq i j)

  only-copy : (n i j : ℕ) → exclusive (state_on s n i) ≡ true → j ≢ i → valid (state_on s n j) ≡ false
  only-copy n i j p ne = lone (state_on s n i) (state_on s n j) p (apart n i j (held-line n i (exclusive-valid (state_on s n i) p)) (λ e. ne (sym e)))

  -- an answered read
  read_answer : (o : Option Told) (seat address places : ℕ) → due_in z.width s (Read seat address places) ≡ o → o ≡ None → (outcome_if z.width o (Read seat address places) s).answer ≡ l.word address
  read_answer (Some x) seat address places e n = let q : ◌≡◌ {A = ℕ} 0 1 = cc in absurd (omega arith)
  read_answer None seat address places e n =
      let on = access-on z s l k 1 seat address places e in
      let there = line_of z k.wide address on.1 in
      let g = fetched-good z s.cell k.lawful (address / z.width) there seat on.0 k.truth (at_work s) k.good in
      ap (λ (w : List ℕ). get_or w (address % z.width) 0) ((g.0.sound.each (address / z.width) there).current seat g.1)
      ∙ k.words address on.1

  answered-read : (seat address places : ℕ) → due_in z.width s (Read seat address places) ≡ None → (outcome z.width (Read seat address places) s).answer ≡ l.word address
  unfolding outcome
  answered-read seat address places e = read_answer (due_in z.width s (Read seat address places)) seat address places refl e

  -- after a settle
  settled-words : (a : ℕ) → a < addresses z → word_of z.width (settled (at_work s)).memory a ≡ l.word a
  settled-words a h = ap (λ (lines : List (List ℕ)). word_of z.width lines a) (settled-memory z k.truth (at_work s) k.good) ∙ k.words a h

  settle-words : (o : Option Told) → o ≡ None → Equals z (outcome_if z.width o Settle s).system.memory l
  settle-words (Some x) n = let q : ◌≡◌ {A = ℕ} 0 1 = cc in absurd (omega arith)
  settle-words None n = settled-words

  answered-settle : due_in z.width s Settle ≡ None → Equals z (outcome z.width Settle s).system.memory l
  unfolding outcome
  answered-settle e = settle-words (due_in z.width s Settle) e

  settled-balance : (settled (at_work s)).tally.fills ≡ (settled (at_work s)).tally.displaced + (settled (at_work s)).tally.flushed + (settled (at_work s)).tally.invalidated
  settled-balance = omega (arith, (settled-good z k.truth (at_work s) k.good).balanced, settled-none z k.truth (at_work s) k.good)

  -- what a run in step keeps
  pub promised : Promise z s l
  promised = record {
    owner = one-owner;
    alone = only-copy;
    refuses = refuses-alike k;
    reads = answered-read;
    settles = answered-settle;
    closes = subst (λ (lines : List (List ℕ)). Equals z lines l) (sym (closed-memory s)) settled-words;
    accounts = k.good.balanced;
    closing = subst (λ (t : Tally). t.fills ≡ t.displaced + t.flushed + t.invalidated) (sym (closed-tally s)) settled-balance;
    seats = k.good.sound.seated;
    sets = λ i h. (k.good.sound.order i (subst (λ (n : ℕ). i < n) (sym k.good.sound.seated) h)).sized;
    sized = sized-from k.good;
    sized_at_closing = subst (Sized z) (sym (closed-memory s)) (sized-from (settled-good z k.truth (at_work s) k.good));
  }

-- every run since its opening
pub since-promised : (z : Sizes) (s : System) (l : Ledger) → Since z s l → Promise z s l
since-promised z s l since = promised z s l (in_step since)

-- every list of calls is a history
pub since-calls : {z : Sizes} (calls : List Call) {s : System} {l : Ledger} → Since z s l → Since z (after z.width calls s) (ledger_after z.seats (addresses z) calls l)
since-calls [] since = since
since-calls (call ∷ calls) since = since-calls calls (calling since call)

pub coherence-holds : Coherence
coherence-holds = record {
  since = since-promised;
  always = λ cell law z sets width memory sized calls.
      since-promised z (after z.width calls (opened cell z.seats z.sets memory)) (ledger_after z.seats (addresses z) calls (begun z.width memory))
      (since-calls calls (opening cell law sets width memory sized));
}
