-- What the transaction chosen says of the rule of a write.
use Rattle.std.proofs.Common.{◌≡◌, ℕ, Bool, true, false, ◌||◌, eqb, is_some, Some, None, codes, Option, sym, refl, ap, ⊎_elim}
use Rattle.std.proofs.lemmas.Bool.{false≢true, both_ways, or_cases, eqb-true}
use Rattle.protocol.specs.declared.state.State.{State}
use Rattle.protocol.specs.declared.state.State.TheVariants.{Invalid, Shared, Exclusive, Owned, Modified}
use Rattle.protocol.specs.declared.transaction.Transaction.{Transaction}
use Rattle.protocol.specs.declared.transaction.Transaction.TheVariants.{ThroughInvalidate}
use Rattle.protocol.specs.States.{valid}
use Rattle.protocol.specs.Cells.{Lawful, among}
use Rattle.protocol.specs.Transactions.{digit_transaction}
use Rattle.rules.specs.Transactions.{Protocol, silent}
use Rattle.rules.specs.Machines.{Machine, change}
use Rattle.rules.specs.Accesses.{sent_by, written_at}
use Rattle.rules.proofs.Tables.{within}
use Rattle.bus.specs.Choices.{code_at, chosen}

unsaid : (o : Option Transaction) → is_some o ≡ true → o ≡ None → {A : Type 0} → A
unsaid o s e = absurd (both_ways (is_some o) (ap is_some e) s)

module _ (cell : Protocol) (law : Lawful cell) (r n o v : ℕ) (m : Machine) where
  -- a held copy whose write makes a transaction
  pub sent-by : (s : State) (t : Transaction) → valid s ≡ true → chosen (cell r) s ≡ Some t → written_at cell r n o v s m ≡ sent_by cell r n o v (Some t) m
  sent-by Invalid t h e = absurd (false≢true h)
  sent-by Shared t h e = ap (λ (x : Option Transaction). sent_by cell r n o v x m) e
  sent-by Exclusive t h e = absurd (both_ways (is_some (chosen (cell r) Exclusive)) refl (ap is_some e))
  sent-by Owned t h e = ap (λ (x : Option Transaction). sent_by cell r n o v x m) e
  sent-by Modified t h e = absurd (both_ways (is_some (chosen (cell r) Modified)) refl (ap is_some e))

  -- a held copy whose write makes none
  pub sent-none : (s : State) → valid s ≡ true → chosen (cell r) s ≡ None → written_at cell r n o v s m ≡ change n (silent r o v) m
  sent-none Invalid h e = absurd (false≢true h)
  sent-none Shared h e = unsaid (chosen (cell r) Shared) (within (λ b. is_some (digit_transaction b)) (cell r 1) (codes "3456") (law r 1) refl) e
  sent-none Exclusive h e = refl
  sent-none Owned h e = unsaid (chosen (cell r) Owned) (within (λ b. is_some (digit_transaction b)) (cell r 2) (codes "3456") (law r 2) refl) e
  sent-none Modified h e = refl

-- where the law leaves one byte
sixth : (b : ℕ) → b ≡ 54 → Some ThroughInvalidate ≡ digit_transaction b
sixth b e = ap digit_transaction (sym e)

last_of : (b x : ℕ) (more : Bool) → (eqb b x || more) ≡ true → (b ≡ x → ⊥) → more ≡ true
last_of b x more e ne = ⊎_elim (λ p. absurd (ne (eqb-true b x p))) (λ p. p) (or_cases (eqb b x) more e)

sixth-left : (b : ℕ) → (eqb b 54 || false) ≡ true → b ≡ 54
sixth-left b e = ⊎_elim (λ p. eqb-true b 54 p) (λ p. absurd (false≢true p)) (or_cases (eqb b 54) false e)

pub missed-rest : (b : ℕ) → among b (codes "126") ≡ true → (b ≡ 49 → ⊥) → (b ≡ 50 → ⊥) → Some ThroughInvalidate ≡ digit_transaction b
missed-rest b e n n' = sixth b (sixth-left b (last_of b 50 (eqb b 54 || false) (last_of b 49 (eqb b 50 || (eqb b 54 || false)) e n) n'))

pub sent-rest : (b : ℕ) → among b (codes "3456") ≡ true → (b ≡ 51 → ⊥) → (b ≡ 52 → ⊥) → (b ≡ 53 → ⊥) → Some ThroughInvalidate ≡ digit_transaction b
sent-rest b e n n' n'' =
    sixth b
    (sixth-left b
    (last_of b 53 (eqb b 54 || false)
    (last_of b 52 (eqb b 53 || (eqb b 54 || false)) (last_of b 51 (eqb b 52 || (eqb b 53 || (eqb b 54 || false))) e n) n') n''))

-- the law of the byte at Shared and at Owned
pub sent-law : (cell : Protocol) → Lawful cell → (r : ℕ) (s : State) → (s ≡ Invalid → ⊥) → (s ≡ Exclusive → ⊥) → (s ≡ Modified → ⊥) → among (code_at (cell r) s) (codes "3456") ≡ true
sent-law cell law r Invalid a b c = absurd (a refl)
sent-law cell law r Shared a b c = law r 1
sent-law cell law r Exclusive a b c = absurd (b refl)
sent-law cell law r Owned a b c = law r 2
sent-law cell law r Modified a b c = absurd (c refl)
