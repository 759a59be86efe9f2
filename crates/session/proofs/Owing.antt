-- What the accesses of a text owe the ledger.
use Rattle.std.proofs.Common.{◌≡◌, ℕ, List, None, Option, ap}
use Rattle.rules.specs.Systems.{System, due_in, outcome, outcome_if}
use Rattle.rules.specs.Ledgers.{Ledger, ledger_after}
use Rattle.rules.specs.Coherence.{addresses, Since, calling}
use Rattle.rules.proofs.Promises.{since-promised}
use Rattle.run.specs.Views.{sizes}
use Rattle.trace.specs.declared.access.Access.{Access}
use Rattle.trace.specs.declared.access.Access.TheVariants.{Read, Write, Flush, Settle}
use Rattle.trace.specs.Faults.{Stop}
use Rattle.account.specs.Accounts.{Performed}
use Rattle.session.specs.Plays.{call_of, Plays, ends, unsound, refuses, performs}
use Rattle.session.specs.Texts.{calls_of, Owes, OwesEach}

module _ (seats sets lines : ℕ) where
  -- an answered access
  owes : (a : Access) {s : System} {l : Ledger} → Since (sizes seats sets lines) s l → due_in 4 s (call_of a) ≡ None → Owes l a (outcome 4 (call_of a) s).answer
  unfolding outcome
  owes (Read seat address) {s} {l} since e = (since-promised (sizes seats sets lines) s l since).reads seat address 4 e
  owes (Write seat address value) {s} since e = ap (λ (d : Option _). (outcome_if 4 d (call_of (Write seat address value)) s).answer) e
  owes (Flush seat address) since e = tt
  owes Settle since e = tt

  -- accesses in turn
  pub owes-each :
      {t : List ℕ} {i : ℕ} {s : System} {ps : List Performed} {stop : Option Stop} {last : System} {l : Ledger}
      → Plays t i s ps stop last → Since (sizes seats sets lines) s l
      → OwesEach (sizes seats sets lines) l ps × Since (sizes seats sets lines) last (ledger_after seats (addresses (sizes seats sets lines)) (calls_of ps) l)
  owes-each (ends h) since = (tt, since)
  owes-each (unsound f h p) since = (tt, since)
  owes-each (refuses a j told h p q) since = (tt, since)
  owes-each (performs a j h p q r) since =
      let rest = owes-each r (calling since (call_of a)) in
      ((owes a since q, rest.0), rest.1)
