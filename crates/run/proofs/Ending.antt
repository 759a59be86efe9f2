-- A closed run squares with its ledger.
use Rattle.std.proofs.Common.{◌≡◌, ℕ, List, length, sym, refl, subst}
use Rattle.rules.specs.declared.tally.Tally.{Tally}
use Rattle.rules.specs.Accesses.{settled}
use Rattle.rules.specs.Systems.{System, at_work, closed}
use Rattle.rules.specs.Ledgers.{Ledger}
use Rattle.rules.specs.Coherence.{Sized, Since, Equals}
use Rattle.rules.proofs.Promises.{since-promised}
use Rattle.run.specs.Views.{sizes}
use Rattle.run.specs.Closings.{Balanced, Squared}

-- closing gives what the settle leaves
pub closed-memory : (s : System) → (closed s).memory ≡ (settled (at_work s)).memory
unfolding closed
closed-memory s = refl

pub closed-tally : (s : System) → (closed s).tally ≡ (settled (at_work s)).tally
unfolding closed
closed-tally s = refl

pub closed-lines : (s : System) → (closed s).lines ≡ length (settled (at_work s)).records
unfolding closed
closed-lines s = refl

-- against the ledger, whatever calls came before
pub squares : (s : System) (lines bottom : List (List ℕ)) (tally : Tally) → lines ≡ (closed s).memory → bottom ≡ (closed s).memory → tally ≡ (closed s).tally
    → (seats sets count : ℕ) (l : Ledger) → Since (sizes seats sets count) s l → Squared (sizes seats sets count) lines bottom tally l
squares s lines bottom tally a b t seats sets count l since =
    let p = since-promised (sizes seats sets count) s l since in
    record {
      reads = subst (λ (x : List (List ℕ)). Equals (sizes seats sets count) x l) (sym a) p.closes;
      bottom = subst (λ (x : List (List ℕ)). Equals (sizes seats sets count) x l) (sym b) p.closes;
      sized = subst (λ (x : List (List ℕ)). Sized (sizes seats sets count) x) (sym a) p.sized_at_closing;
      balanced = subst Balanced (sym t) p.closing;
    }
