-- What the transaction chosen makes of a write: the rule of the write is the rule of that transaction.
use Rattle.std.proofs.Common.{◌≡◌, ℕ, List, [], take, Some, None, sym, refl, ap, ◌∙◌, arith}
use Rattle.protocol.specs.declared.state.State.{State}
use Rattle.protocol.specs.declared.transaction.Transaction.{Transaction}
use Rattle.protocol.specs.Cells.{Lawful}
use Rattle.rules.specs.Columns.{state_at}
use Rattle.rules.specs.Transactions.{Protocol, silent}
use Rattle.rules.specs.Machines.{copies_of, change}
use Rattle.rules.specs.Accesses.{sent_by, written_held}
use Rattle.caches.specs.Views.{caches_of}
use Rattle.bus.specs.declared.bus.Bus.{Bus}
use Rattle.bus.specs.declared.log.Log.{Log}
use Rattle.bus.specs.Choices.{chosen}
use Rattle.bus.specs.Machines.{machine_of, Holds, Obeys, Tells}
use Rattle.bus.proofs.Cases.{written_held-at}
use Rattle.bus.proofs.Choosing.{sent-by, sent-none}
use Rattle.bus.proofs.Obeying.{unlogged, renamed}

module _ {P M A : Type 0} (lines : M → List (List ℕ)) (aside : M → A) (b : Bus P M) (cell : Protocol) (r n o v : ℕ) where
  -- a line that the seat holds, its copy in state s
  module _ (law : Lawful cell) (held : Holds r n b.caches) (s : State) (at : s ≡ state_at (copies_of n (caches_of b.caches)) r) where
    -- by the transaction that its cell names
    pub held-sent : (t : Transaction) → Some t ≡ chosen (cell r) s → {x y : Log} {b' : Bus P M} → Tells lines aside (sent_by cell r n o v (Some t)) 2 14 x y b b' → Tells lines aside (written_held cell r n o v) 2 14 x y b b'
    held-sent t choice {x = x} told =
        let m = machine_of lines (take x.made x.places.now) b in
        let state = state_at (copies_of n (caches_of b.caches)) r in
        renamed lines aside told
        (sym (sent-by cell law r n o v m state t held (ap (chosen (cell r)) (sym at) ∙ sym choice)) ∙ sym (written_held-at cell r n o v m state refl))
        (omega arith) (omega arith)

    -- by none
    pub held-silent : None ≡ chosen (cell r) s → {b' : Bus P M} (x : Log) → Obeys lines aside (change n (silent r o v)) [] 0 b b' → Tells lines aside (written_held cell r n o v) 2 14 x x b b'
    held-silent choice x done =
        let m = machine_of lines (take x.made x.places.now) b in
        let state = state_at (copies_of n (caches_of b.caches)) r in
        renamed lines aside (unlogged lines aside x done)
        (sym (sent-none cell law r n o v m state held (ap (chosen (cell r)) (sym at) ∙ sym choice)) ∙ sym (written_held-at cell r n o v m state refl))
        (omega arith) (omega arith)
