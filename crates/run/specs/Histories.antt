-- What a call owes the ledger, whatever calls came before it.
--
-- Since     a run stands so, and its ledger so, after an opening and any calls since, answered or refused
-- Promise   what then holds: one owner at most, an exclusive copy alone, every fill accounted for, the next replies the ledger's
-- Owed      what an answer owes the ledger
-- Joined    one more call on such a run: its reply is the ledger's, and the run and the ledger after it stand so again
-- Keeps     a call joins every such history
use Rattle.std.specs.Prelude.{◌≡◌, ℕ, List, Result}
use Rattle.refusal.specs.declared.Refusal.{Refusal}
use Rattle.refusal.specs.Refusals.{Answered}
use Rattle.rules.specs.declared.call.Call.{Call}
use Rattle.rules.specs.declared.call.Call.TheVariants.{Read, Write, Flush, Settle}
use Rattle.rules.specs.Systems.{System, due}
use Rattle.rules.specs.Ledgers.{Ledger, entered}
use Rattle.rules.specs.Coherence.{Sizes, addresses, Since, Equals, Promise}
use Rattle.bus.specs.declared.reply.Reply.{Reply}
use Rattle.run.specs.Views.{sizes}

-- what an answer owes the ledger: a read gives the word at its address, a write its value; after a settle memory has every word
abbrev pub Owed : Sizes → Call → Ledger → List (List ℕ) → ℕ → Type 0
Owed z (Read seat address places) l memory answer = answer ≡ l.word address
Owed z (Write seat address value places) l memory answer = answer ≡ value
Owed z (Flush seat address places) l memory answer = Unit {0}
Owed z Settle l memory answer = Equals z memory l

-- a call on a run that stands beside this ledger
pub record Joined (z : Sizes) (call : Call) (after : System) (l : Ledger) (r : Result Reply Refusal) : Type 0 where
  -- refused exactly when the ledger refuses it, with that number; an answer is what it owes the ledger
  pub replies : Answered (due l.count z.seats (addresses z) call) (λ a. Owed z call l after.memory a.value) r
  -- the history goes on with the ledger's next state
  pub since : Since z after (entered z.seats (addresses z) call l)
  -- and the promise holds after the call
  pub promise : Promise z after (entered z.seats (addresses z) call l)

-- a call joins every history of the run and its ledger
abbrev pub Keeps : Call → (before after : System) → Result Reply Refusal → Type 0
Keeps call before after r =
    (seats sets lines : ℕ) (l : Ledger) → Since (sizes seats sets lines) before l → Joined (sizes seats sets lines) call after l r
