-- What the functions below the run of a text do; their contracts cite it.
--
-- IsWithin   the line of an access lies in memory
-- Made       an access was performed, or refused
-- MadeNext     the same, of the line that begins at a byte
-- Led        an access performed, and the text goes on behind its line
-- Next       the next access line: performed, or the end of the text, or what stopped it
use Rattle.std.specs.Prelude.{◌≡◌, ℕ, ◌/◌, ◌<◌, ◌≤◌, List, [], ◌∷◌, length, Some, None, Ok, Err, Option, Result}
use Rattle.refusal.specs.declared.Refusal.{Refusal}
use Rattle.refusal.specs.Refusals.{Answered}
use Rattle.rules.specs.Systems.{System, due_in, outcome}
use Rattle.trace.specs.declared.access.Access.{Access}
use Rattle.trace.specs.declared.access.Access.TheVariants.{Read, Write, Flush, Settle}
use Rattle.trace.specs.declared.fault.TraceFault.{TraceFault}
use Rattle.trace.specs.declared.fault.TraceFault.TheVariants.{Refused}
use Rattle.trace.specs.Faults.{Stop, trace_stop}
use Rattle.account.specs.declared.step.Step.{Step}
use Rattle.account.specs.Accounts.{Performed, performed}
use Rattle.session.specs.Plays.{call_of, performed_on, Plays}

-- the line of an access lies in memory; a settle is of no line
abbrev pub IsWithin : Access → System → Type 0
IsWithin (Read seat address) s = address / 4 < length s.memory
IsWithin (Write seat address value) s = address / 4 < length s.memory
IsWithin (Flush seat address) s = address / 4 < length s.memory
IsWithin Settle s = Unit {0}

-- an access was performed, or refused, by the system before and after it
pub record Made (a : Access) (before after : System) (r : Result Step Refusal) : Type 0 where
  pub answers : Answered (due_in 4 before (call_of a)) (λ s. performed s ≡ performed_on a before) r
  pub system : after ≡ (outcome 4 (call_of a) before).system

-- the same of the access whose line begins at a byte, if the text does not end there: its step, none at the end, or the fault
abbrev pub MadeNext : Option Access → ℕ → System → System → Result (Option Step) TraceFault → Type 0
MadeNext None byte before after (Ok None) = after ≡ before
MadeNext None byte before after (Ok (Some step)) = ⊥
MadeNext None byte before after (Err f) = ⊥
MadeNext (Some a) byte before after (Ok None) = ⊥
MadeNext (Some a) byte before after (Ok (Some step)) = Made a before after (Ok step)
MadeNext (Some a) byte before after (Err f) = (e : Refusal) × (f ≡ Refused byte e) × Made a before after (Err e)

-- an access that was performed stands in front of whatever is performed behind it
pub record Led (t : List ℕ) (i : ℕ) (before : System) (step : Step) (j : ℕ) (after : System) : Type 0 where
  pub leads : (ps : List Performed) (stop : Option Stop) (last : System) → Plays t j after ps stop last → Plays t i before (performed step ∷ ps) stop last
  pub further : i < j
  pub within : j ≤ length t

-- the next access line of text t from byte i on, to before byte j where it is performed
abbrev pub Next : List ℕ → ℕ → System → Result (Option Step) TraceFault → ℕ → System → Type 0
Next t i before (Ok None) j after = Plays t i before [] None after
Next t i before (Ok (Some step)) j after = Led t i before step j after
Next t i before (Err f) j after = Plays t i before [] (Some (trace_stop f)) after
