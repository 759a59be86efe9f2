-- The accesses of a text, read and performed line by line.
--
-- call_of       the call that an access makes: each lends four places for bus records
-- states_on     the state of a line in each seat
-- performed_on  an access performed on a system of the rules: answer, states of its line afterwards, records
-- Plays        from a byte of the text and a system on: the accesses performed, what stopped them, the system at the end
-- History      a system that calls since an opening have led to
use Rattle.std.specs.Prelude.{◌≡◌, ℕ, ◌/◌, ◌<◌, ◌≤◌, List, [], ◌∷◌, map, length, Some, None, Ok, Err, Option}
use Rattle.refusal.specs.Refusals.{Told}
use Rattle.protocol.specs.declared.state.State.{State}
use Rattle.rules.specs.declared.call.Call.{Call}
use Rattle.rules.specs.declared.call.Call.TheVariants as call
use Rattle.rules.specs.Machines.{copies_of}
use Rattle.rules.specs.Systems.{System, due_in, outcome}
use Rattle.rules.specs.Ledgers.{Ledger}
use Rattle.rules.specs.Coherence.{Since}
use Rattle.run.specs.Views.{sizes}
use Rattle.trace.specs.declared.access.Access.{Access}
use Rattle.trace.specs.declared.access.Access.TheVariants.{Read, Write, Flush, Settle}
use Rattle.trace.specs.declared.fault.LineFault.{LineFault}
use Rattle.trace.specs.Faults.{Stop, line_stop}
use Rattle.trace.specs.Lines.{access_at}
use Rattle.account.specs.Accounts.{Performed}

-- the call that an access makes
abbrev pub call_of : Access → Call
call_of (Read seat address) = call.Read seat address 4
call_of (Write seat address value) = call.Write seat address value 4
call_of (Flush seat address) = call.Flush seat address 4
call_of Settle = call.Settle

-- the state of line n in each seat
abbrev pub states_on : ℕ → System → List State
states_on n s = map (λ x. x.state) (copies_of n s.caches)

-- the states of the line of an access; a settle has none
abbrev pub states_of : Access → System → List State
states_of (Read seat address) s = states_on (address / 4) s
states_of (Write seat address value) s = states_on (address / 4) s
states_of (Flush seat address) s = states_on (address / 4) s
states_of Settle s = []

-- an access performed
abbrev pub performed_on : Access → System → Performed
performed_on a s = record {
  access = a;
  answer = (outcome 4 (call_of a) s).answer;
  states = states_of a (outcome 4 (call_of a) s).system;
  records = (outcome 4 (call_of a) s).records;
}

-- the access lines of text t from byte i on, on a system
pub data Plays (t : List ℕ) : ℕ → System → List Performed → Option Stop → System → Type 0 where
  -- the text ends
  ends : {i : ℕ} {s : System} → length t ≤ i → Plays t i s [] None s
  -- a line is not sound: its fault stops the text, and nothing behind it is read
  unsound :
      {i : ℕ} {s : System} (f : LineFault) → i < length t → access_at t i ≡ Err f
      → Plays t i s [] (Some (line_stop f)) s
  -- an access is refused: that stops the text at the line's first byte
  refuses :
      {i : ℕ} {s : System} (a : Access) (j : ℕ) (told : Told) → i < length t → access_at t i ≡ Ok (a, j) → due_in 4 s (call_of a) ≡ Some told
      → Plays t i s [] (Some (record { told = told; byte = i })) s
  -- an access is performed, and the text goes on behind its line
  performs :
      {i : ℕ} {s : System} {ps : List Performed} {stop : Option Stop} {last : System} (a : Access) (j : ℕ)
      → i < length t → access_at t i ≡ Ok (a, j) → due_in 4 s (call_of a) ≡ None
      → Plays t j (outcome 4 (call_of a) s).system ps stop last → Plays t i s (performed_on a s ∷ ps) stop last

-- calls since an opening have led to this system, beside this ledger
pub record History (s : System) : Type 0 where
  pub seats : ℕ
  pub sets : ℕ
  pub lines : ℕ
  pub ledger : Ledger
  pub since : Since (sizes seats sets lines) s ledger
