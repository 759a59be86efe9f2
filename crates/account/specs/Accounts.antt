-- The account of a text as its reader knows it; the contracts of the run of a text and of the report cite it.
--
-- Performed  one access: its answer, the state of its line in each seat, the bus records that it made
-- Halt       what stopped a text: the refusal told, the line counted from 1, the byte counted from 0
-- Outcome    a text refused before its first access; or its accesses performed, what stopped them, and the closing
-- performed, halted, outcome_of   the same of the code's step, stop and account
use Rattle.std.specs.Prelude.{ℕ, List, map, take, vec_items, Option, Result, Ok, Err}
use Rattle.std.specs.Option.{option_map}
use Rattle.refusal.specs.Refusals.{Told}
use Rattle.protocol.specs.declared.state.State.{State}
use Rattle.rules.specs.declared.record.Record.{Record}
use Rattle.rules.specs.Systems.{Closing}
use Rattle.memory.specs.declared.plain_memory.Plain.{Plain}
use Rattle.memory.specs.Words.{plain_lines}
use Rattle.run.specs.declared.closed.Closed.{Closed}
use Rattle.trace.specs.declared.access.Access.{Access}
use Rattle.trace.specs.Faults.{trace_stop}
use Rattle.account.specs.declared.account.Ran.{Ran}
use Rattle.account.specs.declared.step.Step.{Step}
use Rattle.account.specs.declared.stop.Stop.{Stop}

-- one access performed
pub record Performed : Type 0 where
  pub access : Access
  pub answer : ℕ
  pub states : List State
  pub records : List Record

-- what stopped a text
pub record Halt : Type 0 where
  pub told : Told
  pub line : ℕ
  pub byte : ℕ

-- what a text gives
pub data Outcome : Type 0 where
  refused : Halt → Outcome
  ran : List Performed → Option Halt → Closing → Outcome

-- a step of the code: of its two tables the first so many count
abbrev pub performed : Step → Performed
performed s = record {
  access = s.access;
  answer = s.answer;
  states = take s.states.count s.states.items;
  records = take s.records.count s.records.items;
}

-- a stop of the code
abbrev pub halted : Stop → Halt
halted s = record { told = (trace_stop s.fault).told; line = s.line; byte = (trace_stop s.fault).byte }

-- what closing gave
abbrev pub closing_of : Closed Plain → Closing
closing_of c = record { memory = plain_lines c.memory; tally = c.tally; lines = c.written }

-- an account of the code
abbrev pub outcome_of : Result Ran Stop → Outcome
outcome_of (Err s) = refused (halted s)
outcome_of (Ok r) = ran (map performed (vec_items r.steps)) (option_map halted r.stop) (closing_of r.closed)
