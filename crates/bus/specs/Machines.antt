-- The code's bus as the rules have it, and what a method of the bus promises.
--
-- machine_of   the machine of the rules that a bus stands for, with the records made so far
-- Holds       a seat's cache holds a line
-- Lacks       it does not
-- Free        it has room for the line
-- Stays       what every method leaves: the protocol, the sizes, memory's count and what it keeps aside; and how far the tally may grow
-- Obeys       a bus afterwards is what a rule makes of the bus before, and tells these records
-- Reaches     the same, of a call that puts the records into the places lent to it
-- Tells       the same, of a method that puts the records into a log
-- Settles     the same, of a method that keeps no records and answers the lines written
-- lines, aside   the meaning of the memory: what reads answer, and what no call changes
-- most        by how much the sum of the tally's numbers has grown at most
use Rattle.std.specs.Prelude.{◌≡◌, ℕ, ◌+◌, ◌≤◌, true, false, List, [], ◌++◌, length, take, drop, slice_index_or}
use Rattle.protocol.specs.States.{valid}
use Rattle.rules.specs.declared.record.Record.{Record}
use Rattle.rules.specs.Columns.{state_at}
use Rattle.rules.specs.Caches.{room}
use Rattle.rules.specs.Machines.{Machine, copies_of}
use Rattle.caches.specs.declared.table.Caches.{Caches}
use Rattle.caches.specs.Views.{caches_of}
use Rattle.bus.specs.declared.bus.Bus.{Bus}
use Rattle.bus.specs.declared.log.Log.{Log}
use Rattle.bus.specs.Totals.{total}

-- the machine that a bus stands for, with the records made so far
abbrev pub machine_of : {P M : Type 0} → (M → List (List ℕ)) → List Record → Bus P M → Machine
machine_of lines es b = record { caches = caches_of b.caches; memory = lines b.memory; tally = b.tally; records = es }

-- seat r holds line n
abbrev pub Holds : (r n : ℕ) → Caches → Type 0
Holds r n cs = valid (state_at (copies_of n (caches_of cs)) r) ≡ true

-- seat r does not hold line n
abbrev pub Lacks : (r n : ℕ) → Caches → Type 0
Lacks r n cs = valid (state_at (copies_of n (caches_of cs)) r) ≡ false

-- seat r has room for line n
abbrev pub Free : (r n : ℕ) → Caches → Type 0
Free r n cs = room (slice_index_or (caches_of cs) r []) n ≡ true

-- what stays, whatever is done
pub record Stays {P M A : Type 0} (lines : M → List (List ℕ)) (aside : M → A) (most : ℕ) (before after : Bus P M) : Type 0 where
  pub grown : total after.tally ≤ total before.tally + most
  pub protocol : after.protocol ≡ before.protocol
  pub apart : aside after.memory ≡ aside before.memory
  pub count : length (lines after.memory) ≡ length (lines before.memory)
  pub agreed : after.caches.agreed ≡ before.caches.agreed

-- the bus after is what the rule makes of the bus before, and the rule tells these records after whatever was told earlier
pub record Obeys {P M A : Type 0} (lines : M → List (List ℕ)) (aside : M → A) (rule : Machine → Machine) (told : List Record) (most : ℕ) (before after : Bus P M) : Type 0 where
  pub machine : (es : List Record) → machine_of lines (es ++ told) after ≡ rule (machine_of lines es before)
  pub stays : Stays lines aside most before after

-- the bus after is what the rule makes of the bus before, where the first places of the list are the records told:
-- made of them before, made' after, and at most so many more; the other places are as they were
pub record Reaches {P M A : Type 0} (lines : M → List (List ℕ)) (aside : M → A) (rule : Machine → Machine) (more most made made' : ℕ) (es es' : List Record) (before after : Bus P M) : Type 0 where
  pub machine : machine_of lines (take made' es') after ≡ rule (machine_of lines (take made es) before)
  pub rest : drop made' es' ≡ drop made' es
  pub onward : made ≤ made'
  pub few : made' ≤ made + more
  pub stays : Stays lines aside most before after

-- the bus after is what the rule makes of the bus before, where the records told so far are those of a log
pub record Tells {P M A : Type 0} (lines : M → List (List ℕ)) (aside : M → A) (rule : Machine → Machine) (more most : ℕ) (log log' : Log) (before after : Bus P M) : Type 0 where
  pub lent : log'.places.ghost_name ≡ log.places.ghost_name
  pub long : length log'.places.now ≡ length log.places.now
  pub reaches : Reaches lines aside rule more most log.made log'.made log.places.now log'.places.now before after

-- the bus after is what the rule makes of the bus before, and the rule writes back so many lines: one for each record that it tells
pub record Settles {P M A : Type 0} (lines : M → List (List ℕ)) (aside : M → A) (rule : Machine → Machine) (written most : ℕ) (before after : Bus P M) : Type 0 where
  pub told : List Record
  pub wrote : written ≡ length told
  pub obeys : Obeys lines aside rule told most before after
