-- A run just opened begins a history.
use Rattle.std.proofs.Common.{◌≡◌, ℕ, ◌<◌, true, List, length, replicate, refl, arith}
use Rattle.std.proofs.lemmas.Bool.Decides.{nat_tests}
use Rattle.protocol.specs.Cells.{Lawful, among}
use Rattle.memory.specs.Lines.{Shaped}
use Rattle.rules.specs.declared.tally.Tally.{Tally}
use Rattle.rules.specs.Caches.{fresh}
use Rattle.rules.specs.Tallies.{blank}
use Rattle.rules.specs.Systems.{System, opened}
use Rattle.rules.specs.Ledgers.{begun}
use Rattle.rules.specs.Transactions.{Protocol}
use Rattle.rules.specs.Coherence.{Since, opening}
use Rattle.caches.specs.declared.agreed.Agreed.{Agreed}
use Rattle.caches.specs.declared.table.Caches.{Caches}
use Rattle.caches.specs.Views.{caches_of}
use Rattle.caches.specs.Sizes.{set_counts}
use Rattle.run.specs.Views.{sizes}

-- the sets that a cache may have are never none
listed-some : (sets : ℕ) → among sets set_counts ≡ true → 0 < sets
listed-some sets e = grind (arith, nat_tests)

-- every history begins so
pub begins : (cell : Protocol) → Lawful cell → (agreed : Agreed) (lines : List (List ℕ)) → Shaped lines
    → Since (sizes agreed.seats agreed.sets (length lines)) (opened cell agreed.seats agreed.sets lines) (begun 4 lines)
begins cell law agreed lines shaped =
    opening cell law (listed-some agreed.sets agreed.listed) (omega arith) lines (record { lines = refl; words = shaped })

-- empty caches and a blank tally are a run just opened
pub as-opened : (cell given : Protocol) (agreed : Agreed) (lines held : List (List ℕ)) (caches : Caches) (tally : Tally)
    → given ≡ cell → held ≡ lines → caches_of caches ≡ replicate agreed.seats (fresh agreed.sets 1) → tally ≡ blank
    → ◌≡◌ {A = System} (record { cell = given; caches = caches_of caches; memory = held; tally = tally; answered = 0 }) (opened cell agreed.seats agreed.sets lines)
as-opened cell given agreed lines held caches tally p m e t = cc
