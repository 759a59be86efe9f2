-- What holds where every check of a call has passed.
use Rattle.std.proofs.Common.{◌≡◌, ℕ, ◌/◌, ◌<◌, ◌≤◌, length, None, arith}
use Rattle.std.proofs.lemmas.Bool.Decides.{nat_tests}
use Rattle.rules.specs.Systems.{System}
use Rattle.run.specs.Views.{look_due}
use Rattle.run.specs.Calls.{access_due}

-- a seat that may be looked at is on the bus
pub looked-on : (s : System) (seat line : ℕ) → look_due s seat line ≡ None → seat < length s.caches
looked-on s seat line e = grind (arith, nat_tests)

module _ (s : System) (seat address places : ℕ) (e : access_due s seat address places ≡ None) where
  pub calls-left : s.answered < 1000000
  calls-left = grind (arith, nat_tests)

  pub seat-on : seat < length s.caches
  seat-on = grind (arith, nat_tests)

  pub line-below : address / 4 < length s.memory
  line-below = grind (arith, nat_tests)

  pub places-enough : 4 ≤ places
  places-enough = grind (arith, nat_tests)
