-- What a requester is told of the other seats' reactions: what `Caches::react` answers.
--
-- Heeds      the answer in the rules' words, of the copies before and after
-- unheeded   the answer before any seat has reacted
-- noted      the answer after one more seat has reacted: its copy before, its state after
use Rattle.std.specs.Prelude.{◌≡◌, ℕ, ◌+◌, ◌≤◌, Bool, false, cond, not, ◌&&◌, ◌||◌, List, is_some, Some, None, slice_set}
use Rattle.std.specs.Option.{option_map, option_map_or}
use Rattle.protocol.specs.declared.state.State.{State}
use Rattle.protocol.specs.States.{valid, owned}
use Rattle.rules.specs.Columns.{Copy, none, alone, owner_of, one}
use Rattle.rules.specs.Columns as columns
use Rattle.rules.specs.Transactions.{is_o, reflects}
use Rattle.rules.specs.Machines.{lost}
use Rattle.caches.specs.declared.heeded.Heeded.{Heeded}
use Rattle.caches.specs.declared.heeded.Owner.{Owner}

-- what seat r is told, of the copies of all seats before and after the others have reacted
pub record Heeds (r : ℕ) (xs ys : List Copy) (a : Heeded) : Type 0 where
  -- the first owner among the other seats
  pub owner : option_map (λ (o : Owner). o.seat) a.owner ≡ owner_of (slice_set xs r none)
  -- the words that the bus gives: the owner's, or else those at home
  pub words : (home : List ℕ) → columns.supplied (slice_set xs r none) home ≡ option_map_or (λ (o : Owner). o.words) a.owner home
  -- the owner has not ended in Owned
  pub reflected : option_map_or (λ (o : Owner). o.reflected) a.owner false ≡ reflects (slice_set xs r none) ys
  -- another seat holds the line after all have reacted
  pub shared : a.shared ≡ not (alone r ys)
  -- the other seats that held the line and do not any more
  pub gone : a.lost ≡ lost r xs ys
  -- no more than there are seats
  pub few : a.lost ≤ 8

-- before any seat has reacted
abbrev pub unheeded : Heeded
unheeded = record { owner = None; shared = false; lost = 0 }

-- a copy in this state is the first owner met
abbrev pub takes : State → Heeded → Bool
takes b a = owned b && not (is_some a.owner)

-- the first owner met supplies: of its state and words before, and its state after
abbrev pub supplying : ℕ → State → List ℕ → State → Heeded → Heeded
supplying k b w s a = record {
  owner = cond (takes b a) (Some (record { seat = k; words = w; reflected = not (is_o s) })) a.owner;
  shared = a.shared;
  lost = a.lost;
}

-- a copy stays or goes: of its state before and after
abbrev pub counting : State → State → Heeded → Heeded
counting b s a = record {
  owner = a.owner;
  shared = valid s || a.shared;
  lost = a.lost + one (valid b && not (valid s));
}

-- seat k has reacted: its copy before, its state after
abbrev pub noted : ℕ → Copy → State → Heeded → Heeded
noted k x s a = counting x.state s (supplying k x.state x.words s a)
