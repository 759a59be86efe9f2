-- A seat's request: the other seats react, then the seat's own copy is put.
use Rattle.std.proofs.Common.{◌≡◌, ℕ, ◌<◌, List, [], length, get_or, set, sym, ap, ◌∙◌, arith}
use Rattle.std.proofs.lemmas.List.{length-map, get_or-set_same}
use Rattle.protocol.specs.declared.state.State.{State}
use Rattle.rules.specs.Columns.{Copy, none}
use Rattle.rules.specs.Transactions.{hear}
use Rattle.rules.specs.Caches.{Cache, look, room}
use Rattle.rules.specs.Machines.{copies_of, put_each}
use Rattle.rules.proofs.Seats.{length-hear}
use Rattle.caches.specs.declared.table.Caches.{Caches}
use Rattle.caches.specs.Views.{caches_of}
use Rattle.caches.proofs.Places.{caches-long}
use Rattle.bus.proofs.Turns.{own-stays, then-own}

-- as many copies of a line as there are seats
pub copies-long : (s : Caches) (n : ℕ) → length (copies_of n (caches_of s)) ≡ s.agreed.seats
copies-long s n = length-map (caches_of s) (λ c. look c n) ∙ caches-long s

module _ (s : Caches) (n r : ℕ) (on : r < s.agreed.seats) (h : ℕ → State → State) (w : List ℕ → List ℕ) where
  -- the copies after the others have reacted, the requester's among them
  abbrev pub heard : List Copy
  heard = hear h w 0 (copies_of n (caches_of s))

  long : length heard ≡ length (caches_of s)
  long = length-hear h w 0 (copies_of n (caches_of s)) ∙ copies-long s n ∙ sym (caches-long s)

  there : r < length (caches_of s)
  there = omega (arith, caches-long s)

  -- a copy put into the requester's place is there
  pub own-there : (xs : List Copy) (x : Copy) → length xs ≡ s.agreed.seats → get_or (set xs r x) r none ≡ x
  own-there xs x e = get_or-set_same xs r x none (omega arith)

  -- the requester's copy as the others have reacted
  pub own-waits : get_or (set heard r (get_or (copies_of n (caches_of s)) r none)) r none ≡ get_or (copies_of n (caches_of s)) r none
  own-waits = own-there heard (get_or (copies_of n (caches_of s)) r none) (length-hear h w 0 (copies_of n (caches_of s)) ∙ copies-long s n)

  module _ (cs : List Cache) (reacted : cs ≡ put_each n (caches_of s) (set heard r (get_or (copies_of n (caches_of s)) r none))) where
    -- the requester still has the room that it had
    pub room_after : room (get_or cs r []) n ≡ room (get_or (caches_of s) r []) n
    room_after = ap (λ (c : Cache). room c n) (ap (λ (x : List Cache). get_or x r []) reacted ∙ own-stays n r (caches_of s) heard long there)

    -- its own copy is put
    pub own-after : (cs' : List Cache) (x : Copy) → cs' ≡ put_each n cs (set (copies_of n cs) r x) → cs' ≡ put_each n (caches_of s) (set heard r x)
    own-after cs' x e = e ∙ ap (λ (d : List Cache). put_each n d (set (copies_of n d) r x)) reacted ∙ then-own n r (caches_of s) heard long there x

    -- the requester's copy when the others have reacted is as it was
    pub copy-after : copies_of n cs ≡ set heard r (get_or (copies_of n (caches_of s)) r none) → get_or (copies_of n cs) r none ≡ get_or (copies_of n (caches_of s)) r none
    copy-after e = ap (λ (xs : List Copy). get_or xs r none) e ∙ own-waits
