-- What a requester is told, in the rules' words: of the line after its own copy was put too.
use Rattle.std.proofs.Common.{◌≡◌, ℕ, Bool, true, false, cond, not, List, [], get_or, set, sym, ap, ◌∙◌}
use lib.Seq.{set-get_or}
use Rattle.std.specs.Option.{option_map, option_map_or}
use Rattle.protocol.specs.States.{valid}
use Rattle.rules.specs.Columns.{Copy, state_at, alone, owner_of, supplied}
use Rattle.rules.specs.Transactions.{reflects}
use Rattle.rules.specs.Caches.{Cache}
use Rattle.rules.specs.Machines.{copies_of, lost}
use Rattle.caches.specs.declared.heeded.Heeded.{Heeded}
use Rattle.caches.specs.declared.heeded.Owner.{Owner}
use Rattle.caches.specs.Heeding.{Heeds}
use Rattle.bus.proofs.Counting.{lost-own, alone-own}
use Rattle.bus.proofs.Absent.{copy-none, without, reflects-own}

-- the others' copies are those of ys, the requester's was w when it was told, and is x then
module _ (r : ℕ) (xs ys : List Copy) (w : Copy) (a : Heeded) (told : Heeds r xs (set ys r w) a) (x : Copy) where
  pub told-shared : a.shared ≡ not (alone r (set ys r x))
  told-shared = told.shared ∙ ap not (alone-own r ys w ∙ sym (alone-own r ys x))

  pub told-lost : a.lost ≡ lost r xs (set ys r x)
  told-lost = told.gone ∙ lost-own r xs ys w ∙ sym (lost-own r xs ys x)

-- the same where the requester did not hold the line
module _ (n r : ℕ) (cs : List Cache) (ys : List Copy) (absent : valid (state_at (copies_of n cs) r) ≡ false) (w : Copy) (a : Heeded) (told : Heeds r (copies_of n cs) (set ys r w) a) where
  pub told-owner : option_map (λ (o : Owner). o.seat) a.owner ≡ owner_of (copies_of n cs)
  told-owner = told.owner ∙ ap owner_of (without n r cs absent)

  pub told-words : (home : List ℕ) → option_map_or (λ (o : Owner). o.words) a.owner home ≡ supplied (copies_of n cs) home
  told-words home = sym (told.words home) ∙ ap (λ (zs : List Copy). supplied zs home) (without n r cs absent)

  pub told-reflected : (x : Copy) → option_map_or (λ (o : Owner). o.reflected) a.owner false ≡ reflects (copies_of n cs) (set ys r x)
  told-reflected x =
      told.reflected
      ∙ ap (λ (zs : List Copy). reflects zs (set ys r w)) (without n r cs absent)
      ∙ reflects-own (copies_of n cs) ys r (copy-none n r cs absent) w
      ∙ sym (reflects-own (copies_of n cs) ys r (copy-none n r cs absent) x)

-- memory receives a line or keeps its own
pub reflected-home : (ls ls' : List (List ℕ)) (n : ℕ) (b : Bool) (w : List ℕ) → ls' ≡ cond b (set ls n w) ls → ls' ≡ set ls n (cond b w (get_or ls n []))
reflected-home ls ls' n true w e = e
reflected-home ls ls' n false w e = e ∙ sym (set-get_or ls n [])
