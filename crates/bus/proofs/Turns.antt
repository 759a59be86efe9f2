-- A requester's own copy put after the other seats have reacted: the two are one change of the line.
use Rattle.std.proofs.Common.{◌≡◌, ℕ, zero, suc, ◌<◌, List, [], ◌∷◌, length, get_or, set, refl, ap, ◌∙◌, arith, length-set, get_or-set_same, set-set}
use Rattle.rules.specs.Columns.{Copy, none}
use Rattle.rules.specs.Caches.{Cache, put}
use Rattle.rules.specs.Machines.{copies_of, put_each}
use Rattle.rules.proofs.Caches.{put-look}
use Rattle.rules.proofs.Machines.{column-at, put_each-at, put_each-one}

-- one seat's copy put after the others
set-put_each : (n r : ℕ) (cs : List Cache) (ws : List Copy) (x : Copy) → length ws ≡ length cs → set (put_each n cs ws) r (put n (get_or cs r []) x) ≡ put_each n cs (set ws r x)
set-put_each n r [] ws x e = refl
set-put_each n r (c ∷ cs) [] x e = absurd (omega arith)
set-put_each n zero (c ∷ cs) (w ∷ ws) x e = refl
set-put_each n (suc r) (c ∷ cs) (w ∷ ws) x e = ap (λ (ds : List Cache). put n c w ∷ ds) (set-put_each n r cs ws x (omega arith))

module _ (n r : ℕ) (cs : List Cache) (zs : List Copy) (long : length zs ≡ length cs) (on : r < length cs) where
  -- the others' copies are those of zs, and the requester's is as it was
  abbrev pub others : List Copy
  others = set zs r (get_or (copies_of n cs) r none)

  long-others : length others ≡ length cs
  long-others = length-set zs r (get_or (copies_of n cs) r none) ∙ long

  -- the requester's cache is as it was
  pub own-stays : get_or (put_each n cs others) r [] ≡ get_or cs r []
  own-stays =
      let there : r < length zs = omega arith in
      put_each-at n cs others long-others r
      ∙ ap (put n (get_or cs r [])) (get_or-set_same zs r (get_or (copies_of n cs) r none) none there ∙ column-at n cs r)
      ∙ put-look (get_or cs r []) n

  -- the requester's copy is put then
  pub then-own : (x : Copy) → put_each n (put_each n cs others) (set (copies_of n (put_each n cs others)) r x) ≡ put_each n cs (set zs r x)
  then-own x =
      put_each-one n r (put_each n cs others) x
      ∙ ap (λ (c : Cache). set (put_each n cs others) r (put n c x)) own-stays
      ∙ set-put_each n r cs others x long-others
      ∙ ap (put_each n cs) (set-set zs r (get_or (copies_of n cs) r none) x)
