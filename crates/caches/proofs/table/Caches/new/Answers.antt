-- Every place is empty, and the sizes are the agreed ones.
use Rattle.std.proofs.Common.{refl}
use Rattle.caches.specs.Views.{caches_of}
use Rattle.caches.proofs.Openings.{open_view, open-wide, open-homed}
use Rattle.caches.proofs.table.Caches.new.Goals as goal

pub invariant_of-result : goal.invariant_of-result
invariant_of-result c = record { rows = refl; wide = open-wide; homed = open-homed c.args.agreed.sets }

pub returns : goal.returns
unfolding caches_of
returns c =
    let a = c.args.agreed in
    record { caches = open_view a.seats a.sets a.few a.few_sets; agreed = refl }
