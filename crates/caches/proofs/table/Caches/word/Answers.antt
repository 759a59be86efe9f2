-- A word of a held line stands in its place.
use Rattle.std.proofs.Common.{ℕ, List, get_or, ap}
use Rattle.caches.proofs.Finds.{held-words}
use Rattle.caches.proofs.table.Caches.word.Goals as goal

pub returns : goal.returns
returns c =
    ap (λ (w : List ℕ). get_or w c.args.word 0)
    (held-words c.args.self.now c.args.seat c.requires.on c.args.line c.place_of-at.result c.place_of-at.ensures.place c.requires.held)
