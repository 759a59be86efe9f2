-- The held copy in the line's place changes.
use Rattle.std.proofs.Common.{refl, ◌∙◌}
use Rattle.caches.specs.Views.{caches_of}
use Rattle.caches.proofs.Moves.{bounds, own_home, held-tag, rewritten}
use Rattle.caches.proofs.table.Caches.write.Goals as goal

pub invariant_of-self : goal.invariant_of-self
invariant_of-self c =
    let s = c.args.self.now in
    let k = c.args.seat in
    let i = c.place_of-at.result in
    let at = c.place_of-at.ensures in
    let q = c.take.new.self in
    let b =
    bounds s k c.requires.on i at.below q
    (λ _. own_home s k c.requires.on c.args.line i at.place q (c.take.ensures.tag ∙ held-tag s k c.requires.on c.args.line i at.place c.requires.held))
    in
    record { rows = b.rows; wide = b.wide; homed = b.homed }

pub returns : goal.returns
unfolding caches_of
returns c =
    let s = c.args.self.now in
    let p =
    rewritten s c.args.seat c.requires.on c.args.line c.place_of-at.result c.place_of-at.ensures.place c.take.new.self c.args.state c.args.store.word
    c.args.store.value c.requires.held c.take.ensures.tag c.take.ensures.state c.take.ensures.words
    in
    record { caches = p.caches; copies = p.copies; agreed = refl }
