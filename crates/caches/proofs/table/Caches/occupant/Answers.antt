-- Another line that is held in the place has to go; else there is room.
use Rattle.std.proofs.Common.{◌≡◌, Bool, not, ◌&&◌, eqb, [], get_or, sym, ap, ◌∙◌, subst}
use Rattle.std.specs.Bool.{then_some}
use Rattle.std.proofs.lemmas.Bool.{eq-eqb, ne_eqb}
use Rattle.protocol.specs.States.{valid}
use Rattle.caches.specs.Lines.{blank}
use Rattle.caches.proofs.Finds.{Occupant, occupant-told}
use Rattle.caches.proofs.table.Caches.occupant.Goals as goal
use Rattle.caches.proofs.table.Caches.occupant.Goals.{then-copy-line, else-copy-line}

pub returns : goal.returns
returns c =
    let s = c.args.self.now in
    let n = c.args.line in
    let p = get_or (get_or s.table c.args.seat []) c.place_of-at.result blank in
    let test : c.if-copy-line.then_some ≡ (not (eqb p.tag n) && valid p.state) =
    elim c.if-copy-line.branch [
      | then-copy-line w ↦ w.then_some-is ∙ w.is_valid.ensures ∙ ap (λ (b : Bool). not b && valid p.state) (sym (ne_eqb p.tag n w.if-copy-line.true))
      | else-copy-line w ↦ w.then_some-is ∙ ap not (eq-eqb p.tag n w.if-copy-line.false) ∙ ap (λ (b : Bool). not b && valid p.state) (sym (eq-eqb p.tag n w.if-copy-line.false))
    ]
    in
    let told = subst (Occupant s c.args.seat n) (sym (c.then_some.ensures ∙ ap (λ (b : Bool). then_some b p.tag) test)) (occupant-told s c.args.seat c.requires n c.place_of-at.result c.place_of-at.ensures.place) in
    record { answer = told.answer; stands = told.stands }
