use Rattle.std.proofs.Common.{◌≡◌, ℕ, true, codes, sym, ap, ◌∙◌, subst}
use Rattle.protocol.specs.Cells.{among}
use Rattle.protocol.specs.Transactions.{digit_transaction}
use Rattle.bus.specs.Choices.{code_at}
use Rattle.bus.proofs.Choosing.{missed-rest, sent-rest, sent-law}
use Rattle.bus.proofs.choice.choose.Goals as goal

pub returns-in-Invalid-default-3 : goal.returns-in-Invalid-default-3
returns-in-Invalid-default-3 g c =
    let p = c.args.protocol.now in
    let cell = g.P.Protocol.cells p c.args.seat in
    let is : c.code_at-code.result ≡ cell 0 = c.code_at-code.ensures ∙ ap (code_at cell) c.in-Invalid-default-3.is-0 in
    let law : among c.code_at-code.result (codes "126") ≡ true = subst (λ (b : ℕ). among b (codes "126") ≡ true) (sym is) (g.met.P.Protocol.lawful p c.args.seat 0) in
    missed-rest c.code_at-code.result law c.if-code-eq49.false c.if-code-eq50.false
    ∙ ap digit_transaction c.code_at-code.ensures

pub returns-in_default : goal.returns-in_default
returns-in_default g c =
    let p = c.args.protocol.now in
    let cells = g.P.Protocol.cells p in
    let byte = c.code_at-code.result in
    let law : among byte (codes "3456") ≡ true =
    subst (λ (b : ℕ). among b (codes "3456") ≡ true) (sym c.code_at-code.ensures)
    (sent-law cells (g.met.P.Protocol.lawful p) c.args.seat c.args.state c.in_default.not-Invalid-0 c.in_default.not-Exclusive-0 c.in_default.not-Modified-0) in
    sent-rest byte law c.if-code-eq51.false c.if-code-eq52.false c.if-code-eq53.false
    ∙ ap digit_transaction c.code_at-code.ensures
