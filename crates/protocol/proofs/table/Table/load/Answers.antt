-- A table is accepted just when its cells keep the law.
use Rattle.std.proofs.Common.{◌≡◌, ℕ, List, sym, refl, subst, inr, rules}
use Rattle.protocol.specs.CellNames.{cell_number}
use Rattle.protocol.specs.Tables.{Keeps, FirstFault}
use Rattle.protocol.proofs.Firsts.{refusal-none, refusal-first, no_fault, table-lawful}
use Rattle.protocol.proofs.table.Table.load.Goals as goal

pub invariant_of-result : goal.invariant_of-result
invariant_of-result c =
    let k = c.in-None.ensures in
    record { lawful = table-lawful c.in_ok-cells.cells k.sixteen k.each }

pub returns-in-Some : goal.returns-in-Some
returns-in-Some c =
    let bytes = c.args.bytes.now in
    let same : c.in_ok-cells.cells ≡ bytes = search rules in
    let place : cell_number c.in-Some.cell ≡ c.number.result = sym c.number.ensures in
    let fault : FirstFault bytes c.number.result = subst (λ (k : ℕ). FirstFault bytes k) place (subst (λ (bs : List ℕ). FirstFault bs (cell_number c.in-Some.cell)) same c.in-Some.ensures) in
    record {
      answer = refusal-first bytes c.number.result fault;
      accepted = λ e. cc;
      lawful = λ k. absurd (no_fault bytes c.number.result fault k.each);
      refused = inr (c.number.result, (refl, fault));
    }

pub returns-in-None : goal.returns-in-None
returns-in-None c =
    let bytes = c.args.bytes.now in
    let same : c.in_ok-cells.cells ≡ bytes = search rules in
    let kept : Keeps bytes = subst Keeps same c.in-None.ensures in
    record {
      answer = (refusal-none bytes kept, same);
      accepted = λ e. kept;
      lawful = λ k. refl;
      refused = tt;
    }
