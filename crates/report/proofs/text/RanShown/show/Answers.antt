use Rattle.std.proofs.Common.{◌≡◌, [], ◌++◌, map, vec_items, Some, None, Option, Ok, string_bytes, sym, refl, ap, ◌∙◌}
use Rattle.std.specs.List.{flat_map}
use Rattle.std.specs.Option.{option_map, option_map_or}
use Rattle.std.proofs.lemmas.List.Folds.{flat_map-map}
use Rattle.std.proofs.lemmas.Result.{on_ok_weaker}
use Rattle.account.specs.Accounts.{performed, halted, closing_of, outcome_of}
use Rattle.account.specs.declared.stop.Stop.{Stop}
use Rattle.report.specs.Printed.{step_line, step_lines, stop_line, stop_line_if, closing_lines, printed}
use Rattle.report.proofs.Joins.{behind}
use Rattle.report.proofs.text.RanShown.show.Goals as goal

-- a stop is shown as it is told
told-if : (stop : Option Stop) → option_map_or (λ s. stop_line (halted s)) stop [] ≡ stop_line_if (option_map halted stop)
told-if None = refl
told-if (Some stop) = refl

pub returns : goal.returns
returns c =
    let ran = c.args.self.now in
    let out = string_bytes c.args.out.now in
    let steps = step_lines (map performed (vec_items ran.steps)) in
    let stop = stop_line_if (option_map halted ran.stop) in
    let closing = closing_lines (closing_of ran.closed) in
    let shown : string_bytes c.show_all.new.out ≡ out ++ steps =
    c.in_ok-show_all.ensures
    ∙ ap (λ l. out ++ l) (ap (flat_map (λ s. step_line (performed s))) c.as_slice.ensures.value ∙ sym (flat_map-map step_line performed (vec_items ran.steps))) in
    let told : string_bytes c.show.new.out ≡ string_bytes c.show_all.new.out ++ stop =
    c.in_ok-show.ensures ∙ ap (λ l. string_bytes c.show_all.new.out ++ l) (told-if ran.stop) in
    on_ok_weaker {P = string_bytes c.show-2.new.out ≡ string_bytes c.show.new.out ++ closing} {Q = string_bytes c.show-2.new.out ≡ out ++ printed (outcome_of (Ok ran))} c.show-2.result
    (λ q. behind out steps (stop ++ closing) shown (behind (string_bytes c.show_all.new.out) stop closing told q))
    c.show-2.ensures
