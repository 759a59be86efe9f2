-- The record places of an access: the records made stand first.
use Rattle.std.proofs.Common.{◌≡◌, ℕ, ◌≤◌, List, ◌++◌, length, take, drop, sym, ap, ◌∙◌, take-append-drop, length-take-le}
use Rattle.rules.specs.declared.record.Record.{Record}

module _ (made : ℕ) (given left : List Record) (few : made ≤ length left) where
  pub made-long : length (take made left) ≡ made
  made-long = length-take-le made left few

  pub filled-places : drop made left ≡ drop made given → left ≡ take made left ++ drop (length (take made left)) given
  filled-places e =
      sym (take-append-drop made left) ∙ ap (λ (x : List Record). take made left ++ x) (e ∙ ap (λ (n : ℕ). drop n given) (sym made-long))
