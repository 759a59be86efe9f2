-- A call that is lent the first of many places.
use Rattle.std.proofs.Common.{◌≡◌, ℕ, zero, suc, ◌≤◌, List, [], ◌∷◌, ◌++◌, length, take, drop, Ok, Err, Result, sym, ap, ◌∙◌, subst, arith, take-append-drop}
use Rattle.refusal.specs.declared.Refusal.{Refusal}
use Rattle.refusal.specs.Refusals.{Kept}
use Rattle.rules.specs.declared.call.Call.{Call}
use Rattle.rules.specs.declared.record.Record.{Record}
use Rattle.bus.specs.declared.reply.Reply.{Reply}
use Rattle.run.specs.declared.run.Run.{Run}
use Rattle.run.specs.Calls.{Called}

-- records that fill the first of n places fill the first of all
filled-first : (es xs : List Record) (n : ℕ) → n ≤ length xs → length (es ++ drop (length es) (take n xs)) ≡ n
    → (es ++ drop (length es) (take n xs)) ++ drop n xs ≡ es ++ drop (length es) xs
filled-first [] xs n h l = take-append-drop n xs
filled-first (e ∷ es) xs zero h l = absurd (omega arith)
filled-first (e ∷ es) [] (suc n) h l = absurd (omega arith)
filled-first (e ∷ es) (x ∷ xs) (suc n) h l = ap (λ (rs : List Record). e ∷ rs) (filled-first es xs n (omega arith) (omega arith))

module _ {P M A : Type 0} (cells : P → ℕ → ℕ → ℕ) (lines : M → List (List ℕ)) (aside : M → A) (before after : Run P M) (xs left : List Record) (n : ℕ) where
  kept-first : (r : Result Reply Refusal) → Kept r ((after ≡ before) × (left ≡ take n xs)) → Kept r ((after ≡ before) × (left ++ drop n xs ≡ xs))
  kept-first (Ok b) k = tt
  kept-first (Err e) k = (k.0, ap (λ (rs : List Record). rs ++ drop n xs) k.1 ∙ take-append-drop n xs)

  -- the places that were not lent are as they were
  pub lent-first : (made asked : Call) (r : Result Reply Refusal) → asked ≡ made → n ≤ length xs → length left ≡ n
      → Called cells lines aside made before after (take n xs) left r → Called cells lines aside asked before after xs (left ++ drop n xs) r
  lent-first made asked r e few long c =
      subst (λ (x : Call). Called cells lines aside x before after xs (left ++ drop n xs) r) (sym e)
      (record {
        replies = c.replies;
        system = c.system;
        records = ap (λ (rs : List Record). rs ++ drop n xs) c.records ∙ filled-first _ xs n few (sym (ap length c.records) ∙ long);
        protocol = c.protocol;
        apart = c.apart;
        refused = kept-first r c.refused;
        keeps = c.keeps;
      })
