-- A list of calls made one after another: the history and the ledger, step by step.
use Rattle.std.proofs.Common.{◌≡◌, ℕ, zero, suc, ◌+◌, ◌<◌, min, ltb, List, [], ◌∷◌, length, get_or, take, set, Some, None, Option, Result, sym, refl, ap, ◌∙◌, subst, add-one, arith, below_more}
use lib.ListN.{length-map}
use Rattle.std.proofs.lemmas.Bool.Decides.{nat_tests}
use Rattle.refusal.specs.declared.Refusal.{Refusal}
use Rattle.refusal.specs.Refusals.{Told, Answers}
use Rattle.rules.specs.declared.call.Call.{Call}
use Rattle.rules.specs.declared.call.Call.TheVariants.{Read, Write, Flush, Settle}
use Rattle.rules.specs.Systems.{System, Outcome, due_in, outcome_if, outcome, after}
use Rattle.rules.specs.Ledgers.{Ledger, entered, ledger_after}
use Rattle.bus.specs.declared.reply.Reply.{Reply}
use Rattle.run.specs.declared.run.Run.{Run}
use Rattle.run.specs.Views.{system_of}
use Rattle.run.specs.declared.step.Step.{Step}
use Rattle.run.specs.Calls.{reply_of, lent}
use Rattle.run.specs.Replayed.{calls_of, call_at, replies_of, Replied}

-- one call more
pub after_next : (calls : List Call) (k : ℕ) (s : System) → k < length calls → after 4 (take (suc k) calls) s ≡ (outcome 4 (get_or calls k Settle) (after 4 (take k calls) s)).system
after_next [] k s h = absurd (omega arith)
after_next (c ∷ cs) zero s h = refl
after_next (c ∷ cs) (suc k) s h = after_next cs k (outcome 4 c s).system (omega arith)

pub ledger-next : (seats addresses : ℕ) (calls : List Call) (k : ℕ) (l : Ledger) → k < length calls
    → ledger_after seats addresses (take (suc k) calls) l ≡ entered seats addresses (get_or calls k Settle) (ledger_after seats addresses (take k calls) l)
ledger-next seats addresses [] k l h = absurd (omega arith)
ledger-next seats addresses (c ∷ cs) zero l h = refl
ledger-next seats addresses (c ∷ cs) (suc k) l h = ledger-next seats addresses cs k (entered seats addresses c l) (omega arith)

-- four places of many serve as well
few-alike : (p : ℕ) → ltb (min p 4) 4 ≡ ltb p 4
few-alike p = grind (arith, nat_tests)

module _ (s : System) where
  pub due-lent : (call : Call) → due_in 4 s (lent 4 call) ≡ due_in 4 s call
  due-lent (Read seat address p) = let e = few-alike p in cc
  due-lent (Write seat address value p) = let e = few-alike p in cc
  due-lent (Flush seat address p) = let e = few-alike p in cc
  due-lent Settle = refl

  same-but-places : (o : Option Told) (call : Call) → outcome_if 4 o (lent 4 call) s ≡ outcome_if 4 o call s
  same-but-places None (Read seat address p) = refl
  same-but-places None (Write seat address value p) = refl
  same-but-places None (Flush seat address p) = refl
  same-but-places None Settle = refl
  same-but-places (Some t) call = refl

  pub outcome-lent : (call : Call) → outcome 4 (lent 4 call) s ≡ outcome 4 call s
  unfolding outcome
  outcome-lent call = ap (λ (o : Option Told). outcome_if 4 o (lent 4 call) s) (due-lent call) ∙ same-but-places (due_in 4 s call) call

  -- so a call that is lent four answers as one that is lent all that it brings
  pub answers-lent : (call : Call) (r : Result Reply Refusal) → Answers (due_in 4 s (lent 4 call)) (reply_of (outcome 4 (lent 4 call) s)) r → Answers (due_in 4 s call) (reply_of (outcome 4 call s)) r
  answers-lent call r a =
      subst (λ (x : Option Told). Answers x (reply_of (outcome 4 call s)) r) (due-lent call)
      (subst (λ (y : Outcome). Answers (due_in 4 s (lent 4 call)) (reply_of y) r) (outcome-lent call) a)

-- after k calls of the steps given, from a run at the start
pub record Progress {P M A : Type 0} (cells : P → ℕ → ℕ → ℕ) (lines : M → List (List ℕ)) (aside : M → A) (start run : Run P M) (given left : List Step) (k : ℕ) : Type 0 where
  pub system : system_of cells lines run ≡ after 4 (take k (calls_of given)) (system_of cells lines start)
  pub apart : aside run.bus.memory ≡ aside start.bus.memory
  pub calls : calls_of left ≡ calls_of given
  pub replies : (j : ℕ) → j < k
      → Replied (Answers (due_in 4 (after 4 (take j (calls_of given)) (system_of cells lines start)) (call_at given j)) (reply_of (outcome 4 (call_at given j) (after 4 (take j (calls_of given)) (system_of cells lines start))))) (get_or (replies_of left) j None)

-- what is read past the end of the steps
abbrev pub no_step : Step
no_step = record { call = Read 0 0 0; reply = None }

call_of_lem : (steps : List Step) (k : ℕ) → k < length steps → (get_or steps k no_step).call ≡ call_at steps k
call_of_lem [] k h = absurd (omega arith)
call_of_lem (x ∷ xs) zero h = refl
call_of_lem (x ∷ xs) (suc k) h = call_of_lem xs k (omega arith)

-- a noted reply leaves the calls, and the other replies, as they were
noted-calls : (steps : List Step) (k : ℕ) (r : Option (Result Reply Refusal)) → calls_of (set steps k (record { call = (get_or steps k no_step).call; reply = r })) ≡ calls_of steps
noted-calls [] k r = refl
noted-calls (x ∷ xs) zero r = refl
noted-calls (x ∷ xs) (suc k) r = ap (λ (cs : List Call). x.call ∷ cs) (noted-calls xs k r)

noted_here : (steps : List Step) (k : ℕ) (x : Step) → k < length steps → get_or (replies_of (set steps k x)) k None ≡ x.reply
noted_here [] k x h = absurd (omega arith)
noted_here (y ∷ ys) zero x h = refl
noted_here (y ∷ ys) (suc k) x h = noted_here ys k x (omega arith)

noted-before : (steps : List Step) (k j : ℕ) (x : Step) → j < k → get_or (replies_of (set steps k x)) j None ≡ get_or (replies_of steps) j None
noted-before [] k j x h = refl
noted-before (y ∷ ys) zero j x h = absurd (omega arith)
noted-before (y ∷ ys) (suc k) zero x h = refl
noted-before (y ∷ ys) (suc k) (suc j) x h = noted-before ys k j x (omega arith)

module _ {P M A : Type 0} (cells : P → ℕ → ℕ → ℕ) (lines : M → List (List ℕ)) (aside : M → A) (start run : Run P M) (given left : List Step) where
  -- before the first call
  pub no_progress : Progress cells lines aside start start given given 0
  no_progress = record { system = refl; apart = refl; calls = refl; replies = λ j h. absurd (omega arith) }

  module _ (k : ℕ) (so : Progress cells lines aside start run given left k) (here : k < length given) (long : length left ≡ length given) where
    the_call : (get_or left k no_step).call ≡ call_at given k
    the_call = call_of_lem left k (omega arith) ∙ ap (λ (cs : List Call). get_or cs k Settle) so.calls

    -- one call more
    pub more-progress : (next : Run P M) (r : Result Reply Refusal)
        → Answers (due_in 4 (system_of cells lines run) (get_or left k no_step).call) (reply_of (outcome 4 (get_or left k no_step).call (system_of cells lines run))) r
        → system_of cells lines next ≡ (outcome 4 (get_or left k no_step).call (system_of cells lines run)).system
        → aside next.bus.memory ≡ aside run.bus.memory
        → Progress cells lines aside start next given (set left k (record { call = (get_or left k no_step).call; reply = Some r })) (k + 1)
    more-progress next r a s p =
        let was : ℕ → System = λ j. after 4 (take j (calls_of given)) (system_of cells lines start) in
        let Right : ℕ → Option (Result Reply Refusal) → Type 0 = λ j. Replied (Answers (due_in 4 (was j) (call_at given j)) (reply_of (outcome 4 (call_at given j) (was j)))) in
        let q = set left k (record { call = (get_or left k no_step).call; reply = Some r }) in
        record {
          system =
              s ∙ ap (λ (c : Call). (outcome 4 c (system_of cells lines run)).system) the_call
              ∙ ap (λ (t : System). (outcome 4 (call_at given k) t).system) so.system
              ∙ sym (after_next (calls_of given) k (system_of cells lines start) (omega (arith, length-map given (λ (x : Step). x.call))))
              ∙ ap was (sym (add-one k));
          apart = p ∙ so.apart;
          calls = noted-calls left k (Some r) ∙ so.calls;
          replies =
              below_more (λ j. Right j (get_or (replies_of q) j None)) k
              (λ j h. subst (Right j) (sym (noted-before left k j _ h)) (so.replies j h))
              (subst (Right k) (sym (noted_here left k _ (omega arith)))
              (subst (λ (t : System). Answers (due_in 4 t (call_at given k)) (reply_of (outcome 4 (call_at given k) t)) r) so.system
              (subst (λ (c : Call). Answers (due_in 4 (system_of cells lines run) c) (reply_of (outcome 4 c (system_of cells lines run))) r) the_call a)));
        }

  -- after the last call, from a run that stands for a system
  module _ (k : ℕ) (so : Progress cells lines aside start run given left k) (all : k ≡ length given) (s : System) (from : system_of cells lines start ≡ s) where
    pub last-system : system_of cells lines run ≡ after 4 (take (length given) (calls_of given)) s
    last-system = so.system ∙ ap (λ (t : System). after 4 (take k (calls_of given)) t) from ∙ ap (λ (n : ℕ). after 4 (take n (calls_of given)) s) all

    pub all-replies : (j : ℕ) → j < length given
        → Replied (Answers (due_in 4 (after 4 (take j (calls_of given)) s) (call_at given j)) (reply_of (outcome 4 (call_at given j) (after 4 (take j (calls_of given)) s)))) (get_or (replies_of left) j None)
    all-replies j h =
        subst (λ (t : System). Replied (Answers (due_in 4 (after 4 (take j (calls_of given)) t) (call_at given j)) (reply_of (outcome 4 (call_at given j) (after 4 (take j (calls_of given)) t)))) (get_or (replies_of left) j None)) from
        (so.replies j (omega arith))
