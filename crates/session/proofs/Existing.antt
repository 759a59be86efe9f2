-- Every text gives an outcome.
use Rattle.std.proofs.Common.{◌≡◌, ℕ, zero, suc, ◌+◌, ◌<◌, ◌≤◌, Bool, true, false, cond, ltb, leb, List, [], ◌∷◌, length, Some, None, Ok, Err, Option, sym, refl, ap, ◌∙◌, arith}
use Rattle.std.specs.Option.{option_map}
use Rattle.std.proofs.lemmas.Bool.{leb-true, leb-false}
use Rattle.refusal.specs.Refusals.{Told, plain}
use Rattle.rules.specs.Systems.{System, due_in, outcome, closed}
use Rattle.trace.specs.declared.access.Access.{Access}
use Rattle.trace.specs.declared.bus_line.BusLine.{BusLine}
use Rattle.trace.specs.declared.fault.LineFault.{LineFault}
use Rattle.trace.specs.Faults.{Stop, line_stop}
use Rattle.trace.specs.Lines.{access_at, bus_at}
use Rattle.trace.specs.Reading.{Outcome as Reading}
use Rattle.trace.specs.Texts.{open_stop, bus_stop}
use Rattle.account.specs.Accounts.{Performed, Outcome, refused, ran}
use Rattle.session.specs.Plays.{call_of, performed_on, Plays, ends, unsound, refuses, performs}
use Rattle.session.specs.Texts.{Gives, stopped, played, halt_at, begun_by, OneOutcome}
use Rattle.session.proofs.Unique.{gives-alike}
use Rattle.session.proofs.Performing.{line-further}

-- some way on from a place and a system
record Some-way (t : List ℕ) (i : ℕ) (s : System) : Type 0 where
  pub steps : List Performed
  pub stop : Option Stop
  pub last : System
  pub plays : Plays t i s steps stop last

module _ (t : List ℕ) where
  step-on : (a : Access) (j : ℕ) {i : ℕ} {s : System} → i < length t → access_at t i ≡ Ok (a, j) → due_in 4 s (call_of a) ≡ None
      → Some-way t j (outcome 4 (call_of a) s).system → Some-way t i s
  step-on a j {i} {s} h e d w = record { steps = performed_on a s ∷ w.steps; stop = w.stop; last = w.last; plays = performs a j h e d w.plays }

  -- by what is due, by what the line reads, by whether the text ends; rest is the way on from any later place
  module _ (n i : ℕ) (s : System) (h : length t ≤ i + suc n) (rest : (j : ℕ) (u : System) → length t ≤ j + n → Some-way t j u) where
    by-due : i < length t → (a : Access) (j : ℕ) → access_at t i ≡ Ok (a, j) → (d : Option Told) → due_in 4 s (call_of a) ≡ d → Some-way t i s
    by-due l a j e (Some told) d = record { steps = []; stop = Some (record { told = told; byte = i }); last = s; plays = refuses a j told l e d }
    by-due l a j e None d =
        let f = line-further t i a j e in
        step-on a j l e d (rest j (outcome 4 (call_of a) s).system (omega arith))

    by-line : i < length t → (r : Reading Access) → access_at t i ≡ r → Some-way t i s
    by-line l (Err f) e = record { steps = []; stop = Some (line_stop f); last = s; plays = unsound f l e }
    by-line l (Ok x) e = by-due l x.0 x.1 e (due_in 4 s (call_of x.0)) refl

    by_end : (b : Bool) → leb (length t) i ≡ b → Some-way t i s
    by_end true e = record { steps = []; stop = None; last = s; plays = ends (leb-true (length t) i e) }
    by_end false e = by-line (leb-false (length t) i e) (access_at t i) refl

  -- from every place on, with n bytes left at most
  way : (n i : ℕ) (s : System) → length t ≤ i + n → Some-way t i s
  way zero i s h = record { steps = []; stop = None; last = s; plays = ends (omega arith) }
  way (suc n) i s h = by_end n i s h (λ j u k. way n j u k) (leb (length t) i) refl

  -- a bus line that is not sound stops the opening
  never : (b : Bool) (x : Stop) (r : Reading BusLine) (f : LineFault) → r ≡ Err f → cond b (Some x) (bus_stop t r) ≡ None → ⊥
  never true x r f e d = let z : ◌≡◌ {A = ℕ} 0 1 = cc in omega arith
  never false x r f e d =
      let k : ◌≡◌ {A = Option Stop} (Some (line_stop f)) None = sym (ap (λ (y : Reading BusLine). bus_stop t y) e) ∙ d in
      let z : ◌≡◌ {A = ℕ} 0 1 = cc in
      omega arith

  by-bus : open_stop t 0 ≡ None → (r : Reading BusLine) → bus_at t 0 ≡ r → (o : Outcome) × Gives t o
  by-bus d (Ok x) e =
      let w = way (length t) x.1 (begun_by t x.0) (omega arith) in
      (ran w.steps (option_map (halt_at t) w.stop) (closed w.last), played x.0 x.1 d e w.steps w.stop w.last w.plays)
  by-bus d (Err f) e = absurd (never (ltb 65536 (length t)) (record { told = plain 13; byte = 0 }) (bus_at t 0) f e d)

  by-open : (d : Option Stop) → open_stop t 0 ≡ d → (o : Outcome) × Gives t o
  by-open (Some stop) e = (refused (halt_at t stop), stopped stop e)
  by-open None e = by-bus e (bus_at t 0) refl

-- and just one
pub one-outcome : OneOutcome
one-outcome t = let w = by-open t (open_stop t 0) refl in (w.0, w.1, λ p g. gives-alike t g w.1)
