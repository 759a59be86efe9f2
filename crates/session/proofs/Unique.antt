-- A text gives one outcome at most.
use Rattle.std.proofs.Common.{◌≡◌, ℕ, List, ◌∷◌, Some, None, Ok, Err, Option, sym, refl, ap, ◌∙◌, subst, arith}
use Rattle.std.specs.Option.{option_map}
use Rattle.refusal.specs.Refusals.{Told}
use Rattle.rules.specs.Systems.{System, due_in, outcome, closed}
use Rattle.trace.specs.declared.access.Access.{Access}
use Rattle.trace.specs.declared.bus_line.BusLine.{BusLine}
use Rattle.trace.specs.declared.fault.LineFault.{LineFault}
use Rattle.trace.specs.Faults.{Stop, line_stop}
use Rattle.trace.specs.Lines.{access_at}
use Rattle.account.specs.Accounts.{Performed, Outcome, refused, ran}
use Rattle.session.specs.Plays.{call_of, performed_on, Plays, ends, unsound, refuses, performs}
use Rattle.session.specs.Texts.{Gives, stopped, played, halt_at, begun_by}

-- the same access and the same system give the same
performed-alike : {a b : Access} {s u : System} → a ≡ b → s ≡ u → performed_on a s ≡ performed_on b u
performed-alike {a} {b} {s} {u} p q = ap (λ (x : Access). performed_on x s) p ∙ ap (λ (x : System). performed_on b x) q

system-alike : {a b : Access} {s u : System} → a ≡ b → s ≡ u → (outcome 4 (call_of a) s).system ≡ (outcome 4 (call_of b) u).system
system-alike {a} {b} {s} {u} p q = ap (λ (x : Access). (outcome 4 (call_of x) s).system) p ∙ ap (λ (x : System). (outcome 4 (call_of b) x).system) q

due-alike : {a b : Access} {s u : System} → a ≡ b → s ≡ u → due_in 4 s (call_of a) ≡ due_in 4 u (call_of b)
due-alike {a} {b} {s} {u} p q = ap (λ (x : Access). due_in 4 s (call_of x)) p ∙ ap (λ (x : System). due_in 4 x (call_of b)) q

cons_alike : {p q : Performed} {ps qs : List Performed} → p ≡ q → ps ≡ qs → p ∷ ps ≡ q ∷ qs
cons_alike e f = cc

-- the three parts of what accesses give
pub record Alike (ps qs : List Performed) (stop halt : Option Stop) (last end : System) : Type 0 where
  pub steps : ps ≡ qs
  pub stops : stop ≡ halt
  pub lasts : last ≡ end

module _ (t : List ℕ) where
  -- what is read at one place is one thing
  read_alike : {i j k m : ℕ} {a b : Access} → i ≡ j → access_at t i ≡ Ok (a, k) → access_at t j ≡ Ok (b, m) → (a ≡ b) × (k ≡ m)
  read_alike {i} {j} {k} {m} {a} {b} e p q =
      let h : access_at t i ≡ Ok (b, m) = subst (λ (x : ℕ). access_at t x ≡ Ok (b, m)) (sym e) q in
      let w : ◌≡◌ {A = Access × ℕ} (a, k) (b, m) = cc in
      (ap (λ (x : Access × ℕ). x.0) w, ap (λ (x : Access × ℕ). x.1) w)

  fault_alike : {i j : ℕ} {f g : LineFault} → i ≡ j → access_at t i ≡ Err f → access_at t j ≡ Err g → f ≡ g
  fault_alike {i} {j} {f} {g} e p q =
      let h : access_at t i ≡ Err g = subst (λ (x : ℕ). access_at t x ≡ Err g) (sym e) q in
      cc

  read_or_fault : {i j k : ℕ} {a : Access} {f : LineFault} → i ≡ j → access_at t i ≡ Ok (a, k) → access_at t j ≡ Err f → ⊥
  read_or_fault {i} {j} {k} {a} {f} e p q =
      let h : access_at t i ≡ Err f = subst (λ (x : ℕ). access_at t x ≡ Err f) (sym e) q in
      let z : ◌≡◌ {A = ℕ} 0 1 = cc in
      omega arith

  due-or-not : {a b : Access} {s u : System} {told : Told} → a ≡ b → s ≡ u → due_in 4 s (call_of a) ≡ Some told → due_in 4 u (call_of b) ≡ None → ⊥
  due-or-not {a} {b} {s} {u} {told} p q e f =
      let h : ◌≡◌ {A = Option Told} (Some told) None = sym e ∙ (due-alike p q ∙ f) in
      let z : ◌≡◌ {A = ℕ} 0 1 = cc in
      omega arith

  -- from one place and one system on there is one way
  pub plays-alike :
      {i j : ℕ} {s u : System} {ps qs : List Performed} {stop halt : Option Stop} {last end : System}
      → Plays t i s ps stop last → Plays t j u qs halt end → i ≡ j → s ≡ u → Alike ps qs stop halt last end
  plays-alike (ends h) (ends k) e f = record { steps = refl; stops = refl; lasts = f }
  plays-alike (ends h) (unsound g k p) e f = absurd (omega arith)
  plays-alike (ends h) (refuses a m told k p q) e f = absurd (omega arith)
  plays-alike (ends h) (performs a m k p q r) e f = absurd (omega arith)
  plays-alike (unsound g h p) (ends k) e f = absurd (omega arith)
  plays-alike (unsound g h p) (unsound g' k q) e f = record { steps = refl; stops = ap (λ (x : LineFault). Some (line_stop x)) (fault_alike e p q); lasts = f }
  plays-alike (unsound g h p) (refuses a m told k q r) e f = absurd (read_or_fault (sym e) q p)
  plays-alike (unsound g h p) (performs a m k q r v) e f = absurd (read_or_fault (sym e) q p)
  plays-alike (refuses a m told h p q) (ends k) e f = absurd (omega arith)
  plays-alike (refuses a m told h p q) (unsound g k r) e f = absurd (read_or_fault e p r)
  plays-alike {i} {j} (refuses a m told h p q) (refuses a' m' told' k r v) e f =
      let d : ◌≡◌ {A = Option Told} (Some told) (Some told') = sym q ∙ (due-alike (read_alike e p r).0 f ∙ v) in
      let w : told ≡ told' = cc in
      record { steps = refl; stops = ap (λ (x : Told). Some (record { told = x; byte = i })) w ∙ ap (λ (x : ℕ). Some (record { told = told'; byte = x })) e; lasts = f }
  plays-alike (refuses a m told h p q) (performs a' m' k r v w) e f = absurd (due-or-not (read_alike e p r).0 f q v)
  plays-alike (performs a m h p q r) (ends k) e f = absurd (omega arith)
  plays-alike (performs a m h p q r) (unsound g k v) e f = absurd (read_or_fault e p v)
  plays-alike (performs a m h p q r) (refuses a' m' told k v w) e f = absurd (due-or-not (sym (read_alike e p v).0) (sym f) w q)
  plays-alike (performs a m h p q r) (performs a' m' k v w x) e f =
      let same = read_alike e p v in
      let rest = plays-alike r x same.1 (system-alike same.0 f) in
      record { steps = cons_alike (performed-alike same.0 f) rest.steps; stops = rest.stops; lasts = rest.lasts }

  -- the outcome of a text
  pub gives-alike : {o p : Outcome} → Gives t o → Gives t p → o ≡ p
  gives-alike (stopped a e) (stopped b f) =
      let d : ◌≡◌ {A = Option Stop} (Some a) (Some b) = sym e ∙ f in
      let w : a ≡ b = cc in
      ap (λ (x : Stop). refused (halt_at t x)) w
  gives-alike (stopped a e) (played l i f g ps stop last r) =
      let d : ◌≡◌ {A = Option Stop} (Some a) None = sym e ∙ f in
      let z : ◌≡◌ {A = ℕ} 0 1 = cc in
      absurd (omega arith)
  gives-alike (played l i f g ps stop last r) (stopped a e) =
      let d : ◌≡◌ {A = Option Stop} (Some a) None = sym e ∙ f in
      let z : ◌≡◌ {A = ℕ} 0 1 = cc in
      absurd (omega arith)
  gives-alike (played l i f g ps stop last r) (played l' i' f' g' ps' stop' last' r') =
      let w : ◌≡◌ {A = BusLine × ℕ} (l, i) (l', i') = cc in
      let a = plays-alike r r' (ap (λ (x : BusLine × ℕ). x.1) w) (ap (λ (x : BusLine × ℕ). begun_by t x.0) w) in
      ap (λ (x : List Performed). ran x (option_map (halt_at t) stop) (closed last)) a.steps
      ∙ (ap (λ (x : Option Stop). ran ps' (option_map (halt_at t) x) (closed last)) a.stops
      ∙ ap (λ (x : System). ran ps' (option_map (halt_at t) stop') (closed x)) a.lasts)
