-- The account of a whole text.
use Rattle.std.proofs.Common.{◌≡◌, ℕ, cond, ltb, List, map, get_or, replicate, Some, None, Ok, vec_items, Option, sym, ap, ◌∙◌, subst}
use lib.ListN.{length-replicate}
use Rattle.std.specs.Option.{option_map}
use Rattle.rules.specs.Transactions.{Protocol}
use Rattle.rules.specs.Systems.{System, Closing, opened, closed}
use Rattle.rules.specs.Ledgers.{begun}
use Rattle.rules.specs.Coherence.{Sizes, Since}
use Rattle.rules.proofs.Promises.{since-promised}
use Rattle.run.specs.Views.{sizes}
use Rattle.trace.specs.declared.choice.Choice.{Choice}
use Rattle.trace.specs.declared.bus_line.BusLine.{BusLine}
use Rattle.trace.specs.declared.bus_line.Second.{Second}
use Rattle.trace.specs.declared.fault.TraceFault.{TraceFault}
use Rattle.trace.specs.declared.setup.Division.{Division}
use Rattle.trace.specs.declared.setup.Setup.{Setup}
use Rattle.trace.specs.Choices.{choice_cells, word_cells}
use Rattle.trace.specs.Faults.{Stop, trace_stop}
use Rattle.trace.specs.Lines.{bus_at}
use Rattle.trace.specs.Setups.{word_in, Divided}
use Rattle.trace.specs.Texts.{open_stop, Opened}
use Rattle.account.specs.declared.account.Ran.{Ran}
use Rattle.account.specs.declared.stop.Stop.{Stop as Halting}
use Rattle.account.specs.Accounts.{Performed, Halt, refused, ran, performed, halted, closing_of, outcome_of}
use Rattle.session.specs.Plays.{Plays}
use Rattle.session.specs.Texts.{halt_at, word_cell, cells_with, zeros, begun_by, Gives, stopped, played, divided, setup_cells, Played, sizes_by, Squares, Accounted}
use Rattle.session.proofs.Unique.{gives-alike}
use Rattle.session.proofs.Owing.{owes-each}

-- a text that is refused before its first access
pub stopped-account : (t : List ℕ) (f : TraceFault) (h : Halting) → open_stop t 0 ≡ Some (trace_stop f) → halted h ≡ halt_at t (trace_stop f) → Accounted t (refused (halted h))
stopped-account t f h e p =
    let g = subst (λ (x : Halt). Gives t (refused x)) (sym p) (stopped (trace_stop f) e) in
    record { gives = g; only = λ o k. gives-alike t k g; keeps = tt }

-- the protocol of a setup is the bus line's
cells-alike : (t w : List ℕ) (first : Choice) (second : Option Second) (d : Option Division) → choice_cells first ≡ word_cells w → Divided t second d
    → divided first d ≡ cells_with t (word_cell w) second
cells-alike t w first None None e k = ap (λ (cs : List ℕ). λ (seat k : ℕ). get_or cs k 0) e
cells-alike t w first None (Some d) e k = absurd k
cells-alike t w first (Some q) None e k = absurd k
cells-alike t w first (Some q) (Some d) e k =
    ap (λ (cs : List ℕ). λ (seat k : ℕ). cond (ltb seat d.below) (get_or cs k 0) (get_or (choice_cells d.second) k 0)) e
    ∙ (ap (λ (b : ℕ). λ (seat k : ℕ). cond (ltb seat b) (get_or (word_cells w) k 0) (get_or (choice_cells d.second) k 0)) k.0
    ∙ ap (λ (cs : List ℕ). λ (seat k : ℕ). cond (ltb seat q.below) (get_or (word_cells w) k 0) (get_or cs k 0)) k.1.cells)

-- a run opened alike
opened-alike : {c d : Protocol} {a b m n x y : ℕ} → c ≡ d → a ≡ b → m ≡ n → x ≡ y → opened c a m (zeros x) ≡ opened d b n (zeros y)
opened-alike {c} {d} {a} {b} {m} {n} {x} {y} p q r s =
    ap (λ (z : Protocol). opened z a m (zeros x)) p
    ∙ (ap (λ (z : ℕ). opened d z m (zeros x)) q ∙ (ap (λ (z : ℕ). opened d b z (zeros x)) r ∙ ap (λ (z : ℕ). opened d b n (zeros z)) s))

sizes-alike : {a b m n x y : ℕ} → a ≡ b → m ≡ n → x ≡ y → sizes a m x ≡ sizes b n y
sizes-alike {a} {b} {m} {n} {x} {y} q r s = ap (λ (z : ℕ). sizes z m x) q ∙ (ap (λ (z : ℕ). sizes b z x) r ∙ ap (λ (z : ℕ). sizes b n z) s)

-- accesses performed on a run that began beside the ledger of zeros
squared : (seats sets lines : ℕ) (t : List ℕ) (i : ℕ) (s : System) (ps : List Performed) (stop : Option Stop) (last : System)
    → Since (sizes seats sets lines) s (begun 4 (zeros lines)) → Plays t i s ps stop last → Squares (sizes seats sets lines) ps (closed last)
squared seats sets lines t i s ps stop last since p =
    let o = owes-each seats sets lines p since in
    let k = since-promised (sizes seats sets lines) last _ o.1 in
    record { answers = o.0; memory = k.closes; balanced = k.closing }

-- a text whose accesses were performed
module _ (t : List ℕ) (i : ℕ) (setup : Setup) (r : Ran) (fine : open_stop t 0 ≡ None) (o : Opened t 0 i setup)
    (p : Played t i setup.agreed.seats setup.agreed.sets (setup_cells setup) (zeros setup.lines) r) where
  begun-alike : opened (setup_cells setup) setup.agreed.seats setup.agreed.sets (zeros setup.lines) ≡ begun_by t o.line
  begun-alike =
      opened-alike (cells-alike t (word_in t o.line.first) setup.first o.line.second setup.division o.given.first.cells o.given.second)
      o.given.seats o.given.sets o.given.lines

  gave : Gives t (outcome_of (Ok r))
  gave =
      subst (λ (c : Closing). Gives t (ran (map performed (vec_items r.steps)) (option_map halted r.stop) c)) (sym p.closes)
      (subst (λ (h : Option Halt). Gives t (ran (map performed (vec_items r.steps)) h (closed p.last))) (sym p.halts)
      (played o.line i fine o.reads (map performed (vec_items r.steps)) p.stop p.last
      (subst (λ (s : System). Plays t i s (map performed (vec_items r.steps)) p.stop p.last) begun-alike p.plays)))

  since-zero : Since (sizes setup.agreed.seats setup.agreed.sets setup.lines) (opened (setup_cells setup) setup.agreed.seats setup.agreed.sets (zeros setup.lines)) (begun 4 (zeros setup.lines))
  since-zero =
      subst
      (λ (n : ℕ). Since (sizes setup.agreed.seats setup.agreed.sets n) (opened (setup_cells setup) setup.agreed.seats setup.agreed.sets (zeros setup.lines)) (begun 4 (zeros setup.lines)))
      (length-replicate setup.lines (replicate 4 0)) p.since

  squares : (line : BusLine) (j : ℕ) → bus_at t 0 ≡ Ok (line, j) → Squares (sizes_by line) (map performed (vec_items r.steps)) (closing_of r.closed)
  squares line j e =
      let w : ◌≡◌ {A = BusLine × ℕ} (o.line, i) (line, j) = let h = o.reads in cc in
      let l : o.line ≡ line = ap (λ (x : BusLine × ℕ). x.0) w in
      let q = squared setup.agreed.seats setup.agreed.sets setup.lines t i _ (map performed (vec_items r.steps)) p.stop p.last since-zero p.plays in
      subst (λ (c : Closing). Squares (sizes_by line) (map performed (vec_items r.steps)) c) (sym p.closes)
      (subst (λ (z : Sizes). Squares z (map performed (vec_items r.steps)) (closed p.last))
      (sizes-alike o.given.seats o.given.sets o.given.lines ∙ ap sizes_by l) q)

  pub played-account : Accounted t (outcome_of (Ok r))
  played-account = record { gives = gave; only = λ x k. gives-alike t k gave; keeps = squares }

-- the same of a reader at the beginning of the text, which then stands over the same text
pub stopped-from : (t u v : List ℕ) (n : ℕ) (f : TraceFault) (h : Halting) → u ≡ t → v ≡ u → n ≡ 0 → open_stop u n ≡ Some (trace_stop f) → halted h ≡ halt_at v (trace_stop f)
    → Accounted t (refused (halted h))
stopped-from t u v n f h p r q e k =
    stopped-account t f h (subst (λ (x : List ℕ). open_stop x 0 ≡ Some (trace_stop f)) p (subst (λ (x : ℕ). open_stop u x ≡ Some (trace_stop f)) q e))
    (subst (λ (x : List ℕ). halted h ≡ halt_at x (trace_stop f)) (r ∙ p) k)

pub played-from : (t u v : List ℕ) (n i : ℕ) (setup : Setup) (r : Ran) → u ≡ t → v ≡ u → n ≡ 0 → open_stop u n ≡ None → Opened u n i setup
    → Played v i setup.agreed.seats setup.agreed.sets (setup_cells setup) (zeros setup.lines) r → Accounted t (outcome_of (Ok r))
played-from t u v n i setup r p s q e o k =
    played-account t i setup r
    (subst (λ (x : List ℕ). open_stop x 0 ≡ None) p (subst (λ (x : ℕ). open_stop u x ≡ None) q e))
    (subst (λ (x : List ℕ). Opened x 0 i setup) p (subst (λ (x : ℕ). Opened u x i setup) q o))
    (subst (λ (x : List ℕ). Played x i setup.agreed.seats setup.agreed.sets (setup_cells setup) (zeros setup.lines) r) (s ∙ p) k)
