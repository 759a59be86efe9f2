-- A machine part by part: what makes it the machine that a rule gives.
use Rattle.std.proofs.Common.{◌≡◌, ℕ, List, [], ◌∷◌, ◌++◌, get_or, set, sym, refl, ap, ◌∙◌}
use lib.Seq.{set-get_or}
use Rattle.protocol.specs.declared.transaction.Transaction.{Transaction}
use Rattle.rules.specs.declared.record.Record.{Record}
use Rattle.rules.specs.declared.tally.Tally.{Tally}
use Rattle.rules.specs.Columns.{Column}
use Rattle.rules.specs.Caches.{Cache}
use Rattle.rules.specs.Tallies.{tallied}
use Rattle.rules.specs.Machines.{Machine, copies_of, put_each, lost, record_of, change, transact}

-- a machine of these parts
abbrev pub machine : List Cache → List (List ℕ) → Tally → List Record → Machine
machine cs ls t es = record { caches = cs; memory = ls; tally = t; records = es }

pub machine-same : {cs cs' : List Cache} {ls ls' : List (List ℕ)} {t t' : Tally} {es es' : List Record} → cs ≡ cs' → ls ≡ ls' → t ≡ t' → es ≡ es' → machine cs ls t es ≡ machine cs' ls' t' es'
machine-same a b c d = cc

module _ (cs : List Cache) (ls : List (List ℕ)) (t : Tally) (n : ℕ) (f : Column → Column) where
  -- the line before, and after f
  abbrev pub before : Column
  before = record { copies = copies_of n cs; home = get_or ls n [] }

  abbrev pub after : Column
  after = f before

  -- a transaction: the caches, memory, the record and the tally
  pub transact-is : (k : Transaction) (r : ℕ) (e : Record) (cs' : List Cache) (ls' : List (List ℕ)) (t' : Tally) → cs' ≡ put_each n cs after.copies → ls' ≡ set ls n after.home → e ≡ record_of k r n before after → t' ≡ tallied e (lost r before.copies after.copies) t → (es : List Record) → machine cs' ls' t' (es ++ (e ∷ [])) ≡ transact k r n f (machine cs ls t es)
  unfolding transact
  transact-is k r e cs' ls' t' a b c d es =
      machine-same a b
      (d ∙ ap (λ (x : Record). tallied x (lost r before.copies after.copies) t) c)
      (ap (λ (x : Record). es ++ (x ∷ [])) c)

  -- a change that no transaction tells of
  pub change-is : (cs' : List Cache) (ls' : List (List ℕ)) → cs' ≡ put_each n cs after.copies → ls' ≡ set ls n after.home → (es : List Record) → machine cs' ls' t es ≡ change n f (machine cs ls t es)
  unfolding change
  change-is cs' ls' a b es = machine-same a b refl refl

-- a line put where it stands
pub home_stays : (ls : List (List ℕ)) (n : ℕ) → ls ≡ set ls n (get_or ls n [])
home_stays ls n = sym (set-get_or ls n [])

-- a record made and handed on, whose one part is known by another name
pub handed : {A B : Type 0} (f : A → B) {e made : B} {x y : A} → e ≡ made → made ≡ f x → x ≡ y → e ≡ f y
handed f a b c = cc
