-- The seven published protocols: their names and their cells, 0 to 15.
--
-- named         the published protocol of a name, and Unnamed that there is none
-- name_refusal  what is due for a name: 11 where there is none
-- NameRead      what reading a name gives
use Rattle.std.specs.Prelude.{◌≡◌, ◌≢◌, ℕ, cond, List, [], ◌∷◌, codes, Some, None, Option, Result, MatchResult, ok_or}
use Rattle.std.specs.Str.{bytes_eq}
use Rattle.refusal.specs.Refusals.{Told, plain, Answered}
use Rattle.refusal.specs.declared.Refusal.{Refusal}
use Rattle.refusal.specs.declared.Refusal.TheVariants.{ProtocolName}
use Rattle.protocol.specs.declared.published.Published.{Published}
use Rattle.protocol.specs.declared.published.Published.TheVariants.{WriteThrough, Msi, WriteOnce, Illinois, Berkeley, Dragon, Firefly}

-- the cells of a published protocol, cell 0 first
abbrev pub published_cells : Published → List ℕ
published_cells WriteThrough = codes "666SMSOSOSSSSIII"
published_cells Msi = codes "233SMSOSOSSSSIII"
published_cells WriteOnce = codes "266SMEMEMSSSSIII"
published_cells Illinois = codes "233EMEMEMSSSSIII"
published_cells Berkeley = codes "233SMSOSOSSOOIII"
published_cells Dragon = codes "144EMEMEMSSOOSSS"
published_cells Firefly = codes "155EMEMEMSSSSSSS"

-- the name of a published protocol
abbrev pub published_name : Published → List ℕ
published_name WriteThrough = codes "writethrough"
published_name Msi = codes "msi"
published_name WriteOnce = codes "writeonce"
published_name Illinois = codes "illinois"
published_name Berkeley = codes "berkeley"
published_name Dragon = codes "dragon"
published_name Firefly = codes "firefly"

-- the protocol among these whose name the word is
abbrev pub named_among : List Published → List ℕ → Option Published
named_among [] w = None
named_among (p ∷ ps) w = cond (bytes_eq w (published_name p)) (Some p) (named_among ps w)

-- the published protocol whose name the word is
abbrev pub named : List ℕ → Option Published
named w = named_among (WriteThrough ∷ Msi ∷ WriteOnce ∷ Illinois ∷ Berkeley ∷ Dragon ∷ Firefly ∷ []) w

-- no published protocol has this name
abbrev pub Unnamed : List ℕ → Type 0
Unnamed w = (p : Published) → published_name p ≢ w

-- an unknown name is refused
abbrev pub name_refusal : Option Published → Option Told
name_refusal None = Some (plain 11)
name_refusal (Some p) = None

-- reading a name gives the protocol that has it, and else the refusal of an unknown name
pub record NameRead (w : List ℕ) (r : Result Published Refusal) : Type 0 where
  pub answer : Answered (name_refusal (named w)) (λ p. published_name p ≡ w) r
  pub value : r ≡ ok_or (named w) ProtocolName
  pub names : MatchResult r (λ p. published_name p ≡ w) (λ e. Unnamed w)
