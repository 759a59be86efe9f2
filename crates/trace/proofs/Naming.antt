-- A word is the name of the protocol that it equals, and of none where it equals no name.
use Rattle.std.proofs.Common.{◌≡◌, ℕ, Bool, true, false, ◌&&◌, ltb, List, [], ◌∷◌, Some, None, IsUtf8, IsAscii, sym, refl, ap, ◌∙◌, subst, ⊎_elim}
use Rattle.std.specs.Str.{bytes_eq}
use Rattle.std.proofs.lemmas.Slice.Eq.{bytes_eq-Decides}
use Rattle.std.proofs.lemmas.Bool.{cond-false, cases_Bool, and_parts, ltb-true}
use Rattle.std.proofs.lemmas.Str.Ascii.{IsAscii-nil, IsAscii-cons}
use Rattle.std.proofs.lemmas.Str.{IsUtf8-from_ascii}
use Rattle.refusal.specs.Refusals.{plain}
use Rattle.protocol.specs.Tables.{table_refusal}
use Rattle.protocol.specs.declared.published.Published.{Published}
use Rattle.protocol.specs.declared.published.Published.TheVariants.{WriteThrough, Msi, WriteOnce, Illinois, Berkeley, Dragon, Firefly}
use Rattle.protocol.specs.Published.{published_name, named_among, named, name_refusal, Unnamed}
use Rattle.trace.specs.Choices.{is_table, word_refusal}

-- a word that is none of these names is not found among them
pub none-among : (ps : List Published) (w : List ℕ) → Unnamed w → named_among ps w ≡ None
none-among [] w h = refl
none-among (p ∷ ps) w h =
    let no : bytes_eq w (published_name p) ≡ false =
    ⊎_elim (λ e. absurd (h p (sym ((bytes_eq-Decides w (published_name p)).0 e)))) (λ e. e) (cases_Bool (bytes_eq w (published_name p)))
    in
    cond-false (bytes_eq w (published_name p)) (Some p) (named_among ps w) no ∙ none-among ps w h

low : List ℕ → Bool
low [] = true
low (b ∷ bs) = ltb b 128 && low bs

low-ascii : (bs : List ℕ) → low bs ≡ true → IsAscii bs
unfolding low
low-ascii [] h = IsAscii-nil
low-ascii (b ∷ bs) h =
    let p = and_parts (ltb b 128) (low bs) h in
    IsAscii-cons b bs (ltb-true b 128 p.0) (low-ascii bs p.1)

-- the names are text
name-low : (p : Published) → low (published_name p) ≡ true
unfolding low
name-low WriteThrough = refl
name-low Msi = refl
name-low WriteOnce = refl
name-low Illinois = refl
name-low Berkeley = refl
name-low Dragon = refl
name-low Firefly = refl

pub name_utf8 : (p : Published) → IsUtf8 (published_name p)
name_utf8 p = IsUtf8-from_ascii (published_name p) (low-ascii (published_name p) (name-low p))

-- bytes that are no text are no name
pub no_text : (w : List ℕ) → (IsUtf8 w → ⊥) → Unnamed w
no_text w h p e = h (subst IsUtf8 e (name_utf8 p))

-- a word that is no table and no name is refused
pub refused-name : (w : List ℕ) → is_table w ≡ false → Unnamed w → word_refusal w ≡ Some (plain 11)
refused-name w t h =
    cond-false (is_table w) (table_refusal w) (name_refusal (named w)) t
    ∙ ap name_refusal (none-among (WriteThrough ∷ Msi ∷ WriteOnce ∷ Illinois ∷ Berkeley ∷ Dragon ∷ Firefly ∷ []) w h)
