-- Each transaction, each silent write and each drop keeps a line coherent: the one argument, at each of them.
use Rattle.std.proofs.Common.{◌≡◌, ℕ, ◌<◌, Bool, true, false, cond, ◌≢◌, ◌⊎◌, List, [], length, set, Some, None, Option, sym, refl, ap, ◌∙◌, subst, inl, inr, ⊎_elim, zero-add}
use Rattle.std.proofs.lemmas.Bool.{cases_eq, cases_Bool, false≢true, cond_both, both_ways}
use Rattle.std.proofs.lemmas.List.{length-set}
use Rattle.protocol.specs.declared.state.State.{State}
use Rattle.protocol.specs.declared.state.State.TheVariants.{Invalid, Modified}
use Rattle.protocol.specs.States.{valid, exclusive, owned}
use Rattle.protocol.specs.Cells.{Lawful}
use Rattle.rules.specs.Columns.{Copy, kept, none, Column, state_at, words_at, alone, owner_of, supplied}
use Rattle.rules.specs.Transactions.{Protocol, heard_rs, heard_up, heard_tu, gone, after_rs, after_up, after_tu, after_ti, hear, same, leaves_o, reflects, read_shared, read_invalidate, invalidate, update, through_update, through_invalidate, write_back, silent, dropped}
use Rattle.rules.proofs.Tables.{agree, below_self, agree-unheld, agree-exclusive, lone, owned-valid, exclusive-valid, unowned-is_o, below-rs, agree-rs, valid-rs, below-up, agree-up, owned-up, below-tu, agree-tu, owned-tu, owned-heard_tu, valid-tu, owned-ti, valid-ti}
use Rattle.rules.proofs.Seats.{alone-others, hear-at, supplied-is, Found, owner_owns}
use Rattle.rules.proofs.Lines.{Coherent, Moved, Turned, by-hearing, by-setting, turn_moved}

module _ (c : Column) (truth : List ℕ) (ok : Coherent c truth) (r : ℕ) (on : r < length c.copies) where
  -- the words supplied are the newest
  supplied-truth : supplied c.copies c.home ≡ truth
  supplied-truth = supplied-is c.copies c.home truth (λ i e. ok.current i (owned-valid (state_at c.copies i) e)) ok.safe

  -- at alone, a seat that heard holds nothing
  heard-alone :
      (h : ℕ → State → State) (w : List ℕ → List ℕ) → ((k : ℕ) → h k Invalid ≡ Invalid) → alone r (hear h w 0 c.copies) ≡ true
      → (k : ℕ) → k ≢ r → valid (h k (state_at c.copies k)) ≡ false
  heard-alone h w z e k ne =
      subst (λ (x : State). valid x ≡ false) (ap (λ (x : Copy). x.state) (hear-at h w z 0 c.copies k) ∙ ap (λ (j : ℕ). h j (state_at c.copies k)) (zero-add k))
      (alone-others r (hear h w 0 c.copies) e k ne)

  -- memory after a read shared
  reflected-truth :
      (zs : List Copy) (o : Option ℕ) → Found 0 c.copies o → ((i : ℕ) → owned (state_at zs i) ≡ false)
      → cond (leaves_o o zs) (supplied c.copies c.home) c.home ≡ truth
  reflected-truth zs None f n = ok.safe f
  reflected-truth zs (Some k) f n = rw (unowned-is_o (state_at zs k) (n k)) supplied-truth

  -- not all is unowned where seat r owns
  owner-left : {P : Type 0} (zs : List Copy) → owned (state_at zs r) ≡ true → ((i : ℕ) → owned (state_at zs i) ≡ false) → P
  owner-left zs e n = absurd (both_ways (owned (state_at zs r)) (n r) e)

  pub dropped-moved : (owned (state_at c.copies r) ≡ true → c.home ≡ truth) → Moved c (dropped r c) r false truth
  unfolding dropped
  dropped-moved saved =
      turn_moved false c.home c.home truth truth refl turned ok (λ k ne. below_self (state_at c.copies k))
      (λ k ne. refl) (λ k ne e. refl) (λ e. absurd (false≢true e)) safe ok.wide
    where
      turned : Turned c.copies (set c.copies r none) r (λ k t. t) same Invalid []
      turned = by-setting c.copies r Invalid [] on

      before : ((i : ℕ) → owned (state_at (set c.copies r none) i) ≡ false) → owned (state_at c.copies r) ≡ false → (i : ℕ) → (i ≡ r) ⊎ (i ≡ r → ⊥) → owned (state_at c.copies i) ≡ false
      before n e i (inl p) = ap (λ (j : ℕ). owned (state_at c.copies j)) p ∙ e
      before n e i (inr p) = sym (ap owned (turned.other-state i p)) ∙ n i

      safe : ((i : ℕ) → owned (state_at (set c.copies r none) i) ≡ false) → c.home ≡ truth
      safe n = ⊎_elim saved (λ e. ok.safe (λ i. before n e i (cases_eq i r))) (cases_Bool (owned (state_at c.copies r)))

  pub write_back-moved : owned (state_at c.copies r) ≡ true → Moved c (write_back r c) r (valid (state_at c.copies r)) truth
  unfolding write_back
  write_back-moved e = record {
    coherent = record
        { apart = ok.apart; current = ok.current; safe = λ n. words; wide = ap length words };
    no_gain = λ k ne h. h;
    own = refl;
    long = refl;
  }
    where
      words : words_at c.copies r ≡ truth
      words = ok.current r (owned-valid (state_at c.copies r) e)

  -- and then memory has the newest words
  pub write_back-saved : owned (state_at c.copies r) ≡ true → (write_back r c).home ≡ truth
  unfolding write_back
  write_back-saved e = ok.current r (owned-valid (state_at c.copies r) e)

  module _ (o v : ℕ) where
    wide-set : length c.home ≡ length (set truth o v)
    wide-set = ok.wide ∙ sym (length-set truth o v)

    wide_both : length (set c.home o v) ≡ length (set truth o v)
    wide_both = length-set c.home o v ∙ ok.wide ∙ sym (length-set truth o v)

    pub read_invalidate-moved : Moved c (read_invalidate r o v c) r true (set truth o v)
    unfolding read_invalidate
    read_invalidate-moved =
        turn_moved true c.home c.home truth (set truth o v) refl turned ok (λ k ne. refl) (λ k ne. refl)
        (λ k ne e. absurd (false≢true e)) (λ e. ap (λ (w : List ℕ). set w o v) supplied-truth)
        (owner-left (set (hear (λ k. gone) same 0 c.copies) r (kept Modified (set (supplied c.copies c.home) o v))) (ap owned turned.own-state))
        wide-set
      where
        turned : Turned c.copies (set (hear (λ k. gone) same 0 c.copies) r (kept Modified (set (supplied c.copies c.home) o v))) r (λ k. gone) same Modified (set (supplied c.copies c.home) o v)
        turned = by-hearing c.copies r (λ k. gone) same Modified (set (supplied c.copies c.home) o v) on (λ k. refl)

    pub invalidate-moved : valid (state_at c.copies r) ≡ true → Moved c (invalidate r o v c) r true (set truth o v)
    unfolding invalidate
    invalidate-moved held =
        turn_moved true c.home c.home truth (set truth o v) refl turned ok (λ k ne. refl) (λ k ne. refl)
        (λ k ne e. absurd (false≢true e)) (λ e. ap (λ (w : List ℕ). set w o v) (ok.current r held))
        (owner-left (set (hear (λ k. gone) same 0 c.copies) r (kept Modified (set (words_at c.copies r) o v))) (ap owned turned.own-state))
        wide-set
      where
        turned : Turned c.copies (set (hear (λ k. gone) same 0 c.copies) r (kept Modified (set (words_at c.copies r) o v))) r (λ k. gone) same Modified (set (words_at c.copies r) o v)
        turned = by-hearing c.copies r (λ k. gone) same Modified (set (words_at c.copies r) o v) on (λ k. refl)

    pub silent-moved : exclusive (state_at c.copies r) ≡ true → Moved c (silent r o v c) r true (set truth o v)
    unfolding silent
    silent-moved only =
        turn_moved true c.home c.home truth (set truth o v) refl turned ok (λ k ne. below_self (state_at c.copies k))
        (λ k ne. agree-exclusive (state_at c.copies r) (state_at c.copies k) only (ok.apart r k (λ e. ne (sym e))))
        (λ k ne e. absurd (both_ways (valid (state_at c.copies k)) (lone (state_at c.copies r) (state_at c.copies k) only (ok.apart r k (λ e. ne (sym e)))) e))
        (λ e. ap (λ (w : List ℕ). set w o v) (ok.current r (exclusive-valid (state_at c.copies r) only)))
        (owner-left (set c.copies r (kept Modified (set (words_at c.copies r) o v))) (ap owned turned.own-state))
        wide-set
      where
        turned : Turned c.copies (set c.copies r (kept Modified (set (words_at c.copies r) o v))) r (λ k t. t) same Modified (set (words_at c.copies r) o v)
        turned = by-setting c.copies r Modified (set (words_at c.copies r) o v) on

  module _ (cell : Protocol) (law : Lawful cell) where
    agree-after_rs : (b : Bool) → alone r (hear (λ k. heard_rs (cell k)) same 0 c.copies) ≡ b → (k : ℕ) → k ≢ r → agree (after_rs (cell r) b) (heard_rs (cell k) (state_at c.copies k)) ≡ true
    agree-after_rs true e k ne =
        agree-unheld (after_rs (cell r) true) (heard_rs (cell k) (state_at c.copies k)) (heard-alone (λ k. heard_rs (cell k)) same (λ k. refl) e k ne)
    agree-after_rs false e k ne = agree-rs cell law k (state_at c.copies k)

    pub read_shared-moved : Moved c (read_shared cell r c) r true truth
    unfolding read_shared
    read_shared-moved =
        let xs = c.copies in
        let ys = hear (λ k. heard_rs (cell k)) same 0 xs in
        let s = after_rs (cell r) (alone r ys) in
        let ws = supplied xs c.home in
        let zs = set ys r (kept s ws) in
        turn_moved true c.home (cond (reflects xs zs) ws c.home) truth truth (valid-rs cell law r (alone r ys))
        (by-hearing xs r (λ k. heard_rs (cell k)) same s ws on (λ k. refl)) ok
        (λ k ne. below-rs cell law k (state_at xs k)) (agree-after_rs (alone r ys) refl) (λ k ne e. refl) (λ e. supplied-truth)
        (λ n. reflected-truth zs (owner_of xs) (owner_owns xs (owner_of xs) refl) n)
        (cond_both (reflects xs zs) ws c.home (λ (x : List ℕ). length x ≡ length truth) (λ e. ap length supplied-truth) (λ e. ok.wide))

    module _ (o v : ℕ) where
      agree-after-up : (b : Bool) → alone r (hear (λ k. heard_up (cell k)) (λ w. set w o v) 0 c.copies) ≡ b → (k : ℕ) → k ≢ r → agree (after_up (cell r) b) (heard_up (cell k) (state_at c.copies k)) ≡ true
      agree-after-up true e k ne =
          agree-unheld (after_up (cell r) true) (heard_up (cell k) (state_at c.copies k)) (heard-alone (λ k. heard_up (cell k)) (λ w. set w o v) (λ k. refl) e k ne)
      agree-after-up false e k ne = agree-up cell law k (state_at c.copies k)

      pub update-moved : valid (state_at c.copies r) ≡ true → Moved c (update cell r o v c) r true (set truth o v)
      unfolding update
      update-moved held =
          let xs = c.copies in
          let ys = hear (λ k. heard_up (cell k)) (λ w. set w o v) 0 xs in
          let s = after_up (cell r) (alone r ys) in
          let ws = set (words_at xs r) o v in
          let turned : Turned xs (set ys r (kept s ws)) r (λ k. heard_up (cell k)) (λ w. set w o v) s ws = by-hearing xs r (λ k. heard_up (cell k)) (λ w. set w o v) s ws on (λ k. refl) in
          turn_moved true c.home c.home truth (set truth o v) (owned-valid s (owned-up cell law r (alone r ys))) turned ok
          (λ k ne. below-up cell law k (state_at xs k)) (agree-after-up (alone r ys) refl) (λ k ne e. refl)
          (λ e. ap (λ (w : List ℕ). set w o v) (ok.current r held))
          (owner-left (set ys r (kept s ws)) (ap owned turned.own-state ∙ owned-up cell law r (alone r ys)))
          (wide-set o v)

      agree-after_tu : (b : Bool) → alone r (hear (λ k. heard_tu (cell k)) (λ w. set w o v) 0 c.copies) ≡ b → (k : ℕ) → k ≢ r → agree (after_tu (cell r) b (state_at c.copies r)) (heard_tu (cell k) (state_at c.copies k)) ≡ true
      agree-after_tu true e k ne =
          agree-unheld (after_tu (cell r) true (state_at c.copies r)) (heard_tu (cell k) (state_at c.copies k)) (heard-alone (λ k. heard_tu (cell k)) (λ w. set w o v) (λ k. refl) e k ne)
      agree-after_tu false e k ne = agree-tu cell law r k (state_at c.copies r) (state_at c.copies k) (ok.apart r k (λ e. ne (sym e)))

      pub through_update-moved : Moved c (through_update cell r o v c) r (valid (state_at c.copies r)) (set truth o v)
      unfolding through_update
      through_update-moved =
          let xs = c.copies in
          let ys = hear (λ k. heard_tu (cell k)) (λ w. set w o v) 0 xs in
          let s = after_tu (cell r) (alone r ys) (state_at xs r) in
          let ws = set (words_at xs r) o v in
          let turned : Turned xs (set ys r (kept s ws)) r (λ k. heard_tu (cell k)) (λ w. set w o v) s ws = by-hearing xs r (λ k. heard_tu (cell k)) (λ w. set w o v) s ws on (λ k. refl) in
          turn_moved (valid (state_at xs r)) c.home (set c.home o v) truth (set truth o v) (valid-tu cell law r (alone r ys) (state_at xs r)) turned ok
          (λ k ne. below-tu cell law k (state_at xs k)) (agree-after_tu (alone r ys) refl) (λ k ne e. refl)
          (λ e. ap (λ (w : List ℕ). set w o v) (ok.current r (sym (valid-tu cell law r (alone r ys) (state_at xs r)) ∙ e)))
          (λ n. ap (λ (w : List ℕ). set w o v) (ok.safe (λ i. ⊎_elim
          (λ p. ap (λ (j : ℕ). owned (state_at xs j)) p ∙ sym (owned-tu cell law r (alone r ys) (state_at xs r)) ∙ sym (ap owned turned.own-state) ∙ n r)
          (λ p. sym (owned-heard_tu cell law i (state_at xs i)) ∙ sym (ap owned (turned.other-state i p)) ∙ n i)
          (cases_eq i r))))
          (wide_both o v)

      pub through_invalidate-moved : (owned (state_at c.copies r) ≡ false → c.home ≡ truth) → Moved c (through_invalidate cell r o v c) r (valid (state_at c.copies r)) (set truth o v)
      unfolding through_invalidate
      through_invalidate-moved saved =
          let xs = c.copies in
          let ys = hear (λ k. gone) same 0 xs in
          let s = after_ti (cell r) (state_at xs r) in
          let ws = set (words_at xs r) o v in
          let turned : Turned xs (set ys r (kept s ws)) r (λ k. gone) same s ws = by-hearing xs r (λ k. gone) same s ws on (λ k. refl) in
          turn_moved (valid (state_at xs r)) c.home (set c.home o v) truth (set truth o v) (valid-ti cell law r (state_at xs r)) turned ok
          (λ k ne. refl) (λ k ne. agree-unheld s Invalid refl) (λ k ne e. absurd (false≢true e))
          (λ e. ap (λ (w : List ℕ). set w o v) (ok.current r (sym (valid-ti cell law r (state_at xs r)) ∙ e)))
          (λ n. ap (λ (w : List ℕ). set w o v) (saved (sym (owned-ti cell law r (state_at xs r)) ∙ sym (ap owned turned.own-state) ∙ n r)))
          (wide_both o v)
