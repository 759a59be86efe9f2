-- Words cut into lines: how many there are, what each holds, and what the write of one word and of one line changes.
use Rattle.std.specs.Prelude.{◌≡◌, ℕ, zero, suc, ◌+◌, ◌*◌, ◌/◌, ◌<◌, ◌≤◌, List, [], ◌∷◌, ◌++◌, length, take, drop, slice_index_or, slice_set, refl}
use Rattle.std.proofs.Math.Path.{sym}
use Rattle.std.proofs.Common.{ap, ◌∙◌, mul-zero, mul-suc, mul-le-mul_left, arith}
use Rattle.std.specs.Simd.{first_chunks}
use Rattle.std.proofs.Math.Seq.{take-add, take-set-lt}
use Rattle.std.proofs.lemmas.Slice.{take-put_mid, take-put_mid_below, drop-put_mid}
use borrow.Rule.Slice.PartMut.{put_mid, same_len_mid}
use Rattle.std.proofs.lemmas.List.{take-append-drop, append_assoc, drop-drop, drop_at, length-drop, length-take-le, take-set-le, drop-set-lt, drop-set-add, length-set}
use Rattle.memory.specs.Lines.{Shaped, Lawful, word_written, words_in_line}
use Rattle.memory.specs.Words.{whole, cut, lines_of, spare_of, flat}

-- over any width
module _ (w : ℕ) where
  pub length_cut : (n : ℕ) (ws : List ℕ) → length (cut w n ws) ≡ n
  length_cut zero ws = refl
  length_cut (suc n) ws = ap suc (length_cut n (drop w ws))

  next : (i : ℕ) → w * suc i ≡ w + w * i
  next i = omega (arith, mul-suc w i)

  pub get_d-cut : (n i : ℕ) (ws : List ℕ) → i < n → slice_index_or (cut w n ws) i [] ≡ take w (drop (w * i) ws)
  get_d-cut zero i ws h = absurd (omega arith)
  get_d-cut (suc n) zero ws h = rw (mul-zero w)
  get_d-cut (suc n) (suc i) ws h =
      get_d-cut n i (drop w ws) (omega arith) ∙ ap (take w) (drop-drop (w * i) w ws ∙ ap (λ k. drop k ws) (sym (next i)))

  pub cut-set : (n i j v : ℕ) (ws : List ℕ) → i < n → j < w → cut w n (slice_set ws (w * i + j) v) ≡ word_written (cut w n ws) i j v
  cut-set zero i j v ws h k = absurd (omega arith)
  cut-set (suc n) zero j v ws h k =
      let e : w * zero + j ≡ j = omega (arith, mul-zero w) in
      rw (e, take-set-lt w ws j v k, drop-set-lt w ws j v k)
  cut-set (suc n) (suc i) j v ws h k =
      let e : w * suc i + j ≡ w + (w * i + j) = omega (arith, next i) in
      let below : w ≤ w + (w * i + j) = omega arith in
      let t = cut-set n i j v (drop w ws) (omega arith) k in
      rw (e, take-set-le w ws (w + (w * i + j)) v below, drop-set-add w ws (w * i + j) v, t)

  pub spare-set : (n i j v : ℕ) (ws : List ℕ) → i < n → j < w → drop (w * n) (slice_set ws (w * i + j) v) ≡ drop (w * n) ws
  spare-set n i j v ws h k =
      let up : w * suc i ≤ w * n = mul-le-mul_left w h in
      drop-set-lt (w * n) ws (w * i + j) v (omega (arith, next i))

  pub chunks_are : (n k : ℕ) (ws : List ℕ) → k ≤ n → take k (first_chunks w n ws) ≡ cut w k ws
  chunks_are n zero ws h = refl
  chunks_are zero (suc k) ws h = absurd (omega arith)
  chunks_are (suc n) (suc k) ws h =
      ap (λ (r : List (List ℕ)). take w ws ∷ r) (chunks_are n k (drop w ws) (omega arith))

  -- past the first line the write of another goes on in the rest
  drop-put_mid_above : (b : ℕ) (ws v : List ℕ) → w ≤ length ws → drop w (put_mid (w + b) w ws v) ≡ put_mid b w (drop w ws) v
  drop-put_mid_above b ws v le =
      rw (take-add w b ws, append_assoc (take w ws) (take b (drop w ws)) (v ++ drop w (drop (w + b) ws)), drop_at (take w ws) (take b (drop w ws) ++ (v ++ drop w (drop (w + b) ws))) w (length-take-le w ws le), drop-drop b w ws)

  pub cut-put_mid : (n i : ℕ) (ws v : List ℕ) → i < n → w * n ≤ length ws → length v ≡ w → cut w n (put_mid (w * i) w ws v) ≡ slice_set (cut w n ws) i v
  cut-put_mid zero i ws v h le long = absurd (omega arith)
  cut-put_mid (suc n) zero ws v h le long =
      rw (mul-zero w, take-put_mid 0 w ws v w (omega arith) (omega arith), drop-put_mid 0 w ws v w (omega arith) (omega arith) long)
  cut-put_mid (suc n) (suc i) ws v h le long =
      let fits : w + w * n ≤ length ws = omega (arith, next n) in
      let up : w * suc i ≤ w * n = mul-le-mul_left w (omega arith) in
      let d = length-drop w ws in
      let t = cut-put_mid n i (drop w ws) v (omega arith) (omega arith) long in
      rw (next i, take-put_mid_below (w + w * i) w ws v w (omega arith) (omega (arith, next i)), drop-put_mid_above (w * i) ws v (omega arith), t)

  pub flat-cut : (n : ℕ) (ws : List ℕ) → flat (cut w n ws) ++ drop (w * n) ws ≡ ws
  flat-cut zero ws = rw (mul-zero w)
  flat-cut (suc n) ws =
      let t : flat (cut w n (drop w ws)) ++ drop (w + w * n) ws ≡ drop w ws = rw (← drop-drop (w * n) w ws) (flat-cut n (drop w ws)) in
      rw (next n, append_assoc (take w ws) (flat (cut w n (drop w ws))) (drop (w + w * n) ws), t, take-append-drop w ws)

-- the lines of plain memory
pub whole-fits : (len : ℕ) → words_in_line * whole len ≤ len
whole-fits len = omega arith

module _ (ws : List ℕ) where
  pub length-lines : length (lines_of ws) ≡ whole (length ws)
  unfolding lines_of
  length-lines = length_cut words_in_line (whole (length ws)) ws

  pub line-is : (i : ℕ) → i < whole (length ws) → slice_index_or (lines_of ws) i [] ≡ take words_in_line (drop (words_in_line * i) ws)
  unfolding lines_of
  line-is i h = get_d-cut words_in_line (whole (length ws)) i ws h

  pub lines_are : (k : ℕ) → k ≡ whole (length ws) → take k (first_chunks words_in_line (length ws / words_in_line) ws) ≡ lines_of ws
  unfolding lines_of
  lines_are k e = rw e (chunks_are words_in_line (length ws / words_in_line) (whole (length ws)) ws (omega arith))

  pub line-long : Shaped (lines_of ws)
  line-long i h =
      let f = whole-fits (length ws) in
      let n = length-lines in
      let d = length-drop (words_in_line * i) ws in
      ap length (line-is i (omega arith)) ∙ length-take-le words_in_line (drop (words_in_line * i) ws) (omega arith)

  pub lawful-lines : Lawful (lines_of ws) (lines_of ws)
  lawful-lines = record { level = refl; most = omega (arith, length-lines); shaped = line-long; bottom = line-long }

  pub words_are : ws ≡ flat (lines_of ws) ++ spare_of ws
  unfolding lines_of spare_of
  words_are = sym (flat-cut words_in_line (whole (length ws)) ws)

  module _ (i j v : ℕ) (h : i < whole (length ws)) (k : j < words_in_line) where
    pub lines-set : lines_of (slice_set ws (words_in_line * i + j) v) ≡ word_written (lines_of ws) i j v
    unfolding lines_of
    lines-set =
        rw (length-set ws (words_in_line * i + j) v) (cut-set words_in_line (whole (length ws)) i j v ws h k)

    pub spare-same : spare_of (slice_set ws (words_in_line * i + j) v) ≡ spare_of ws
    unfolding spare_of
    spare-same =
        rw (length-set ws (words_in_line * i + j) v) (spare-set words_in_line (whole (length ws)) i j v ws h k)

  -- a line that is written over
  module _ (i : ℕ) (v : List ℕ) (h : i < whole (length ws)) (long : length v ≡ words_in_line) where
    pub length-put : length (put_mid (words_in_line * i) words_in_line ws v) ≡ length ws
    length-put =
        let f = whole-fits (length ws) in
        let d = length-drop (words_in_line * i) ws in
        same_len_mid (words_in_line * i) words_in_line ws v (long ∙ sym (length-take-le words_in_line (drop (words_in_line * i) ws) (omega arith)))

    pub lines-put : lines_of (put_mid (words_in_line * i) words_in_line ws v) ≡ slice_set (lines_of ws) i v
    unfolding lines_of
    lines-put = rw length-put (cut-put_mid words_in_line (whole (length ws)) i ws v h (whole-fits (length ws)) long)

    pub spare-put : spare_of (put_mid (words_in_line * i) words_in_line ws v) ≡ spare_of ws
    unfolding spare_of
    spare-put =
        let f = whole-fits (length ws) in
        rw length-put (drop-put_mid (words_in_line * i) words_in_line ws v (words_in_line * whole (length ws)) (omega arith) (omega arith) long)
