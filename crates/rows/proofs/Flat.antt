-- Rows as words and shifts: lengths, joined lists, that rows which are written read back as they are, and words that
-- are read as rows are theirs. Assumes nothing.
use Prim.Native.Nat.{ℕ, zero, suc, ◌+◌, ◌*◌, ◌≤◌, ◌<◌}
use Rattle.slices.proofs.Ranges.{run}
use native.Mathlib.Nat.{add-zero}
use native.Mathlib.Omega.{arith}
use mathlib.Core.List.{List, [], ◌∷◌, ◌++◌, append_assoc, append-nil}
use mathlib.Core.Path.{◌≡◌, refl, sym, ◌∙◌, ap}
use lib.IntN.{ℤ, pos}
use lib.ListN.{length, get_or, drop, length-append, drop_of_length-le}
use lib.Seq.{get_or-append-add, drop-cons}
use Rattle.rows.specs.declared.Row.{Row}
use Rattle.rows.specs.Lent.{row_at, rows, row_words, words_of, shifts_of}
use Rattle.rows.proofs.Origins.{row-eq}

pub words_append : (x y : List Row) → words_of (x ++ y) ≡ words_of x ++ words_of y
words_append [] y = refl
words_append (r ∷ x) y = ap (λ (l : List ℕ). row_words r ++ l) (words_append x y)

pub shifts-append : (x y : List Row) → shifts_of (x ++ y) ≡ shifts_of x ++ shifts_of y
shifts-append [] y = refl
shifts-append (r ∷ x) y = ap (λ (l : List ℤ). r.shift ∷ l) (shifts-append x y)

pub length-words : (m : List Row) → length (words_of m) ≡ 5 * length m
length-words [] = refl
length-words (r ∷ m) = let e = length-words m in omega arith

pub length-shifts : (m : List Row) → length (shifts_of m) ≡ length m
length-shifts [] = refl
length-shifts (r ∷ m) = ap suc (length-shifts m)

at-word : (p q : List ℕ) (i j : ℕ) → length p ≡ 5 * i → get_or (p ++ q) (5 * i + j) 0 ≡ get_or q j 0
at-word p q i j e = let k : 5 * i + j ≡ length p + j = omega arith in ap (λ (n : ℕ). get_or (p ++ q) n 0) k ∙ get_or-append-add p q j 0

at-shift : (p q : List ℤ) (i : ℕ) → length p ≡ i → get_or (p ++ q) i (pos 0) ≡ get_or q 0 (pos 0)
at-shift p q i e = let k : i ≡ length p + 0 = omega arith in ap (λ (n : ℕ). get_or (p ++ q) n (pos 0)) k ∙ get_or-append-add p q 0 (pos 0)

read-row : (r : Row) (m : List Row) (pu : List ℕ) (ps : List ℤ) (i : ℕ) → length pu ≡ 5 * i → length ps ≡ i
    → row_at (pu ++ words_of (r ∷ m)) (ps ++ shifts_of (r ∷ m)) i ≡ r
read-row r m pu ps i e f =
    let q = words_of (r ∷ m) in
    let z : 5 * i ≡ 5 * i + 0 = omega arith in
    row-eq (row_at (pu ++ q) (ps ++ shifts_of (r ∷ m)) i) r
    (ap (λ (n : ℕ). get_or (pu ++ q) n 0) z ∙ at-word pu q i 0 e) (at-word pu q i 1 e) (at-word pu q i 2 e) (at-word pu q i 3 e) (at-word pu q i 4 e)
    (at-shift ps (shifts_of (r ∷ m)) i f)

read-rows : (m : List Row) (pu : List ℕ) (ps : List ℤ) (i : ℕ) → length pu ≡ 5 * i → length ps ≡ i
    → run (row_at (pu ++ words_of m) (ps ++ shifts_of m)) i (length m) ≡ m
read-rows [] pu ps i e f = refl
read-rows (r ∷ m) pu ps i e f =
    let gu = length-append pu (row_words r) in
    let gs = length-append ps (r.shift ∷ []) in
    let ih = read-rows m (pu ++ row_words r) (ps ++ r.shift ∷ []) (i + 1) (omega arith) (omega arith) in
    let x : run (row_at (pu ++ words_of (r ∷ m)) (ps ++ shifts_of (r ∷ m))) (i + 1) (length m) ≡ m =
    ap (λ (l : List ℕ). run (row_at l (ps ++ shifts_of (r ∷ m))) (i + 1) (length m)) (sym (append_assoc pu (row_words r) (words_of m)))
    ∙ ap (λ (l : List ℤ). run (row_at ((pu ++ row_words r) ++ words_of m) l) (i + 1) (length m)) (sym (append_assoc ps (r.shift ∷ []) (shifts_of m)))
    ∙ ih in
    cc (read-row r m pu ps i e f, x)

pub rows-flat : (m : List Row) → rows (words_of m) (shifts_of m) ≡ m
rows-flat m = ap (λ (n : ℕ). run (row_at (words_of m) (shifts_of m)) 0 n) (length-shifts m) ∙ read-rows m [] [] 0 refl refl

-- ---- words that are read as rows
next : (u : List ℕ) (i j : ℕ) → i < length u → suc i ≡ j → drop i u ≡ get_or u i 0 ∷ drop j u
next u i j h e = drop-cons u i 0 h ∙ ap (λ (k : ℕ). get_or u i 0 ∷ drop k u) e

-- the five words of row i
abbrev pub five_at : List ℕ → ℕ → List ℕ
five_at u i = get_or u (5 * i) 0 ∷ get_or u (5 * i + 1) 0 ∷ get_or u (5 * i + 2) 0 ∷ get_or u (5 * i + 3) 0 ∷ get_or u (5 * i + 4) 0 ∷ []

five : (u : List ℕ) (i : ℕ) → 5 * i + 5 ≤ length u → drop (5 * i) u ≡ five_at u i ++ drop (5 * i + 5) u
five u i h =
    let b = 5 * i in
    next u b (b + 1) (omega arith) (omega arith)
    ∙ ap (λ (l : List ℕ). get_or u b 0 ∷ l) (next u (b + 1) (b + 2) (omega arith) (omega arith)
    ∙ ap (λ (l : List ℕ). get_or u (b + 1) 0 ∷ l) (next u (b + 2) (b + 3) (omega arith) (omega arith)
    ∙ ap (λ (l : List ℕ). get_or u (b + 2) 0 ∷ l) (next u (b + 3) (b + 4) (omega arith) (omega arith)
    ∙ ap (λ (l : List ℕ). get_or u (b + 3) 0 ∷ l) (next u (b + 4) (b + 5) (omega arith) (omega arith)))))

-- rows f 0, f 1, .. that are read from words, whatever their shifts: their words are these
module _ (u : List ℕ) (f : ℕ → Row) (read : (k : ℕ) → row_words (f k) ≡ five_at u k) where
  words-run : (m i : ℕ) → 5 * (i + m) ≤ length u → words_of (run f i m) ++ drop (5 * (i + m)) u ≡ drop (5 * i) u
  words-run zero i h = ap (λ (k : ℕ). drop (5 * k) u) (add-zero i)
  words-run (suc m) i h =
      let rest = words_of (run f (i + 1) m) in
      let e : i + suc m ≡ i + 1 + m = omega arith in
      let n : 5 * (i + 1) ≡ 5 * i + 5 = omega arith in
      ap (λ (l : List ℕ). (l ++ rest) ++ drop (5 * (i + suc m)) u) (read i)
      ∙ ap (λ (l : List ℕ). five_at u i ++ l) (ap (λ (k : ℕ). rest ++ drop (5 * k) u) e ∙ words-run m (i + 1) (omega arith) ∙ ap (λ (k : ℕ). drop k u) n)
      ∙ sym (five u i (omega arith))

  pub words-read : (n : ℕ) → length u ≡ 5 * n → u ≡ words_of (run f 0 n)
  words-read n h =
      let w = words_of (run f 0 n) in
      sym (words-run n 0 (omega arith)) ∙ ap (λ (l : List ℕ). w ++ l) (drop_of_length-le u {i = 5 * (0 + n)} (omega arith)) ∙ append-nil w
