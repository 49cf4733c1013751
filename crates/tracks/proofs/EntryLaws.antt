-- Walks over the entries of a table: what opening an entry and laying its values leave to do. Assumes nothing.
use mathlib.Core.Path.{◌≡◌, refl, sym, ap, ◌∙◌}
use mathlib.Core.List.{List, [], ◌∷◌, ◌++◌, append_assoc, map, map-append}
use Prim.Native.Nat.{ℕ, zero, suc, ◌+◌, ◌-◌, ◌/◌, ◌%◌, ◌≤◌}
use native.Mathlib.Omega.{arith}
use lib.ListN.{length, take, drop, replicate, length-append, length-replicate, length-take, length-drop, length-map}
use lib.Seq.{take-append_seam, drop-append_seam, drop-drop}
use lib.IntN.{ℤ, pos}
use Rattle.slices.specs.Slices.{laid}
use Rattle.std.proofs.lemmas.List.Concat.{length-flat_map}
use Rattle.std.proofs.lemmas.List.Sums.{sum_by-cons}
use Rattle.boxes.specs.Bytes.{be32_at}
use Rattle.tracks.specs.declared.entries.Run.{Run}
use Rattle.tracks.specs.Tables.{entries_from, entry_total, per_frame}

-- the entries from `at` to `end`: none, and one more
module _ (p : List ℕ) (at end : ℕ) where
  pub runs-none : at ≡ end → entries_from ((end - at) / 8) p at ≡ []
  unfolding entries_from
  runs-none h = let n : (end - at) / 8 ≡ 0 = omega arith in rw n

  pub runs-step : at ≤ end → (end - at) % 8 ≡ 0 → (at ≡ end → ⊥)
      → entries_from ((end - at) / 8) p at ≡ record { count = be32_at p at; value = be32_at p (at + 4) } ∷ entries_from ((end - (at + 8)) / 8) p (at + 8)
  unfolding entries_from
  runs-step h w n = let e : (end - at) / 8 ≡ suc ((end - (at + 8)) / 8) = omega arith in rw e

pub ruleset runs = (runs-none, runs-step)

pub length-per-frame : (es : List Run) → length (per_frame es) ≡ entry_total es
length-per-frame es = simp (length-flat_map, length-replicate)

pub total-more : {left rest : List Run} {r : Run} → left ≡ r ∷ rest → entry_total left ≡ r.count + entry_total rest
total-more {rest = rest} {r} e = ap entry_total e ∙ sum_by-cons (λ (run : Run). run.count) r rest

pub map-replicate : {A B : Type 0} (f : A → B) (n : ℕ) (x : A) → map f (replicate n x) ≡ replicate n (f x)
map-replicate f zero x = refl
map-replicate f (suc n) x = ap (λ l. f x ∷ l) (map-replicate f n x)

-- values filled in at the end of what is laid
filled : (a q b ds : List ℤ) (n m : ℕ) → n ≡ length a + length q → m ≡ length q
    → take n (a ++ (q ++ drop m b)) ++ laid ds (drop n (a ++ (q ++ drop m b))) ≡ a ++ laid (q ++ ds) b
filled a q b ds n m en em =
    let s : a ++ (q ++ drop m b) ≡ (a ++ q) ++ drop (length q) b = rw em (sym (append_assoc a q (drop (length q) b))) in
    let l : n ≡ length (a ++ q) = en ∙ sym (length-append a q) in
    let t : take n (a ++ (q ++ drop m b)) ≡ a ++ q = rw (s, l) (take-append_seam (a ++ q) (drop (length q) b)) in
    let d : drop n (a ++ (q ++ drop m b)) ≡ drop (length q) b = rw (s, l) (drop-append_seam (a ++ q) (drop (length q) b)) in
    rw (t, d) (simp (append_assoc, drop-drop, length-append))

-- an entry's frames filled in after what is laid
pub lay-fill : (out : List ℤ) {part whole : List ℤ} {n : ℕ} {z : ℤ} {r : Run} {left rest : List Run}
    → (n ≤ length out → take n out ++ laid (map pos (per_frame left)) (drop n out) ≡ whole) → left ≡ r ∷ rest
    → n + r.count ≤ length out → part ≡ replicate (length (take (n + r.count - n) (drop n out))) z → z ≡ pos r.value
    → take (n + r.count) (take n out ++ (part ++ drop (n + r.count - n) (drop n out))) ++ laid (map pos (per_frame rest)) (drop (n + r.count) (take n out ++ (part ++ drop (n + r.count - n) (drop n out)))) ≡ whole
lay-fill out {part} {n = n} {r = r} {rest = rest} h e room q ez =
    let c = r.count in
    let k : length (take (n + c - n) (drop n out)) ≡ c = simp (length-take, length-drop) (omega arith) in
    let is : part ≡ map pos (replicate c r.value) = q ∙ (λ i. replicate (k i) (ez i)) ∙ sym (map-replicate pos c r.value) in
    let lp : length part ≡ c = ap length is ∙ simp (length-map, length-replicate) in
    let lt : length (take n out) ≡ n = simp length-take (omega arith) in
    filled (take n out) part (drop n out) (map pos (per_frame rest)) (n + c) (n + c - n) (omega arith) (omega arith)
    ∙ ap (λ l. take n out ++ laid l (drop n out)) (rw is (sym (map-append pos (replicate c r.value) (per_frame rest))) ∙ ap (λ l. map pos (per_frame l)) (sym e))
    ∙ h (omega arith)
