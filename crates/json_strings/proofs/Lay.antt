-- Parts laid over what is lent, one after another. Assumes nothing.
use mathlib.Core.Path.{◌≡◌, refl, sym, ap, ◌∙◌}
use mathlib.Core.List.{List, [], ◌++◌, append_assoc}
use Prim.Native.Nat.{ℕ, ◌+◌, ◌≤◌}
use native.Mathlib.Omega.{arith}
use lib.ListN.{length, take, drop, length-append, length-take}
use lib.Seq.{take-append_seam, drop-append_seam, drop-drop}
use Rattle.std.proofs.lemmas.List.{take-append-drop}
use Rattle.slices.specs.Slices.{laid}

module _ {A : Type 0} where
  -- a part written in after what is laid
  filled : (a q b ds : List A) (n m : ℕ) → n ≡ length a + length q → m ≡ length q
      → take n (a ++ (q ++ drop m b)) ++ laid ds (drop n (a ++ (q ++ drop m b))) ≡ a ++ laid (q ++ ds) b
  filled a q b ds n m en em =
      let s : a ++ (q ++ drop m b) ≡ (a ++ q) ++ drop (length q) b = rw em (sym (append_assoc a q (drop (length q) b))) in
      let l : n ≡ length (a ++ q) = en ∙ sym (length-append a q) in
      let t : take n (a ++ (q ++ drop m b)) ≡ a ++ q = rw (s, l) (take-append_seam (a ++ q) (drop (length q) b)) in
      let d : drop n (a ++ (q ++ drop m b)) ≡ drop (length q) b = rw (s, l) (drop-append_seam (a ++ q) (drop (length q) b)) in
      rw (t, d) (simp (append_assoc, drop-drop, length-append))

  -- what is laid before n, with a part written there, and what is to come after it
  pub lay-more : (out part ws : List A) (n : ℕ) {whole now : List A} → n + length part ≤ length out
      → now ≡ take n out ++ (part ++ drop (n + length part) out)
      → take n out ++ laid (part ++ ws) (drop n out) ≡ whole
      → take (n + length part) now ++ laid ws (drop (n + length part) now) ≡ whole
  lay-more out part ws n h q inv =
      let lt : length (take n out) ≡ n = simp length-take (omega arith) in
      let d : drop (n + length part) out ≡ drop (length part) (drop n out) = sym (simp drop-drop (ap (λ k. drop k out) (omega arith))) in
      rw (q, d) (filled (take n out) part (drop n out) ws (n + length part) (length part) (rw lt refl) refl ∙ inv)

  pub lay-end : (out whole : List A) (n : ℕ) → n ≤ length out → take n out ++ laid [] (drop n out) ≡ whole → out ≡ whole
  lay-end out whole n h inv = sym (take-append-drop n out) ∙ inv

  -- what is laid from n on, as one part of the whole
  pub laid-at : (part out : List A) (n : ℕ) → take n out ++ laid part (drop n out) ≡ take n out ++ (part ++ drop (n + length part) out)
  laid-at part out n = ap (λ l. take n out ++ (part ++ l)) (simp drop-drop (ap (λ k. drop k out) (omega arith)))
