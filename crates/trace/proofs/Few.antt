-- A call that accepts answers no more rows than a map may have. Assumes nothing.
use Rattle.std.proofs.Common.{◌≡◌, ℕ, ◌≤◌, List, length, ℤ, arith}
use Rattle.std.specs.Prelude.{Ok}
use Rattle.std.specs.Result.{result_and}
use Rattle.refusal.proofs.Chains.{ok-of}
use Rattle.rows.specs.Rows.{cut, join, merge}
use Rattle.rows.specs.Lent.{rows}
use Rattle.maps.specs.Answers.{most_rows, cut_refusal, join_refusal, merge_refusal}
use Rattle.maps.proofs.Chains.{cut-unrefused, join-unrefused, merge-unrefused}

pub cut-few : (u : List ℕ) (s : List ℤ) (a b nu ns k : ℕ)
    → result_and (cut_refusal u s a b nu ns) (Ok (length (cut a b (rows u s)))) ≡ Ok k → k ≤ most_rows
cut-few u s a b nu ns k e = let o = ok-of _ _ k e in omega (arith, o.1, (cut-unrefused u s a b nu ns o.0).room.few)

pub join-few : (u : List ℕ) (s : List ℤ) (v : List ℕ) (t : List ℤ) (nu ns k : ℕ)
    → result_and (join_refusal u s v t nu ns) (Ok (length (join (rows u s) (rows v t)))) ≡ Ok k → k ≤ most_rows
join-few u s v t nu ns k e = let o = ok-of _ _ k e in omega (arith, o.1, (join-unrefused u s v t nu ns o.0).room.few)

pub merge-few : (u : List ℕ) (s : List ℤ) (nu ns k : ℕ)
    → result_and (merge_refusal u s nu ns) (Ok (length (merge (rows u s)))) ≡ Ok k → k ≤ most_rows
merge-few u s nu ns k e = let o = ok-of _ _ k e in omega (arith, o.1, (merge-unrefused u s nu ns o.0).room.few)

pub ruleset few = (cut-few, join-few, merge-few)
