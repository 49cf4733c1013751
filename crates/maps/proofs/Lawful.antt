-- Every law of the calls holds: each promise is opened, and the rest is a demand on the definitions. Assumes nothing.
use Rattle.std.proofs.Common.{◌≡◌, ℕ, ◌+◌, ◌-◌, ◌*◌, ◌<◌, ◌≤◌, ◌↔◌, List, length, take, ℤ, sym, refl, ap, ◌∙◌, ap₂, ⊎_elim, arith}
use Rattle.std.specs.Prelude.{Option, None, Some, Result, Ok}
use Rattle.std.specs.Result.{result_and}
use Rattle.refusal.specs.declared.Refusal.{Refusal}
use Rattle.refusal.specs.declared.Reason.TheVariants as reason
use Rattle.refusal.specs.Refusals.{refused}
use Rattle.conditions.specs.Conditions.{max_u64}
use Rattle.conditions.proofs.Tests.{le-or-lt}
use Rattle.rows.specs.declared.Row.{Row}
use Rattle.rows.specs.declared.Origin.{Origin}
use Rattle.rows.specs.Rows.{total, origin, cut, join, merge}
use Rattle.rows.proofs.Demanded.{demanded}
use Rattle.rows.specs.Lent.{rows}
use Rattle.maps.specs.Answers.{most_rows, room_refusal, cut_refusal, merge_refusal, traced_as, Placed, Cut, Join, Merge, Trace}
use Rattle.maps.specs.Laws.{LentMap, Wrote, TracedTo, Laws}
use Rattle.conditions.proofs.Sums.{not-past}
use Rattle.maps.proofs.Chains.{Fits, room-on, too_many, lent, sound-lent, is-sound, cut-empty, cut-room, cut-unrefused, cut-accepted, merge-room, merge-unrefused, merge-accepted, join-room, join-unrefused, join-accepted, origin-beyond, origin-accepted}
use Rattle.maps.proofs.Spans.{origin-held, row-holder}
use Rattle.maps.proofs.Joined.{length-rows, length-join}
use Rattle.maps.proofs.ReadBack.{none, count, wrote, as_lent, frames-rows, rows-frames}

-- ---- lent maps
some-frames : (u : List ℕ) (s : List ℤ) → LentMap u s → 0 < total (rows u s)
some-frames u s l = rows-frames (rows u s) l.well (omega (arith, length-rows u s, l.some))

-- two calls that are asked for the same rows, with the same refusal
once : {x y : Result (Unit {0}) Refusal} {m l : List Row} {ou ou' ou'' : List ℕ} {os os' os'' : List ℤ} {r q : Result ℕ Refusal}
    → x ≡ y → m ≡ l
    → Placed x m ou os r ou' os' → Placed y l ou os q ou'' os'' → (r ≡ q) × (ou' ≡ ou'') × (os' ≡ os'')
once {x} {y} {m} {l} {ou} {ou'} {ou''} {os} {os'} {os''} {r} e f p q = let p' : Placed y l ou os r ou' os' = rw (e, f) at p in (p'.answer ∙ sym q.answer, p'.words ∙ sym q.words, p'.shifts ∙ sym q.shifts)

-- ---- what the calls write
cut_gives : (u : List ℕ) (s : List ℤ) (a b k : ℕ) (ou ou' : List ℕ) (os os' : List ℤ) → Cut u s a b ou os (Ok k) ou' os'
    → LentMap u s × (a < b) × (b ≤ total (rows u s)) × Wrote k ou' os' (cut a b (rows u s)) × (total (cut a b (rows u s)) ≡ b - a)
cut_gives u s a b k ou ou' os os' p =
    let o = cut-unrefused u s a b (length ou) (length os) (none p) in
    let t = demanded.cut_total (rows u s) a b o.sound.well o.inside in
    (lent o.sound o.few, o.some, o.inside, wrote p (frames-rows (cut a b (rows u s)) (omega (arith, o.some))) o.room.few (demanded.cut_well (rows u s) a b o.sound.well), t)

join_gives : (u v : List ℕ) (s t : List ℤ) (k : ℕ) (ou ou' : List ℕ) (os os' : List ℤ)
    → Join u s v t ou os (Ok k) ou' os'
    → LentMap u s × LentMap v t × (total (rows u s) + total (rows v t) ≤ max_u64) × Wrote k ou' os' (join (rows u s) (rows v t)) × (k ≡ length s + length t)
    × (total (join (rows u s) (rows v t)) ≡ total (rows u s) + total (rows v t))
join_gives u v s t k ou ou' os os' p =
    let o = join-unrefused u s v t (length ou) (length os) (none p) in
    let n = length-join u s v t in (
      lent o.first o.few,
      lent o.second o.few-second,
      o.short,
      wrote p (omega (arith, o.first.some)) o.room.few (demanded.join_well (rows u s) (rows v t) o.first.well o.second.well o.short),
      count p ∙ n,
      demanded.join_total (rows u s) (rows v t),
    )

merge_gives : (u : List ℕ) (s : List ℤ) (k : ℕ) (ou ou' : List ℕ) (os os' : List ℤ) → Merge u s ou os (Ok k) ou' os'
    → LentMap u s × Wrote k ou' os' (merge (rows u s)) × (total (merge (rows u s)) ≡ total (rows u s))
merge_gives u s k ou ou' os os' p =
    let o = merge-unrefused u s (length ou) (length os) (none p) in
    let l = lent o.sound o.few in
    (l, wrote p (frames-rows (merge (rows u s)) (omega (arith, demanded.merge_total (rows u s), some-frames u s l))) o.room.few (demanded.merge_well (rows u s) l.well), demanded.merge_total (rows u s))

cut_whole : (u : List ℕ) (s : List ℤ) (k : ℕ) (ou ou' : List ℕ) (os os' : List ℤ)
    → Cut u s 0 (total (rows u s)) ou os (Ok k) ou' os' → Wrote k ou' os' (rows u s)
cut_whole u s k ou ou' os os' p =
    let g = cut_gives u s 0 (total (rows u s)) k ou ou' os os' p in
    record { lent = g.3.lent; is = g.3.is ∙ demanded.cut_all (rows u s) g.0.well }

-- ---- where they answer
answer : {x : Result (Unit {0}) Refusal} {m : List Row} {ou ou' : List ℕ} {os os' : List ℤ} {r : Result ℕ Refusal}
    → Placed x m ou os r ou' os' → x ≡ Ok tt → r ≡ Ok (length m)
answer {x} {m} p e = p.answer ∙ ap (λ (y : Result (Unit {0}) Refusal). result_and y (Ok (length m))) e

cut_accepts : (u : List ℕ) (s : List ℤ) (a b : ℕ) (ou ou' : List ℕ) (os os' : List ℤ) (r : Result ℕ Refusal)
    → LentMap u s → a < b → b ≤ total (rows u s)
    → 5 * length (cut a b (rows u s)) ≤ length ou → length (cut a b (rows u s)) ≤ length os → Cut u s a b ou os r ou' os' → r ≡ Ok (length (cut a b (rows u s)))
cut_accepts u s a b ou ou' os os' r l h i x y p =
    let f : Fits (length (cut a b (rows u s))) (length ou) (length os) = record { few = omega (arith, demanded.cut_rows (rows u s) a b, length-rows u s, l.few); words = x; shifts = y } in
    answer p (cut-accepted u s a b (length ou) (length os) (record { sound = sound-lent l; few = l.few; some = h; inside = i; room = f }))

join_accepts : (u v : List ℕ) (s t : List ℤ) (ou ou' : List ℕ) (os os' : List ℤ) (r : Result ℕ Refusal) → LentMap u s
    → LentMap v t → total (rows u s) + total (rows v t) ≤ max_u64
    → length s + length t ≤ most_rows → 5 * (length s + length t) ≤ length ou → length s + length t ≤ length os → Join u s v t ou os r ou' os' → r ≡ Ok (length s + length t)
join_accepts u v s t ou ou' os os' r l k h few x y p =
    let n = length-join u s v t in
    let f : Fits (length (join (rows u s) (rows v t))) (length ou) (length os) = record { few = omega arith; words = omega arith; shifts = omega arith } in
    answer p (join-accepted u s v t (length ou) (length os) (record { first = sound-lent l; second = sound-lent k; few = l.few; few-second = k.few; short = h; room = f })) ∙ ap Ok n

merge_accepts : (u : List ℕ) (s : List ℤ) (ou ou' : List ℕ) (os os' : List ℤ) (r : Result ℕ Refusal) → LentMap u s
    → 5 * length (merge (rows u s)) ≤ length ou → length (merge (rows u s)) ≤ length os → Merge u s ou os r ou' os' → r ≡ Ok (length (merge (rows u s)))
merge_accepts u s ou ou' os os' r l x y p =
    let f : Fits (length (merge (rows u s))) (length ou) (length os) = record { few = omega (arith, demanded.merge_rows (rows u s), length-rows u s, l.few); words = x; shifts = y } in
    answer p (merge-accepted u s (length ou) (length os) (record { sound = sound-lent l; few = l.few; room = f }))

-- ---- origins
-- what `origin` answers of a lent map, for every frame
traces : (u : List ℕ) (s : List ℤ) (f : ℕ) (r : Result Origin Refusal) → LentMap u s → Trace u s f r
    → r ≡ traced_as (origin (rows u s) f)
traces u s f r l e =
    ⊎_elim
    (λ (h : total (rows u s) ≤ f).
    e
    ∙ ap (λ (x : Result (Unit {0}) Refusal). result_and x (traced_as (origin (rows u s) f))) (origin-beyond u s f (is-sound l) l.few h)
    ∙ ap traced_as (sym (demanded.past_map (rows u s) f l.well h)))
    (λ (h : f < total (rows u s)). e ∙ ap (λ (x : Result (Unit {0}) Refusal). result_and x (traced_as (origin (rows u s) f))) (origin-accepted u s f (is-sound l) l.few h))
    (le-or-lt (total (rows u s)) f)

origin_past : (u : List ℕ) (s : List ℤ) (f : ℕ) (r : Result Origin Refusal) → LentMap u s → total (rows u s) ≤ f
    → Trace u s f r → r ≡ refused reason.PastMap 0
origin_past u s f r l h e = traces u s f r l e ∙ ap traced_as (demanded.past_map (rows u s) f l.well h)

origin_found : (u : List ℕ) (s : List ℤ) (f : ℕ) (r : Result Origin Refusal) → LentMap u s → f < total (rows u s)
    → Trace u s f r → TracedTo u s f r
origin_found u s f r l h e =
    let o = row-holder (sound-lent l) f h in
    record {
      index = o.index;
      within = o.holder.within;
      low = o.holder.low;
      high = o.holder.high;
      only = o.only;
      gives = traces u s f r l e ∙ ap traced_as (origin-held (sound-lent l) f o.index o.holder);
    }

-- two maps give two frames the same origin, so `origin` answers the same
same-traces : (u v : List ℕ) (s t : List ℤ) (f g : ℕ) (r q : Result Origin Refusal) → LentMap u s → LentMap v t
    → origin (rows u s) f ≡ origin (rows v t) g → Trace u s f r → Trace v t g q → r ≡ q
same-traces u v s t f g r q l k e x y = traces u s f r l x ∙ ap traced_as e ∙ sym (traces v t g q k y)

told-once : (o p : Option Origin) → traced_as o ≡ traced_as p → o ≡ p
told-once None None e = refl
told-once None (Some a) e = absurd (grind arith)
told-once (Some a) None e = absurd (grind arith)
told-once (Some a) (Some b) e = grind arith

-- what was written gives frame f the origin that the map which it is gives it
written-origin : {k : ℕ} {ou : List ℕ} {os : List ℤ} {m : List Row} (f : ℕ) → Wrote k ou os m
    → origin (rows (take (5 * k) ou) (take k os)) f ≡ origin m f
written-origin f w = ap (λ (n : List Row). origin n f) w.is

cut_origins : (u : List ℕ) (s : List ℤ) (a b k f : ℕ) (ou ou' : List ℕ) (os os' : List ℤ) (r q : Result Origin Refusal)
    → Cut u s a b ou os (Ok k) ou' os' → f < b - a
    → Trace (take (5 * k) ou') (take k os') f r → Trace u s (a + f) q → r ≡ q
cut_origins u s a b k f ou ou' os os' r q p h x y =
    let g = cut_gives u s a b k ou ou' os os' p in
    same-traces (take (5 * k) ou') u (take k os') s f (a + f) r q g.3.lent g.0 (written-origin f g.3 ∙ demanded.cut_origin (rows u s) a b f h) x y

join_origins : (u v : List ℕ) (s t : List ℤ) (k f : ℕ) (ou ou' : List ℕ) (os os' : List ℤ) (r q : Result Origin Refusal)
    → Join u s v t ou os (Ok k) ou' os' → f < total (rows u s)
    → Trace (take (5 * k) ou') (take k os') f r → Trace u s f q → r ≡ q
join_origins u v s t k f ou ou' os os' r q p h x y =
    let g = join_gives u v s t k ou ou' os os' p in
    same-traces (take (5 * k) ou') u (take k os') s f f r q g.3.lent g.0 (written-origin f g.3 ∙ demanded.join_first (rows u s) (rows v t) f g.0.well h) x y

join_origins_second : (u v : List ℕ) (s t : List ℤ) (k f : ℕ) (ou ou' : List ℕ) (os os' : List ℤ)
    (r q : Result Origin Refusal)
    → Join u s v t ou os (Ok k) ou' os'
    → Trace (take (5 * k) ou') (take k os') (total (rows u s) + f) r → Trace v t f q → r ≡ q
join_origins_second u v s t k f ou ou' os os' r q p x y =
    let g = join_gives u v s t k ou ou' os os' p in
    same-traces (take (5 * k) ou') v (take k os') t (total (rows u s) + f) f r q g.3.lent g.1 (written-origin (total (rows u s) + f) g.3 ∙ demanded.join_second (rows u s) (rows v t) f g.0.well) x y

merge_origins : (u : List ℕ) (s : List ℤ) (k f : ℕ) (ou ou' : List ℕ) (os os' : List ℤ) (r q : Result Origin Refusal)
    → Merge u s ou os (Ok k) ou' os'
    → Trace (take (5 * k) ou') (take k os') f r → Trace u s f q → r ≡ q
merge_origins u s k f ou ou' os os' r q p x y =
    let g = merge_gives u s k ou ou' os os' p in
    same-traces (take (5 * k) ou') u (take k os') s f f r q g.1.lent g.0 (written-origin f g.1 ∙ demanded.merge_origin (rows u s) f g.0.well) x y

-- ---- cuts of cuts
cut_again : (u : List ℕ) (s : List ℤ) (a b c d k : ℕ) (mu mu' ou ou' ou'' : List ℕ) (ms ms' os os' os'' : List ℤ) (r q : Result ℕ Refusal)
    → Cut u s a b mu ms (Ok k) mu' ms' → Cut (take (5 * k) mu') (take k ms') c d ou os r ou' os' → Cut u s (a + c) (a + d) ou os q ou'' os'' → d ≤ b - a
    → (r ≡ q) × (ou' ≡ ou'') × (os' ≡ os'')
cut_again u s a b c d k mu mu' ou ou' ou'' ms ms' os os' os'' r q p x y h = once refusals one x y
  where
    g : LentMap u s × (a < b) × (b ≤ total (rows u s)) × Wrote k mu' ms' (cut a b (rows u s)) × (total (cut a b (rows u s)) ≡ b - a)
    g = cut_gives u s a b k mu mu' ms ms' p

    one : cut c d (rows (take (5 * k) mu') (take k ms')) ≡ cut (a + c) (a + d) (rows u s)
    one = ap (cut c d) g.3.is ∙ demanded.cut_cut (rows u s) a b c d h

    refusals : cut_refusal (take (5 * k) mu') (take k ms') c d (length ou) (length os) ≡ cut_refusal u s (a + c) (a + d) (length ou) (length os)
    refusals =
        let lv = g.3.lent in
        let lu = g.0 in
        let tv = ap total g.3.is ∙ g.4 in
        ⊎_elim
        (λ (e : d ≤ c).
        cut-empty (take (5 * k) mu') (take k ms') c d (length ou) (length os) (is-sound lv) lv.few e
        ∙ sym (cut-empty u s (a + c) (a + d) (length ou) (length os) (is-sound lu) lu.few (omega arith)))
        (λ (e : c < d).
        cut-room (take (5 * k) mu') (take k ms') c d (length ou) (length os) (is-sound lv) lv.few e (omega arith)
        ∙ ap (λ (m : List Row). room_refusal (length m) (length ou) (length os)) one
        ∙ sym (cut-room u s (a + c) (a + d) (length ou) (length os) (is-sound lu) lu.few (omega arith) (omega (arith, g.2))))
        (le-or-lt d c)

-- ---- merges
-- maps that merge to the same rows are refused alike
merge-alike : (u v : List ℕ) (s t : List ℤ) (nu ns : ℕ) → LentMap u s → LentMap v t
    → merge (rows u s) ≡ merge (rows v t) → merge_refusal u s nu ns ≡ merge_refusal v t nu ns
merge-alike u v s t nu ns l k e =
    merge-room u s nu ns (is-sound l) l.few
    ∙ ap (λ (m : List Row). room_refusal (length m) nu ns) e
    ∙ sym (merge-room v t nu ns (is-sound k) k.few)

merge_again : (u : List ℕ) (s : List ℤ) (k : ℕ) (ou ou' ou'' : List ℕ) (os os' os'' : List ℤ) (r : Result ℕ Refusal)
    → Merge u s ou os (Ok k) ou' os'
    → Merge (take (5 * k) ou') (take k os') ou os r ou'' os'' → (r ≡ Ok k) × (ou'' ≡ ou') × (os'' ≡ os')
merge_again u s k ou ou' ou'' os os' os'' r p x =
    let g = merge_gives u s k ou ou' os os' p in
    let e = ap merge g.1.is ∙ demanded.merge_merge (rows u s) in
    once (merge-alike (take (5 * k) ou') u (take k os') s (length ou) (length os) g.1.lent g.0 e) e x p

merge_same : (u v : List ℕ) (s t : List ℤ) (i j : ℕ) (ou ou' ou'' : List ℕ) (os os' os'' : List ℤ)
    → Merge u s ou os (Ok i) ou' os' → Merge v t ou os (Ok j) ou'' os'' → total (rows u s) ≡ total (rows v t)
    → ((i ≡ j) × (ou' ≡ ou'') × (os' ≡ os'')) ↔ ((f : ℕ) (r q : Result Origin Refusal) → f < total (rows u s) → Trace u s f r → Trace v t f q → r ≡ q)
merge_same u v s t i j ou ou' ou'' os os' os'' p x e = (forth, back)
  where
    g : LentMap u s × Wrote i ou' os' (merge (rows u s))
    g = let y = merge_gives u s i ou ou' os os' p in (y.0, y.1)

    h : LentMap v t × Wrote j ou'' os'' (merge (rows v t))
    h = let y = merge_gives v t j ou ou'' os os'' x in (y.0, y.1)

    same : (merge (rows u s) ≡ merge (rows v t))
        ↔ ((f : ℕ) → f < total (rows u s) → origin (rows u s) f ≡ origin (rows v t) f)
    same = demanded.merge_same (rows u s) (rows v t) g.0.well h.0.well e

    forth : (i ≡ j) × (ou' ≡ ou'') × (os' ≡ os'') → (f : ℕ) (r q : Result Origin Refusal) → f < total (rows u s)
        → Trace u s f r → Trace v t f q → r ≡ q
    forth a f r q l y z =
        let m : merge (rows u s) ≡ merge (rows v t) =
        sym g.1.is
        ∙ ap₂ rows (ap₂ (λ (n : ℕ) (o : List ℕ). take (5 * n) o) a.0 a.1) (ap₂ (λ (n : ℕ) (o : List ℤ). take n o) a.0 a.2)
        ∙ h.1.is in
        same-traces u v s t f f r q g.0 h.0 (same.0 m f l) y z

    back : ((f : ℕ) (r q : Result Origin Refusal) → f < total (rows u s) → Trace u s f r → Trace v t f q → r ≡ q)
        → (i ≡ j) × (ou' ≡ ou'') × (os' ≡ os'')
    back a =
        let o : (f : ℕ) → f < total (rows u s) → origin (rows u s) f ≡ origin (rows v t) f = λ f l.
        told-once (origin (rows u s) f) (origin (rows v t) f)
        (sym (traces u s f _ g.0 refl) ∙ a f _ _ l refl refl ∙ traces v t f _ h.0 refl) in
        let m = same.1 o in
        let z = once (merge-alike u v s t (length ou) (length os) g.0 h.0 m) m p x in
        (count p ∙ ap length m ∙ sym (count x), z.1, z.2)

-- ---- neighbouring cuts
module _ (u : List ℕ) (s : List ℤ) (a b c i j : ℕ) (pu pu' qu qu' : List ℕ) (ps ps' qs qs' : List ℤ) (p : Cut u s a b pu ps (Ok i) pu' ps') (q : Cut u s b c qu qs (Ok j) qu' qs') where
  left : LentMap u s × (a < b) × (b ≤ total (rows u s)) × Wrote i pu' ps' (cut a b (rows u s)) × (total (cut a b (rows u s)) ≡ b - a)
  left = cut_gives u s a b i pu pu' ps ps' p

  right : LentMap u s × (b < c) × (c ≤ total (rows u s)) × Wrote j qu' qs' (cut b c (rows u s)) × (total (cut b c (rows u s)) ≡ c - b)
  right = cut_gives u s b c j qu qu' qs qs' q

  join_cuts : (n w : ℕ) (ju ju' wu wu' ou ou' ou'' : List ℕ) (js js' ws ws' os os' os'' : List ℤ) (x y : Result ℕ Refusal)
      → Join (take (5 * i) pu') (take i ps') (take (5 * j) qu') (take j qs') ju js (Ok n) ju' js' → Merge (take (5 * n) ju') (take n js') ou os x ou' os'
      → Cut u s a c wu ws (Ok w) wu' ws' → Merge (take (5 * w) wu') (take w ws') ou os y ou'' os''
      → (x ≡ y) × (ou' ≡ ou'') × (os' ≡ os'')
  join_cuts n w ju ju' wu wu' ou ou' ou'' js js' ws ws' os os' os'' x y k m z o =
      let g = join_gives (take (5 * i) pu') (take (5 * j) qu') (take i ps') (take j qs') n ju ju' js js' k in
      let h = cut_gives u s a c w wu wu' ws ws' z in
      let e : merge (rows (take (5 * n) ju') (take n js')) ≡ merge (rows (take (5 * w) wu') (take w ws')) =
      ap merge (g.3.is ∙ ap₂ join left.3.is right.3.is)
      ∙ demanded.join_cuts (rows u s) a b c left.0.well (omega (arith, left.1)) (omega (arith, right.1)) right.2
      ∙ ap merge (sym h.3.is) in
      once (merge-alike (take (5 * n) ju') (take (5 * w) wu') (take n js') (take w ws') (length ou) (length os) g.3.lent h.3.lent e) e m o

  sizes : (length (take i ps') ≡ i) × (length (take j qs') ≡ j)
  sizes = (
    sym (length-rows (take (5 * i) pu') (take i ps')) ∙ ap length left.3.is ∙ sym (count p),
    sym (length-rows (take (5 * j) qu') (take j qs')) ∙ ap length right.3.is ∙ sym (count q),
  )

  join_cuts_answer : (ju ju' : List ℕ) (js js' : List ℤ) (r : Result ℕ Refusal)
      → Join (take (5 * i) pu') (take i ps') (take (5 * j) qu') (take j qs') ju js r ju' js'
      → 5 * (i + j) ≤ length ju → i + j ≤ length js → (i + j ≤ most_rows → r ≡ Ok (i + j)) × (most_rows < i + j → r ≡ refused reason.RowsDontFit 0)
  join_cuts_answer ju ju' js js' r k h l =
      let vu = take (5 * i) pu' in
      let vs = take i ps' in
      let wu = take (5 * j) qu' in
      let ws = take j qs' in
      let n : length vs + length ws ≡ i + j = omega (arith, sizes) in
      let t : total (rows vu vs) + total (rows wu ws) ≤ max_u64 = omega (arith, ap total left.3.is ∙ left.4, ap total right.3.is ∙ right.4, left.1, right.1, right.2, (demanded.tiles (rows u s) left.0.well).1) in (
        λ e. join_accepts vu wu vs ws ju ju' js js' r left.3.lent right.3.lent t (omega arith) (omega arith) (omega arith) k ∙ ap Ok n,
        λ e.
            let z = join-room vu vs wu ws (length ju) (length js) (is-sound left.3.lent) (is-sound right.3.lent) left.3.lent.few right.3.lent.few (not-past (total (rows vu vs)) (total (rows wu ws)) max_u64 t) in
            let f = too_many (length (join (rows vu vs) (rows wu ws))) (length ju) (length js) (omega (arith, length-join vu vs wu ws)) in
            k.answer ∙ ap (λ (y : Result (Unit {0}) Refusal). result_and y (Ok (length (join (rows vu vs) (rows wu ws))))) (z ∙ room-on (length (join (rows vu vs) (rows wu ws))) (length ju) (length js) f),
      )

  join_cuts_rows : (w : ℕ) (wu wu' : List ℕ) (ws ws' : List ℤ) → Cut u s a c wu ws (Ok w) wu' ws' → i + j ≤ w + 1
  join_cuts_rows w wu wu' ws ws' z =
      omega (arith, count p, count q, count z, demanded.join_cuts_rows (rows u s) a b c left.0.well (omega (arith, left.1)) (omega (arith, right.1)))

pub lawful : Laws Cut Join Merge Trace
lawful = record {
  cut_leaves = λ u s a b ou ou' os os' r p. as_lent r p;
  join_leaves = λ u v s t ou ou' os os' r p. as_lent r p;
  merge_leaves = λ u s ou ou' os os' r p. as_lent r p;
  cut_gives = cut_gives;
  join_gives = join_gives;
  merge_gives = merge_gives;
  cut_whole = cut_whole;
  cut_accepts = cut_accepts;
  join_accepts = join_accepts;
  merge_accepts = merge_accepts;
  origin_found = origin_found;
  origin_past = origin_past;
  cut_origins = cut_origins;
  cut_again = cut_again;
  join_origins = join_origins;
  join_origins_second = join_origins_second;
  merge_origins = merge_origins;
  merge_again = merge_again;
  merge_same = merge_same;
  join_cuts = λ u s a b c i j n w pu pu' qu qu' ju ju' wu wu' ou ou' ou'' ps ps' qs qs' js js' ws ws' os os' os'' x y p q k m z o.
      join_cuts u s a b c i j pu pu' qu qu' ps ps' qs qs' p q n w ju ju' wu wu' ou ou' ou'' js js' ws ws' os os' os'' x y k m z o;
  join_cuts_answer = λ u s a b c i j pu pu' qu qu' ju ju' ps ps' qs qs' js js' r p q k h l. join_cuts_answer u s a b c i j pu pu' qu qu' ps ps' qs qs' p q ju ju' js js' r k h l;
  join_cuts_rows = λ u s a b c i j w pu pu' qu qu' wu wu' ps ps' qs qs' ws ws' p q z. join_cuts_rows u s a b c i j pu pu' qu qu' ps ps' qs qs' p q w wu wu' ws ws' z;
}
