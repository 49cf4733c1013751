use Rattle.std.proofs.Common.{ℕ, ◌≡◌, ◌+◌, ◌-◌, Ok, take, drop, sym, ap, ◌∙◌, rules, arith}
use Rattle.std.specs.Option.{ok_or}
use Rattle.refusal.specs.declared.Reason.TheVariants as reason
use Rattle.refusal.specs.Refusals.{refusal_at}
use Rattle.boxes.specs.Bytes.{udta, mtrm}
use Rattle.boxes.specs.Boxes.{first_of, boxes_of}
use Rattle.std.proofs.lemmas.Result.{err_from_is_err_and}
use Rattle.boxes.specs.Places.{found_place, child_in, only_of, all_of}
use Rattle.boxes.proofs.Within.{fits_in, movable, only-within, no_table}
use Rattle.boxes.proofs.mtrm.table_of.Goals as goal

pub moved-requires : goal.moved-requires
moved-requires c =
    let fits = fits_in _ _ _ c.find_child-udta.ensures.stays c.place.ensures c.ok_or.ensures.value c.in_ok-start.was in
    omega (arith, movable _ _ _ fits c.only_child.ensures c.in_ok-table.was (only-within _ _))

pub returns-in_err-table : goal.returns-in_err-table
returns-in_err-table c =
    let p = err_from_is_err_and c.from_residual-in_err-table.result c.from_residual-in_err-table.ensures.1 in
    let m = c.args.moov.now in
    let f = c.in_ok-start.field-0 in
    let u : c.code.result ≡ udta = search rules in
    let t : c.code-2.result ≡ mtrm = search rules in
    let n : f.start + f.len - f.start ≡ f.len = omega arith in
    let found : ok_or (child_in udta m) (refusal_at reason.NoTable 0) ≡ Ok f =
    sym (c.ok_or.ensures.value ∙ (λ i. ok_or ((c.place.ensures ∙ ap found_place (c.find_child-udta.ensures.first ∙ ap (λ (k : ℕ). first_of k (boxes_of m)) u)) i) (c.at.ensures i)))
    ∙ c.in_ok-start.was in
    rw (p.1, p.2)
    (no_table m f _ found (sym (c.in_err-table.ensures ∙ (λ i. only_of (all_of (t i) (boxes_of (take (n i) (drop f.start m))))))))
