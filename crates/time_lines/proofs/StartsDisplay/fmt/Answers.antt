use Rattle.std.proofs.Common.{◌≡◌, refl, sym, ap, ◌∙◌, rules, arith, [], ◌++◌, ◌+◌, ◌<◌, take, length, ℤ, pos, get_or}
use Rattle.std.proofs.Output.{has_written_append, has_written_of_eq}
use Rattle.std.proofs.lemmas.List.{flat_map_more, take_more}
use Rattle.time_lines.specs.Lines.{start_line, start_lines}
use Rattle.time_lines.proofs.StartsDisplay.fmt.Goals as goal

pub loop-start-preserved : goal.loop-start-preserved
loop-start-preserved g c p =
    let i = c.loop-start.start-index in
    let xs = c.args.self.now.starts.now in
    let there : i < length xs = search rules in
    let eq : start_lines (take i xs) ++ start_line (get_or xs i (pos 0)) ≡ start_lines (take (i + 1) xs) =
    flat_map_more start_line [] (take i xs) (get_or xs i (pos 0)) ∙ ap start_lines (sym (take_more xs i (pos 0) there)) in
    has_written_of_eq _ _ _ _ _ eq (has_written_append _ _ _ _ _ _ (c.loop-start.invariant p) (search rules))
