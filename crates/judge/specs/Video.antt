-- RULES 6.1: a video, as a table is judged by it, and the ways in which one is lent.
use Rattle.std.specs.Prelude.{ℕ, ◌*◌, Bool, true, false, ◌||◌, List, ℤ, pos, negsuc, length, get_or, nat_lt}
use Rattle.ticks.specs.Ticks.{largest_scale}
use Rattle.judge.specs.declared.Video.{Video}
use Rattle.judge.specs.declared.Video.TheVariants.{Nothing, Constant, Times}

-- the most starts
abbrev pub most_starts : ℕ
most_starts = 16777216

pub record Shown : Type 0 where
  -- there is a video
  pub given : Bool
  -- a number of it is over its limit: which, the way of lending says
  pub over : Bool
  pub frames : ℕ
  -- ticks a second, and in ticks: where frame k starts, where the video ends, its nominal frame duration
  pub scale : ℕ
  pub time : ℕ → ℤ
  pub end : ℤ
  pub nominal : ℤ

-- constant: frame k lies at k × denominator ticks of scale numerator, and the nominal duration is denominator
abbrev pub constant : ℕ → ℕ → ℕ → Shown
constant frames numerator denominator = record {
  given = true;
  over = nat_lt largest_scale numerator || nat_lt largest_scale denominator;
  frames = frames;
  scale = numerator;
  time = λ k. pos (k * denominator);
  end = pos (frames * denominator);
  nominal = pos denominator;
}

-- times: frame k lies at its start; index = length gives the end, and so do larger ones, which no answer rests on
abbrev pub timed : List ℤ → ℕ → ℤ → ℤ → Shown
timed starts scale end nominal = record {
  given = true;
  over = nat_lt largest_scale scale || nat_lt most_starts (length starts);
  frames = length starts;
  scale = scale;
  time = λ k. get_or starts k end;
  end = end;
  nominal = nominal;
}

-- no video, and no answer rests on its numbers
abbrev pub nothing : Shown
nothing = record {
  given = false;
  over = false;
  frames = 0;
  scale = 0;
  time = λ k. pos 0;
  end = pos 0;
  nominal = negsuc 0;
}

-- the video that is lent, its starts beside it
unfoldable pub shown_by : Video → List ℤ → Shown
shown_by Nothing starts = nothing
shown_by (Constant frames numerator denominator) starts = constant frames numerator denominator
shown_by (Times scale end nominal) starts = timed starts scale end nominal
