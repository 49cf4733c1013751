-- The examples of RULES 5.2 and 6.5, and some at the limits. They are the contract of `worked_examples_hold`.
use Rattle.std.specs.Prelude.{Bool, true, false, List, [], ◌∷◌, ℕ, ◌*◌, pos, neg_ℤ, ℤ, Option, Some, None, Result, Ok}
use Rattle.examples.specs.Worked.{Worked, is, AllRight}
use Rattle.refusal.specs.declared.Reason.TheVariants as reason
use Rattle.refusal.specs.declared.Refusal.{Refusal}
use Rattle.refusal.specs.Refusals.{refused}
use Rattle.ticks.specs.Ticks.{ticks_to_us, ends_near, media_ticks}

abbrev pub times : List (Worked (Result ℤ Refusal))
times =
    is (ticks_to_us (pos 1001) 30000) (Ok (pos 33367))
    ∷ is (ticks_to_us (pos 1) 2000000) (Ok (pos 1))
    ∷ is (ticks_to_us (neg_ℤ (pos 1)) 2000000) (Ok (neg_ℤ (pos 1)))
    ∷ is (ticks_to_us (pos 1) 4000000) (Ok (pos 0))
    ∷ is (ticks_to_us (pos 1) 0) (refused reason.NoFrameTime 0)
    ∷ is (ticks_to_us (pos 1) 4294967295) (Ok (pos 0))
    ∷ is (ticks_to_us (pos 1) 4294967296) (refused reason.TooLarge 0)
    ∷ is (ticks_to_us (pos 9223372036854775807) 1) (refused reason.NoFrameTime 0)
    ∷ is (ticks_to_us (pos 9223372036854775807) 4294967295) (Ok (pos 2147483648500000))
    ∷ is (ticks_to_us (pos 9223372036854) 1) (Ok (pos 9223372036854000000))
    ∷ is (ticks_to_us (pos 9223372036855) 1) (refused reason.NoFrameTime 0)
    ∷ is (ticks_to_us (neg_ℤ (pos 9223372036854775808)) 1000000) (Ok (neg_ℤ (pos 9223372036854775808)))
    ∷ []

-- 30 frames at 30000/1001; the same below 0; on both sides of 0; a nominal below 0
abbrev pub ends : List (Worked Bool)
ends =
    is (ends_near (pos 967633) (pos (30 * 1001)) (pos 1001) 30000) true
    ∷ is (ends_near (pos 1034367) (pos (30 * 1001)) (pos 1001) 30000) true
    ∷ is (ends_near (pos 967632) (pos (30 * 1001)) (pos 1001) 30000) false
    ∷ is (ends_near (pos 1034368) (pos (30 * 1001)) (pos 1001) 30000) false
    ∷ is (ends_near (neg_ℤ (pos 967633)) (neg_ℤ (pos 30030)) (pos 1001) 30000) true
    ∷ is (ends_near (neg_ℤ (pos 967632)) (neg_ℤ (pos 30030)) (pos 1001) 30000) false
    ∷ is (ends_near (neg_ℤ (pos 33)) (pos 1000) (pos 1001) 30000) true
    ∷ is (ends_near (neg_ℤ (pos 34)) (pos 1000) (pos 1001) 30000) false
    ∷ is (ends_near (pos 0) (pos 1) (neg_ℤ (pos 1)) 4000000) true
    ∷ is (ends_near (pos 0) (pos 2) (neg_ℤ (pos 1)) 4000000) false
    ∷ is (ends_near (pos 0) (pos 0) (neg_ℤ (pos 1)) 1999999) false
    ∷ []

abbrev pub edits : List (Worked (Option ℕ))
edits =
    is (media_ticks 1000 30000 600) (Some 50000)
    ∷ is (media_ticks 1 1 2) (Some 1)
    ∷ is (media_ticks 1 1 3) (Some 0)
    ∷ is (media_ticks 9223372036854775807 1 1) (Some 9223372036854775807)
    ∷ is (media_ticks 9223372036854775808 1 1) None
    ∷ []

abbrev pub WorkedExamples : Type 0
WorkedExamples = AllRight times × AllRight ends × AllRight edits
