-- Words say their reason: by their length and their first letter, which no two reasons share, it is found again.
use Rattle.std.specs.Prelude.{ℕ, ◌+◌, ◌*◌, ◌==◌, List, length, get_or, Option, Some, None, if◌then◌else◌}
use Rattle.std.proofs.Common.{◌≡◌, refl, sym, ap, ◌∙◌}
use Rattle.refusal.specs.declared.Reason.{Reason}
use Rattle.refusal.specs.declared.Reason.TheVariants as reason
use Rattle.refusal.specs.Words.{words}

abbrev mark : List ℕ → ℕ
mark text = length text * 256 + get_or text 0 0

unfoldable marked : ℕ → Option Reason
marked m =
    if m == 41825 then Some reason.Malformed
    else if m == 12148 then Some reason.OverLimit
    else if m == 5236 then Some reason.NoSources
    else if m == 13940 then Some reason.ZeroInSource
    else if m == 11636 then Some reason.BadDate
    else if m == 14452 then Some reason.BadClock
    else if m == 11105 then Some reason.NoClock
    else if m == 5492 then Some reason.NoSegments
    else if m == 10356 then Some reason.NoSuchSource
    else if m == 7796 then Some reason.NoFrames
    else if m == 19572 then Some reason.FramesWrap
    else if m == 19060 then Some reason.PastSource
    else if m == 10607 then Some reason.NegativeTime
    else if m == 15727 then Some reason.TooLate
    else if m == 15476 then Some reason.FrameGap
    else if m == 20596 then Some reason.TimeGap
    else if m == 25204 then Some reason.BadShift
    else if m == 21857 then Some reason.TooLarge
    else if m == 4462 then Some reason.NoVideo
    else if m == 12404 then Some reason.OtherFrameCount
    else if m == 15713 then Some reason.NoFrameTime
    else if m == 13428 then Some reason.OtherFrameTime
    else if m == 9844 then Some reason.EndNotNear
    else if m == 11375 then Some reason.TooLong
    else if m == 29293 then Some reason.Missing
    else if m == 6004 then Some reason.NoRoom
    else if m == 11361 then Some reason.Outside
    else if m == 4980 then Some reason.Falling
    else if m == 18292 then Some reason.NoRecordingTimes
    else if m == 19042 then Some reason.Broken
    else if m == 16756 then Some reason.NoTable
    else if m == 9076 then Some reason.SeveralTables
    else if m == 24417 then Some reason.BadSearch
    else if m == 23649 then Some reason.BadRange
    else if m == 19809 then Some reason.BadRows
    else if m == 20065 then Some reason.RowsDontFit
    else if m == 11892 then Some reason.JoinWraps
    else if m == 6497 then Some reason.PastMap
    else if m == 10612 then Some reason.TextTooLong
    else if m == 20084 then Some reason.NotJson
    else if m == 11873 then Some reason.RepeatedName
    else if m == 7028 then Some reason.OtherVersion
    else if m == 15201 then Some reason.BadMember
    else None

found : (a : Reason) → marked (mark (words a)) ≡ Some a
unfolding marked
found reason.Malformed = refl
found reason.OverLimit = refl
found reason.NoSources = refl
found reason.ZeroInSource = refl
found reason.BadDate = refl
found reason.BadClock = refl
found reason.NoClock = refl
found reason.NoSegments = refl
found reason.NoSuchSource = refl
found reason.NoFrames = refl
found reason.FramesWrap = refl
found reason.PastSource = refl
found reason.NegativeTime = refl
found reason.TooLate = refl
found reason.FrameGap = refl
found reason.TimeGap = refl
found reason.BadShift = refl
found reason.TooLarge = refl
found reason.NoVideo = refl
found reason.OtherFrameCount = refl
found reason.NoFrameTime = refl
found reason.OtherFrameTime = refl
found reason.EndNotNear = refl
found reason.TooLong = refl
found reason.Missing = refl
found reason.NoRoom = refl
found reason.Outside = refl
found reason.Falling = refl
found reason.NoRecordingTimes = refl
found reason.Broken = refl
found reason.NoTable = refl
found reason.SeveralTables = refl
found reason.BadSearch = refl
found reason.BadRange = refl
found reason.BadRows = refl
found reason.RowsDontFit = refl
found reason.JoinWraps = refl
found reason.PastMap = refl
found reason.TextTooLong = refl
found reason.NotJson = refl
found reason.RepeatedName = refl
found reason.OtherVersion = refl
found reason.BadMember = refl

pub own : (a b : Reason) → words a ≡ words b → a ≡ b
own a b same =
    let e : ◌≡◌ {A = Option Reason} (Some a) (Some b) = sym (found a) ∙ ap (λ text. marked (mark text)) same ∙ found b in cc
