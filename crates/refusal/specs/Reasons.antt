-- The number of each reason, as a C caller is told it: RULES 2.4. Words.antt says in words what each is.
use Rattle.std.specs.Prelude.{ℕ}
use Rattle.refusal.specs.declared.Reason.{Reason}
use Rattle.refusal.specs.declared.Reason.TheVariants as reason

abbrev pub number : Reason → ℕ
number reason.Malformed = 1
number reason.OverLimit = 2
number reason.NoSources = 3
number reason.ZeroInSource = 4
number reason.BadDate = 5
number reason.BadClock = 6
number reason.NoClock = 7
number reason.NoSegments = 8
number reason.NoSuchSource = 9
number reason.NoFrames = 10
number reason.FramesWrap = 11
number reason.PastSource = 12
number reason.NegativeTime = 13
number reason.TooLate = 14
number reason.FrameGap = 15
number reason.TimeGap = 16
number reason.BadShift = 17
number reason.TooLarge = 20
number reason.NoVideo = 21
number reason.OtherFrameCount = 22
number reason.NoFrameTime = 23
number reason.OtherFrameTime = 24
number reason.EndNotNear = 25
number reason.TooLong = 30
number reason.Missing = 31
number reason.NoRoom = 32
number reason.Outside = 33
number reason.Falling = 34
number reason.NoRecordingTimes = 35
number reason.Broken = 36
number reason.NoTable = 40
number reason.SeveralTables = 41
number reason.BadSearch = 42
number reason.BadRange = 50
number reason.BadRows = 51
number reason.RowsDontFit = 52
number reason.JoinWraps = 53
number reason.PastMap = 54
number reason.TextTooLong = 60
number reason.NotJson = 61
number reason.RepeatedName = 62
number reason.OtherVersion = 63
number reason.BadMember = 64
