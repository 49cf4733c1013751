-- What each reason is, in words for people: RULES 2.4. And a refusal in words.
use Rattle.std.specs.Prelude.{ℕ, List, ◌++◌, codes, decimal}
use Rattle.refusal.specs.declared.Reason.{Reason}
use Rattle.refusal.specs.declared.Reason.TheVariants as reason
use Rattle.refusal.specs.declared.Refusal.{Refusal}
use Rattle.refusal.specs.Reasons.{number}

abbrev pub words : Reason → List ℕ
words reason.Malformed = codes "a slice length is no multiple of its record, the two segment slices disagree, a flag or kind is outside its set, or a present creation time's range leaves the text"
words reason.OverLimit = codes "there are over 256 sources or over 512 segments"
words reason.NoSources = codes "there are no sources"
words reason.ZeroInSource = codes "the source has 0 frames, or a 0 in its frames a second"
words reason.BadDate = codes "the source's creation time fails the UTC rule"
words reason.BadClock = codes "the source's clock has a 0 in its rate, or the modulus 0"
words reason.NoClock = codes "a log is named, and the source has no clock"
words reason.NoSegments = codes "there are no segments"
words reason.NoSuchSource = codes "the segment names no source of the table"
words reason.NoFrames = codes "the segment's frame count is 0"
words reason.FramesWrap = codes "the segment's out first or source first plus its frame count passes 2^64 - 1"
words reason.PastSource = codes "the segment's source first plus its frame count passes its source's frames"
words reason.NegativeTime = codes "one of the segment's six times is below 0"
words reason.TooLate = codes "one of the segment's starts plus its duration passes 2^63 - 1"
words reason.FrameGap = codes "the segment's out first isn't where the frames before it end"
words reason.TimeGap = codes "the segment's out start or out capture start isn't where the times before it end"
words reason.BadShift = codes "the segment has a shift and no clock, a clock and no shift, or a shift outside its clock's modulus"
words reason.TooLarge = codes "a rate number or timescale is over 4,294,967,295, or there are over 16,777,216 starts"
words reason.NoVideo = codes "no video is given"
words reason.OtherFrameCount = codes "the table's frames aren't as many as the video's"
words reason.NoFrameTime = codes "a time can't be had: its scale is 0, or it is outside 64 bits"
words reason.OtherFrameTime = codes "the segment's out start isn't its first frame's time"
words reason.EndNotNear = codes "the table's end isn't near the video's"
words reason.TooLong = codes "over 16,777,216 bytes or timestamps are lent"
words reason.Missing = codes "missing: the boxes end without the one that is looked for, no size is whole and fits, or no frame times can be had"
words reason.NoRoom = codes "too little room is lent"
words reason.Outside = codes "a start, a span or an end is outside 64 bits"
words reason.Falling = codes "the timestamps fall"
words reason.NoRecordingTimes = codes "the recording has no frame times: no frames, or a nominal interval of 0"
words reason.Broken = codes "broken: before what is looked for stands a broken box header, at the index"
words reason.NoTable = codes "the file has no MTRM box: no moov, no udta in it, or none in that"
words reason.SeveralTables = codes "the file has more than one MTRM box"
words reason.BadSearch = codes "a search range lies outside the bytes, or starts past its end, or an offset lies past the bytes"
words reason.BadRange = codes "a cut's range has no frames, or ends past the map; of many cuts also a range without its end"
words reason.BadRows = codes "a map's rows aren't well formed, slice lengths disagree, or there are no rows"
words reason.RowsDontFit = codes "a map has, or would have, over 1,024 rows, or too little room is lent for rows"
words reason.JoinWraps = codes "the frames of both maps together pass 2^64 - 1"
words reason.PastMap = codes "a frame lies past the map"
words reason.TextTooLong = codes "the table's text has over 1,048,576 bytes"
words reason.NotJson = codes "the table's text isn't JSON, or over 32 lists and objects stand one in another"
words reason.RepeatedName = codes "an object in the table's text has a name twice"
words reason.OtherVersion = codes "the table's version isn't 1"
words reason.BadMember = codes "a member of the table's text is missing or has another type"

-- a refusal's number, its index and its reason's words
abbrev pub refusal_text : Refusal → List ℕ
refusal_text refusal =
    codes "refused " ++ decimal (number refusal.reason) ++ codes " at " ++ decimal refusal.index ++ codes ": " ++ words refusal.reason
