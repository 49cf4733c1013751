-- Two short tables' texts as they are read, and a short text for each refusal of a text: the contract of
-- `worked_examples_hold`.
use Rattle.std.specs.Prelude.{ℕ, Bool, true, false, List, [], ◌∷◌, ◌++◌, codes, ℤ, pos, neg_ℤ, Result, Ok, length, ◌≡◌}
use Rattle.examples.specs.Worked.{Worked, is, AllRight}
use Rattle.refusal.specs.declared.Reason.TheVariants as reason
use Rattle.refusal.specs.declared.Refusal.{Refusal}
use Rattle.refusal.specs.Refusals.{refused}
use Rattle.table_text.specs.declared.reader.Room.{Room}
use Rattle.table_meaning.specs.Answer.{Written, reading}
use Rattle.table_meaning.specs.Names.{naming, names_left}

-- a table of one source of three frames, whose last two it shows, by what differs: the source's last members, the
-- segment's shift, and the table's last members
abbrev pub text_with : List ℕ → List ℕ → List ℕ → List ℕ
text_with source shift more =
    codes "{\"version\":1,\"sources\":[{\"name\":\"a\",\"size\":9,\"frames\":3,\"fps\":[2,1]," ++ source ++ codes "}],"
    ++ codes "\"segments\":[{\"source\":0,\"src_first_frame\":1,\"frame_count\":2,\"out_first_frame\":0,"
    ++ codes "\"src_start_us\":500000,\"out_start_us\":0,\"duration_us\":1000000,\"src_capture_start_us\":500000,"
    ++ codes "\"out_capture_start_us\":0,\"capture_duration_us\":1000000,\"requested\":null,\"start\":\"\",\"entry\":\"\","
    ++ codes "\"end\":\"\",\"clock_shift\":" ++ shift ++ codes "}]" ++ more ++ codes "}"

-- and what is written
abbrev pub read_with : Bool → List ℕ → ℕ → ℤ → List ℕ → Written
read_with log rest flag shift dates = record {
  read = record { frames = 2; sources = 1; segments = 1; dates = length dates; log = log };
  sources = 3 ∷ 2 ∷ 1 ∷ rest;
  words = 0 ∷ 1 ∷ 2 ∷ 0 ∷ flag ∷ [];
  stamps = pos 500000 ∷ pos 0 ∷ pos 1000000 ∷ pos 500000 ∷ pos 0 ∷ pos 1000000 ∷ shift ∷ [];
  dates = dates;
}

-- with a creation time and an IMU's origin
abbrev pub dated : List ℕ
dated = text_with (codes "\"creation_time\":\"2000-01-01T00:00:00Z\",\"clock\":null,\"zcam_imu_origin_us\":7") (codes "null") []

abbrev pub dated_read : Written
dated_read =
    read_with false (1 ∷ 0 ∷ 20 ∷ 0 ∷ 0 ∷ 0 ∷ 0 ∷ 9 ∷ 1 ∷ 7 ∷ []) 0 (pos 0) (codes "2000-01-01T00:00:00Z")

-- with a clock, a telemetry log, and an IMU's origin that is none
abbrev pub clocked : List ℕ
clocked =
    text_with
    (codes "\"creation_time\":null,\"clock\":{\"name\":\"\",\"rate\":[8,1],\"modulus\":null},\"zcam_imu_origin_us\":-7")
    (codes "-5") (codes ",\"telemetry_log\":{\"name\":null,\"kind\":\"\",\"size\":0,\"crc32\":0}")

abbrev pub clocked_read : Written
clocked_read = read_with true (0 ∷ 0 ∷ 0 ∷ 1 ∷ 8 ∷ 1 ∷ 0 ∷ 9 ∷ 0 ∷ 0 ∷ []) 1 (neg_ℤ (pos 5)) []

-- room for it, with so many words for sources, and so many of working room
abbrev pub room_with : ℕ → ℕ → Room
room_with sources work = record { sources = sources; words = 5; stamps = 7; dates = 20; work = work }

abbrev pub room : Room
room = room_with 13 3840

abbrev pub of : List ℕ → Result Written Refusal
of text = reading text room

abbrev pub readings : List (Worked (Result Written Refusal))
readings =
    is (of dated) (Ok dated_read)
    ∷ is (of clocked) (Ok clocked_read)
    ∷ is (of (codes "{\"version\":1,\"sources\":[],\"segments\":[]}")) (refused reason.NoSources 0)
    ∷ is (of (codes "{\"version\":1,\"sources\":[],\"segments\":[1]}")) (refused reason.BadMember 0)
    ∷ is (of []) (refused reason.NotJson 0)
    ∷ is (of (codes "{\"a\":1,\"a\":1}")) (refused reason.RepeatedName 0)
    ∷ is (of (codes "1")) (refused reason.OtherVersion 0)
    ∷ is (of (codes "{\"version\":1}")) (refused reason.BadMember 0)
    ∷ is (reading dated (room_with 12 3840)) (refused reason.NoRoom 0)
    ∷ is (reading [] (room_with 13 3839)) (refused reason.NoRoom 1)
    ∷ []

-- the places of its one name, the rest of what is lent as it was
abbrev pub places : List (Worked (List ℕ))
places =
    is (names_left dated (naming dated 3 3840) (1 ∷ 2 ∷ 3 ∷ [])) (33 ∷ 1 ∷ 3 ∷ [])
    ∷ is (names_left dated (naming dated 1 3840) (1 ∷ [])) (1 ∷ [])
    ∷ []

-- a byte more than a text may have
abbrev pub TooLong : Type 0
TooLong = (text : List ℕ) → length text ≡ 1048577 → of text ≡ refused reason.TextTooLong 0

abbrev pub WorkedExamples : Type 0
WorkedExamples = AllRight readings × AllRight places
