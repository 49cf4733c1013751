pub mod EntryLaws
pub mod EditLaws
pub mod OffsetLaws
