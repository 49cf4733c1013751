pub mod Tables
pub mod Edits
pub mod Opening
pub mod SoundEdits
pub mod Walking
