pub mod Origins
pub mod Cuts
pub mod Merging
pub mod Joining
pub mod Well
pub mod Demanded
pub mod Flat
