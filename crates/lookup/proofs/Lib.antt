pub mod Searchable
pub mod Last
pub mod Found
