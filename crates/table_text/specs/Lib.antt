pub mod Lists
pub mod Tables
pub mod Layout
pub mod Read
