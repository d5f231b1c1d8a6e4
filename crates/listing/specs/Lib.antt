pub mod Digits
pub mod Fields
pub mod Lines
pub mod Listings
pub mod Pairs
pub mod Sums
pub mod Texts
pub mod Written
