-- The laws of what specs/ defines: how tests meet claims, what a search finds, what lists and assignments hold, which number is the first.
pub mod Bools
pub mod Conditions
pub mod Search
pub mod Rows
pub mod Lists
pub mod Counting
pub mod Summing
pub mod Filled
pub mod Members
pub mod Puts
pub mod Due
pub mod Verdict
pub mod Placing
pub mod Order
