-- Text: decimal numbers, how they are read a byte at a time, the printed listing, its lines and pages, how it is read back, what
-- the shipped program reads and prints.
pub mod Decimal
pub mod Part
pub mod Digits
pub mod Listing
pub mod Line
pub mod Said
pub mod Page
pub mod Input
pub mod Shipped
pub mod ReadBack
