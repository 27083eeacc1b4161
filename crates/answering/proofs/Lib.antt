-- What is printed, page after page, is the answer.
pub mod Larger
pub mod Shipped
pub mod ByLength
pub mod Handing
