-- What every layer's definitions are made of. Knows nothing of Giotto.
pub mod Search
pub mod Claim
pub mod Rows
pub mod Verdict
pub mod Lists
pub mod Order
