-- What a call that is lent the tables and more asks of them.
pub mod Asked
