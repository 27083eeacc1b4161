-- Numbers 2 to 11 and 24, for every call that is lent the tables and more.
pub mod Tables
