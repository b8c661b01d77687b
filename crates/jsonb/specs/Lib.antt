-- The answers for C.
pub mod C
