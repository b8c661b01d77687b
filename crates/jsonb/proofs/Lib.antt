-- The laws of the answers for C.
pub mod ForC
