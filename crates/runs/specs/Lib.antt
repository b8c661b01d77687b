-- The definitions of runs, in reading order: what a call does and the plain edits and account beside it, with demand 2 of one call; then
-- runs of calls, with demand 3 of two lists of them, and the same of what is observed.
pub mod Call
pub mod Plain
pub mod Account
pub mod Demand2
pub mod Run
pub mod Demand
pub mod Seen
