-- The definitions of the flight profile, in reading order.

-- What document 02 §5 says: all that the promises of the check and of the three edits cite.
pub mod Flight
-- What is said of them beside the plain edits, which no promise cites: theorems of proofs/.
pub mod Claims
-- Forms that follow the code, inside the crate.
pub mod Profile
