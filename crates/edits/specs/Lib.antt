-- The definitions of the edits, in reading order.

-- What document 01 says: all that the promises of the four edits cite.
pub mod Keypath
pub mod Find
pub mod Delete
pub mod Path
pub mod Concat
pub mod Strip
-- Forms that follow the code, which the helpers for the crates above promise; theorems of proofs/ tie each to the definitions above.
pub mod Steps
pub mod Spot
pub mod Held
pub mod Members
pub mod Runs
pub mod Cut
pub mod Merge
-- Forms that follow the code, inside the crate.
pub mod Remains
pub mod Way
pub mod Manner
pub mod Stripping
pub mod Joining
