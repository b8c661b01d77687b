-- The definitions of the layout, in reading order.

-- What document 01 says, and document 02 §2: all that the promises of the functions for users cite. From here a reader can work out
-- every answer.
pub mod Refusal
pub mod Bytes
pub mod Answer
pub mod Entry
pub mod Tree
pub mod Encode
pub mod Text
pub mod Number
pub mod Decimal
pub mod Read
pub mod Limits
pub mod Sound
pub mod Order
pub mod Every
pub mod Value
pub mod Check
pub mod Ended
pub mod Pipeline
pub mod Walk
-- The code points of a text in the RFC's own words, which no promise cites: a theorem says that they are those of `Text`.
pub mod CodePoints
-- Forms that follow the code, which the helpers for the crates above promise; theorems of proofs/ tie each to the definitions above.
pub mod Patch
pub mod Room
pub mod Place
-- Document 02 §4: the place that the table gives an item, by which the forms behind it go; theorems say that every carried place is it.
pub mod Table
-- Forms again.
pub mod Parts
pub mod Left
pub mod EveryAt
-- Forms that follow the code, inside the crate.
pub mod Pass
pub mod Behind
