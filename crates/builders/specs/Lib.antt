-- The definitions of the builders, in reading order.

-- What document 01 says: all that the promises of `append` and `build_object` cite.
pub mod Order
pub mod Build
-- The one sound tree of a value, which no promise cites: theorems about equal values go by it.
pub mod Canon
-- Forms that follow the code, which the helpers for the crates above promise; theorems of proofs/ tie each to the definitions above.
pub mod Room
pub mod Join
pub mod Names
pub mod Search
pub mod Searched
pub mod Sorted
pub mod Weave
