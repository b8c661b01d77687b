-- The definitions of previews.

-- What document 02 §3 says: all that the promises of the crate cite, and what a preview tells of the edit into any buffer.
pub mod Preview
