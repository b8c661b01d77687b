-- The laws of the console.
pub mod Numbers
pub mod Outlines
pub mod Walks
