-- The laws of previews.
pub mod PreviewCases
pub mod Foretold
