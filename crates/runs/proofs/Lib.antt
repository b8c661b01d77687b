-- The laws of runs.
pub mod SameNames
pub mod Named
pub mod Onces
pub mod Alikes
pub mod Looks
pub mod Removes
pub mod Overlaid
pub mod Cleaned
pub mod Built
pub mod Yields
pub mod Demands
pub mod Histories
pub mod Samples
pub mod RunCases
pub mod YieldCases
