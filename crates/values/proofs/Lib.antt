-- The laws of equal values and grades, from the leaf up.
pub mod Likes
pub mod Alikes
pub mod Besides
pub mod Turns
pub mod Grades
pub mod GradeCases
