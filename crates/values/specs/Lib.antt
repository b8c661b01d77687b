-- The definitions of equal values and grades, in reading order.

-- What document 01 says. From here, with the layout's `Read` and `Value`, a reader can work out every answer of `is_same_value` and
-- `grade_record`.
pub mod Value
pub mod Grade
-- Forms that follow the code, for the contracts inside the crate; theorems of proofs/ tie them to the layout's `Same`.
pub mod Alike
