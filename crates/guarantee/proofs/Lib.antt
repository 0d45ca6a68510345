pub mod CasesGuaranteed
pub mod EachCallKeeps
pub mod FloatSpace
pub mod Theorem
