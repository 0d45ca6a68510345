pub mod Cases
pub mod Marks
pub mod Reasons
pub mod Table
pub mod TableLaws
pub mod Text
pub mod TextLaws
