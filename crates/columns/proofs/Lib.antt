pub mod FieldFacts
pub mod FieldLaws
pub mod Fitting
pub mod Found
pub mod LineFacts
pub mod LineLaws
pub mod NumberFacts
pub mod NumberLaws
