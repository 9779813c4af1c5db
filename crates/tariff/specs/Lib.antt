pub mod Charges
pub mod Bounds
pub mod Checks
pub mod Cubic
pub mod Within
