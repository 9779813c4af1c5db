pub mod Kinds
pub mod Orders
pub mod Stops
pub mod Energies
pub mod Peaks
