pub mod Admitting
pub mod Duties
pub mod Standings
