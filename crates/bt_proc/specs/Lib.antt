pub mod Procs
pub mod Groups
pub mod Singles
