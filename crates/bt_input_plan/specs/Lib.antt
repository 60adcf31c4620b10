pub mod Compiled
pub mod Kinds
pub mod Made
pub mod Reading
pub mod Scanners
pub mod Views
