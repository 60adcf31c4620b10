pub mod Boundaries
pub mod Dropping
pub mod Firsts
pub mod Nested
pub mod Opening
pub mod Places
pub mod Sorted
pub mod Sorting
