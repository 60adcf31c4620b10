pub mod Carrying
pub mod Closing
pub mod Lists
pub mod Ordering
pub mod Reading
pub mod Sinks
pub mod Trees
pub mod Verdicts
