pub mod Inside
pub mod Made
pub mod Sources
