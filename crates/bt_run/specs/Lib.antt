pub mod Form
pub mod Inside
pub mod Plan
pub mod Promise
pub mod Report
