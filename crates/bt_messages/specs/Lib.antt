pub mod Messages
pub mod Steps
pub mod Singles
pub mod Cases
