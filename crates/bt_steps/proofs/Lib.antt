pub mod Below
pub mod BookLaws
pub mod HoldLaws
pub mod Outcomes
pub mod PopLaws
pub mod Steps
pub mod WaitLaws
