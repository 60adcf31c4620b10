pub mod Calls
pub mod DeskView
pub mod Duties
pub mod Inside
pub mod Standing
pub mod Stands
