pub mod Calls
pub mod DeskView
pub mod Finished
pub mod History
pub mod Inside
pub mod Settles
pub mod Stands
