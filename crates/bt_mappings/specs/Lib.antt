pub mod Checked
pub mod Interpolated
