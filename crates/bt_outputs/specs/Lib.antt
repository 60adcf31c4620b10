pub mod Asked
pub mod Bytes
pub mod Clean
pub mod Numbers
