pub mod Civil
pub mod Format
pub mod Instants
