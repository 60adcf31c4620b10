pub mod Along
pub mod Building
pub mod Piecing
pub mod Refusing
pub mod Whole
