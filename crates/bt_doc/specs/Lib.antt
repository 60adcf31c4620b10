pub mod Doc
pub mod Place
pub mod Built
