pub mod EachLeaf
pub mod LeafAt
pub mod Pursued
pub mod Released
