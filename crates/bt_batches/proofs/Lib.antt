pub mod Lists
pub mod Gathering
pub mod UnionLemmas
pub mod Contents
