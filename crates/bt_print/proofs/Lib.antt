pub mod StepLemmas
pub mod LeafLemmas
