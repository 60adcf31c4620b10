pub mod Layers
pub mod MapLayers
pub mod ErasedLayers
pub mod LayerErased
