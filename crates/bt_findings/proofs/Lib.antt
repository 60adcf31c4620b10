pub mod FoundLayers
