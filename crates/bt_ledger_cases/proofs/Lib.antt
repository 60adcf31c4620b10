mod Fitting
mod Sizes
