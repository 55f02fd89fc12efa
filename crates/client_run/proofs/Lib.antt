pub mod ByTrees
pub mod Calls
pub mod Fitted
pub mod Forms
pub mod Inside
pub mod Lengths
mod Lists
pub mod Lowering
pub mod Stacked
pub mod Straightness
pub mod There
pub mod Units
pub mod Whole
