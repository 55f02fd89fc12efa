pub mod InTextOrder
pub mod Walking
