pub mod Edges
mod Walking
