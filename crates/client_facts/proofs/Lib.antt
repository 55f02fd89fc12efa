pub mod Cmp
mod ExamplesOfCalls
mod ExamplesOfCounts
mod ExamplesOfFlows
pub mod Inserted
pub mod NameTests
pub mod SetLengths
pub mod ListedNames
pub mod Counted
