pub mod Codes
mod ExamplesOfAssigned
mod ExamplesOfHeaders
mod ExamplesOfNames
mod ExamplesOfOrder
mod ExamplesOfPoints
mod ExamplesOfTypes
pub mod Kept
pub mod Least
pub mod Numbering
pub mod OnlyNames
pub mod PlainStatements
pub mod SetNumbers
pub mod SetReads
pub mod StartSets
pub mod Steps
pub mod Texts
pub mod TokenCounts
pub mod Wholes
