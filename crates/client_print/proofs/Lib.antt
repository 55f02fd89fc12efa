pub mod Blocks
pub mod ItemPrints
pub mod Limits
pub mod NestingRules
pub mod SameText
pub mod StatementPrints
pub mod ValuePrints
pub mod Whole
