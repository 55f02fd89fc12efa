pub mod FewFacts
pub mod Tables
