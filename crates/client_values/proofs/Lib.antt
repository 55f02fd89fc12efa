pub mod Finding
pub mod FirstNamed
pub mod NamesFound
pub mod Taking
