pub mod Adding
pub mod CallsMade
pub mod MainCalled
pub mod Shapes
pub mod StartForm
pub mod WholeForm
