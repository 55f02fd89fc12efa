pub mod Body
pub mod Clause
pub mod Executing
pub mod Full
pub mod Heap
pub use Rattle.easl_heap.specs.Body.{HasArguments, Making, Moment, Outcome, argument, argument_count, body, called, counted, ended, made, moment, outcome}
pub use Rattle.easl_heap.specs.Body.{returned, run, step, value}
pub use Rattle.easl_heap.specs.Clause.{first_failing, holds, requires_of}
pub use Rattle.easl_heap.specs.Executing.{Comes, Fits, Gives, Grows, HasRoom}
pub use Rattle.easl_heap.specs.Full.{AreOfClasses, FieldsLead, GivesClass, IsGiven, KeepsClasses, taken_by}
pub use Rattle.easl_heap.specs.Heap.{IsFull, IsFullObject, IsObjectOf, Object, fresh, get, object_at, reached, with_field, write}
