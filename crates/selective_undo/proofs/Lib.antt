pub mod Changes
pub mod AllOrNothing
pub mod Locality
pub mod Undo
pub mod Redo
pub mod Inverses
pub mod Invariants
pub mod Dependents
pub mod FindDependents
pub mod Log
pub mod LogLaws
pub mod Evaluation
pub mod Together
mod Examples
