-- The definitions, in the order to read them in. Edits and what they read and write:
pub mod Changes
pub mod Edit
-- histories, undo and redo, and dependents:
pub mod History
-- what a program keeps in place of replaying:
pub mod Log
pub mod Runs
-- the same over lists, where all computes:
pub mod Evaluation
-- several edits as one:
pub mod Together
-- and what holds of them all, which the functions of the module `laws` promise:
pub mod Laws
