pub mod Answers
pub mod Command
pub mod Outcome
pub mod Refusals
pub mod Table
pub mod Work
