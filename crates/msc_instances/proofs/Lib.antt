pub mod Tables
pub mod LeastOfBoth
pub mod NoteSteps
pub mod Meeting
pub mod PartSteps
