pub mod Notes
pub mod NoteViews
pub mod Instances
pub mod Parts
pub mod PartViews
pub mod Meetings
pub mod NameFaults
