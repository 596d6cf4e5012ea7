pub mod HeldFloors
pub mod HeldMeetings
pub mod Marks
pub mod Meetings
pub mod Runs
pub mod Tests
