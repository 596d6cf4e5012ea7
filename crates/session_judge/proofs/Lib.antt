pub mod SessionEvents
mod SessionLists
mod Took
mod Answers
mod Judging
