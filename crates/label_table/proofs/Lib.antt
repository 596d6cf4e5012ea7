pub mod Equality
pub mod Keys
pub mod Numbering
pub mod Positions
pub mod Stored
pub mod TextNumbering
