pub mod KeyNumbers
pub mod Lines
