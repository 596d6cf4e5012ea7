pub mod LabelLines
pub mod ReadingBack
