pub mod Places
pub mod OtherEvents
pub mod PlacedShapes
pub mod Padding
pub mod Unbegun
pub mod Showing
pub mod CertificateLaws
mod Determined
mod Meeting
mod Floors
mod CheckLaws
mod Lines
mod Examples
