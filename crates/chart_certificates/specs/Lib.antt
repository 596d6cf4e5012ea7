pub mod ChartCertificates
pub mod Logging
pub mod RunsTold
pub mod TermLaws
