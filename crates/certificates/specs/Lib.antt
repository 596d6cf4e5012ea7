pub mod Certificates
pub mod CertificateLaws
pub mod Floors
pub mod CheckLaws
pub mod Lines
pub mod Examples
