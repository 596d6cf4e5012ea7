pub mod FirstLabels
