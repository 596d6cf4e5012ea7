mod EventBack
mod LabelBack
mod Laid
