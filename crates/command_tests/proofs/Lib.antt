mod Empty
mod SoundTerms
