mod Growing
mod Spelling
mod Trailing
mod Conforming
mod Stepped
mod Returning
