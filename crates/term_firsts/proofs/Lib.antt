mod Waiting
mod Entering
