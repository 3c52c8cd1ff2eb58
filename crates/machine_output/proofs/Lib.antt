mod Callbacks
mod Windows
mod Ended
mod OneStep
mod Going
mod Pauses
