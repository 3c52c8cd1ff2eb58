mod Putting
mod Calling
mod Sizing
mod Preparing
mod Entering
mod Blocks
mod Whole
