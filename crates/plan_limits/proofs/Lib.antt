mod Limits
mod Wide
