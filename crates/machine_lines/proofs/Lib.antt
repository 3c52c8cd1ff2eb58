mod Digits
mod Joined
