mod Digits
mod Spelled
mod Widths
mod Canonical
