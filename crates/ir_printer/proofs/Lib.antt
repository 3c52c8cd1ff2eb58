mod Separated
mod Rows
mod Canonical
