mod Fields
mod LineEnds
mod Rows
mod Reading
