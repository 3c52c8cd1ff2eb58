mod Adding
mod Gathering
mod Reading
