mod Steps
mod Rows
mod Moves
mod Closed
mod Agreement
mod Fitting
mod Closing
