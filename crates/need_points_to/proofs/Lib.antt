mod Demanded
mod Back
mod Bridge
mod Edges
mod Summing
mod Least
mod Bound
mod Results
