mod Applied
mod InTable
mod LeastNeeds
mod Promises
mod Source
