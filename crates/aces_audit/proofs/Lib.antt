pub mod Answering
mod Guarding
mod Beyond
mod SlotsTold
