mod Listed
mod Begun
