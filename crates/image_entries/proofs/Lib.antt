mod Routines
mod LookedUp
