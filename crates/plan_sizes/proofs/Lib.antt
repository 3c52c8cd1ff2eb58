mod Grown
mod Lends
mod Same
