mod Fits
mod Paged
