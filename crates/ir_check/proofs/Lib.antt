mod Whole
mod Small
