mod AsRules
mod FirstNamed
mod Misfits
mod Rows
