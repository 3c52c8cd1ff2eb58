mod Small
mod Functions
mod SameScope
