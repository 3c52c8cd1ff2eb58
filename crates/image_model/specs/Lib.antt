pub mod FirstWords
pub mod LinkedTables
pub mod LinkedImage
pub mod Laws
