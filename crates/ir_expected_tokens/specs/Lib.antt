pub mod Grammar
pub mod Expected
pub mod Stuck
pub mod SyntaxLines
pub mod Uncounted
pub mod Laws
