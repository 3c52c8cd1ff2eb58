pub mod Ties
pub mod Exposed
pub mod Calls
pub mod WhoLines
pub mod Laws
pub mod HelpText
pub mod Owners
pub mod Answers
