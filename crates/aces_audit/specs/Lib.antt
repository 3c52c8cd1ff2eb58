pub mod AnswerLine
pub mod Guarded
pub mod Answers
pub mod Asking
pub mod SlotLines
pub mod TableLines
pub mod Laws
