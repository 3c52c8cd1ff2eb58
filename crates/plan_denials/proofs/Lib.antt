mod First
pub mod Apart
