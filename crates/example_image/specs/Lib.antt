pub mod LentTables
pub mod LoopTables
