pub mod FlashLaws
pub mod GlobalLaws
pub mod RamLaws
pub mod RamPlaces
pub mod StackLowest
