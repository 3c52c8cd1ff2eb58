pub mod Numbers
pub mod Off
pub mod Written
pub mod FlashWords
pub mod Tables
pub mod Effects
mod Copies
pub mod Placement
pub mod Appended
mod ResetList
mod OtherUnits
pub mod Encoded
pub mod PageCode
pub mod Fetched
mod FirstBlock
mod Ranges
mod Started
pub mod Checked
mod RegionForms
mod Sizes
pub mod ReadTables
pub mod SoundImages
pub mod Opened
pub mod Unlend
pub mod SvcNumber
pub mod HandlerRule
pub mod HandlerWords
pub mod LeaveWords
pub mod Leave
pub mod EnterSave
pub mod EnterFrame
pub mod EnterRounded
pub mod EnterSite
pub mod EnterTarget
pub mod Lend
