mod FinalGraphs
pub mod PlannedPremises
pub mod FlashBack
pub mod FlashParts
mod Passing
pub mod Facts
mod Header
mod OpenBytes
pub mod Ranges
mod AreaSize
pub mod ReadBack
pub mod AreaEnd
mod CodeRegions
mod TablesPass
mod Bits
mod Kept
mod Reach
mod Compartments
mod Covers
pub mod CoverParts
pub mod Bearing
mod Loans
pub mod PlannedSlots
mod WindowsOpen
pub mod Windows
mod Memory
mod CodeBlocks
pub mod Lists
mod Products
mod Joins
mod FirstRegions
mod FinalRegions
mod Objects
pub mod GlobalPlaces
mod GlobalAreas
pub mod DataSlots
mod Opened
mod GlobalsPlaced
mod KeptItems
mod Forms
mod FlashWords
mod WindowRules
mod Rules
mod Masks
mod Readers
pub mod CoverSlots
mod CoverWindows
mod DataSlotForms
mod DataRanges
mod SlotContents
mod RegionsPassed
mod ObjectSizes
mod Called
mod LastTarget
mod Entries
mod SiteRecords
mod LendsPass
mod SitesPass
mod Targets
mod ByteLists
mod PageBytes
mod PageStands
mod MovedWords
mod MainWords
mod EntryPlaces
mod MainMoved
mod StubPlace
mod TemplateCode
mod Encodable
mod FunctionItems
mod FrameSizes
mod PlannedPlaces
mod Members
mod EvenLabels
mod CompartmentCode
mod CodeStanding
mod Alignments
mod NoUnwritten
mod GlobalsLow
mod Reading
mod ReadTables
mod WordLists
mod RegionWords
mod SiteNeeds
mod CodeEnds
mod CompartmentWords
mod SiteWords
mod InitWords
mod AreaWords
mod InitChecks
mod FirstValues
mod CellWrites
mod FilledBlocks
mod WordsBack
mod InitialFlash
mod GlobalsBegin
pub mod OneSlot
mod NeededMasks
mod NeededObjects
mod Policy
mod Counts
mod Checked
mod Stacks
mod Linking
mod Composed
mod Plans
