mod Blocks
mod SlotLists
mod Cells
