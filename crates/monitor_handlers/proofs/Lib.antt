mod Mode
pub mod Encodable
mod Blocks
mod Frames
mod Entry
mod Returned
mod Wide
mod Lent
mod Scan
mod Emulated
mod FaultList
pub mod Encodings
mod FaultCode
mod FaultLaw
pub mod SvcEncoded
mod SvcCode
mod Targets
mod Enter
mod Memories
mod Calling
mod Crossing
mod Numbers
mod Bus
mod Law
