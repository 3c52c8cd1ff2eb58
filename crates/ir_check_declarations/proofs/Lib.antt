mod Mapped
mod StructSteps
