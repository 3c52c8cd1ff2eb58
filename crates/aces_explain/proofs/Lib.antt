mod BoardLines
mod Places
mod BoardRows
mod Lines
pub mod Answering
pub mod Explainable
pub mod PlanAnswering
mod FaultRows
mod OneText
mod PlanRows
