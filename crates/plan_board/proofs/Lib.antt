mod Refusals
mod Rules
mod Words
mod Denials
mod OneAnswer
