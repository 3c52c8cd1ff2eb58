mod Numbers
mod Analysing
mod Counting
mod OneList
mod Wider
mod OneAnswer
