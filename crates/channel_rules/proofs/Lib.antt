pub mod Forming
mod Growing
mod OneRule
pub mod Pairs
pub mod Picks
mod Splitting
