pub mod Slots
pub mod Names
pub mod Rules
pub mod Picks
pub mod Triplets
pub mod Sides
pub mod PrefixMap
pub mod Shown
