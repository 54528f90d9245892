pub mod Refusals
pub mod Kept
pub mod Laws
pub mod Shown
