mod Tables
pub mod HexPairs
mod Numerals
mod Letters
mod Cutting
pub mod StreamWords
mod Runs
mod StreamLines
mod Written
mod LineByLine
