mod Judging
mod Keeping
mod Lawful
