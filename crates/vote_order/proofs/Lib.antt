pub mod Occurrences
mod Ranks
