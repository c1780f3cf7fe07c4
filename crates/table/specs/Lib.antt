pub mod ItemCopies
pub mod Kinds
