pub mod Lent
pub mod ItemCopies
pub mod Numbers
