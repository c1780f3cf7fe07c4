pub mod Lent
pub mod Book
pub mod Clipped
pub mod Pieces
pub mod Printing
pub mod Claims
pub mod Examples
