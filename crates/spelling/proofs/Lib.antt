mod Respelled
mod InForm
mod Before
mod ButSpelling
mod Spellings
mod Votes
pub mod StandardForm
mod Examples
