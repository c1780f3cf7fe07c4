mod Growing
mod Searching
mod Answers
mod Picking
mod Weighing
mod Finding
