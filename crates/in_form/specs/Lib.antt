pub mod InForm
