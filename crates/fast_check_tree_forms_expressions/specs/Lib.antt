-- Written by forms/write.py from forms/forms.txt.
pub mod Expressions
pub mod Operators
pub mod Calls
pub mod Templates
pub mod Jsx
pub mod Assertions
pub mod Properties
pub mod Patterns
