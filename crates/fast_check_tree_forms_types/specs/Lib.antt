-- Written by forms/write.py from forms/forms.txt.
pub mod Types
pub mod TypeOperators
pub mod Signatures
pub mod TypeParams
