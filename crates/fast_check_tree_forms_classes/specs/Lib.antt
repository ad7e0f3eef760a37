-- Written by forms/write.py from forms/forms.txt.
pub mod Functions
pub mod Classes
pub mod Methods
pub mod Fields
