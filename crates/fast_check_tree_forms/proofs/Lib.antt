-- Written by forms/write.py from forms/forms.txt.
pub mod Within
