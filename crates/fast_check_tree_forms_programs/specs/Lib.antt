-- Written by forms/write.py from forms/forms.txt.
pub mod Names
pub mod Literals
pub mod Programs
pub mod ModuleDecls
