-- Written by forms/write.py from forms/forms.txt.
pub mod Statements
pub mod Loops
pub mod Declarations
pub mod TsDeclarations
