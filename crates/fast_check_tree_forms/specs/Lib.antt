-- Written by forms/write.py from forms/forms.txt.
pub mod NameChoices
pub mod ExpressionChoices
pub mod PatternChoices
pub mod ClassChoices
pub mod TypeChoices
pub mod StatementChoices
pub mod ProgramChoices
