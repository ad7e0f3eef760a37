pub mod ClassAnswers
