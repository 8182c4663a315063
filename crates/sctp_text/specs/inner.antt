pub mod Gathering
pub mod StreamLaws
pub mod StdAnswers
