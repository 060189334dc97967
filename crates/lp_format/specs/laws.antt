pub mod NamesOfLines
pub mod PointsOfLines
pub mod Laws
pub mod Meanings
pub mod MeaningsOfAnswers
