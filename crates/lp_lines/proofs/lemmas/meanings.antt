pub mod AnswerMeaning
