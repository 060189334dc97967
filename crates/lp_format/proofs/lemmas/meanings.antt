pub mod JoinedMeaning
pub mod ShorterRests
