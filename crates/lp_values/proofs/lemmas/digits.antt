pub mod DigitLemmas
