pub mod IntegerReadsBack
pub mod NameReadsBack
