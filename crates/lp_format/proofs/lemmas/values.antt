pub mod ValueForms
pub mod ValueLemmas
