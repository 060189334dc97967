pub mod FaultStops
pub mod FrontLemmas
pub mod ManyLemmas
