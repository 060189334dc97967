pub mod StreamRuns
