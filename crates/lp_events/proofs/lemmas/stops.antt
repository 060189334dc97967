pub mod MostParts
