pub mod InfluxLaws
