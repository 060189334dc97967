pub mod PortableLaws
