pub mod SlipIsShort
