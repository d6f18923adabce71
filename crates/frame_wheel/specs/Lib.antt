pub mod Wheel
