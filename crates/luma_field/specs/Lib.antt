pub mod Field
pub mod KeptField
pub mod KeptReader
pub mod Parts
pub mod Raster
pub mod Rows
