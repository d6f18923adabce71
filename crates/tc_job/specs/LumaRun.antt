-- What the words say of fields of pixels that are to be read.
use Rattle.tc_address.specs.declared.system.System.{System}
use Rattle.luma_field.specs.Raster.{RasterSize}
use Rattle.vitc_line.specs.Places.{HasLines}

-- the system of their time code, and how they lie in bytes
pub record LumaReading : Type 0 where
  pub system : System
  pub raster : RasterSize

abbrev pub luma_reading_of : System → RasterSize → LumaReading
luma_reading_of system raster = record { system = system; raster = raster }

-- pictures that have lines of time code
abbrev pub IsLumaReading : LumaReading → Type 0
IsLumaReading luma = HasLines luma.system
