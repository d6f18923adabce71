mod Beaten
mod BestIsTape
mod Clipping
pub mod DecidedByAge
mod DecidedSound
mod DecidedTape
mod Exact
mod FairCells
mod FairFit
mod FairSound
pub mod FallsDue
mod Holding
mod MeanSize
mod MeasuredTape
mod NoBreak
mod NoGreater
mod OnSides
mod OpenTape
mod PlainSound
mod Recorded
mod Rising
mod Runs
mod SameCells
mod Sections
pub mod SoFarDecided
mod SoundIntervals
mod SoundLength
mod SoundSides
mod SquareWave
mod SteadyPath
mod Stretched
mod TapeIntervals
mod TapeOfBits
mod TapeScore
