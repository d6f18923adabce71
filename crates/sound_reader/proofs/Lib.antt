mod OnlyPieces
mod SlicesOn
mod StepsGoOn
mod ToldLater
