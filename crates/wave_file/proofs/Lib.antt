pub mod Answered
pub mod Blocks
pub mod Decoding
mod Examples
pub mod FewSamples
pub mod JudgedRate
pub mod Pieces
pub mod TakenFormat
pub mod Waiting
pub mod WhatStays
pub mod WrittenChunks
pub mod WrittenFiles
pub mod WrittenSamples
