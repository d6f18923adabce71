pub mod PlainWords
