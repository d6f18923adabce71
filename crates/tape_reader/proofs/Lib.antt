mod OneOfFour
mod ReadsOneMore
