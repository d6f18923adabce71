mod BytesOn
mod FlagBits
mod FramesOn
mod LendsOn
mod OneFrame
mod OneWord
mod Steps
mod WritesOn
