pub mod Bytes
pub mod Source
pub mod Sink
pub mod Memory
pub mod Adapters
pub mod Verdict
pub mod VerdictLemmas
pub mod ByteLemmas
