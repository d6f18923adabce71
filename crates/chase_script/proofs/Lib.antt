pub mod Digits
pub mod FiveFields
pub mod RowsFit
pub mod TraceGoesOn
pub mod WhatIsLeft
mod Examples
