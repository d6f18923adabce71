pub mod Lists
pub mod Searches
pub mod Results
pub mod Bits
pub mod Digits
pub mod Quotients
