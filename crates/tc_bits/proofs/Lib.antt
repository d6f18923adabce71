pub mod AroundAField
pub mod FaultlessFields
pub mod FieldsOfATable
pub mod RowOfATable
pub mod SideBySide
