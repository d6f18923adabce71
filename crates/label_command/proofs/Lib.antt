mod Examples
pub mod AnswersGrow
pub mod AnswersRead
pub mod BackFromAFaster
pub mod LabelsAreCommand
pub mod LengthLeads
pub mod LinesRead
pub mod LinesTold
pub mod OneLine
pub mod ShortLines
pub mod TextSplit
pub mod SumsGrow
pub mod SumsSaid
pub mod SumsTold
