pub mod Report
pub mod SourceReport
