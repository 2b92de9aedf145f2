pub mod ReaderSteps
pub mod WindowSteps
pub mod WriterSteps
