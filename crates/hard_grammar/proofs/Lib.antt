mod Words
mod Ordinary
mod Unflagged
mod LineTokens
mod Parameters
mod TextLines
mod OwnLines
mod NumberedLines
mod Columns
pub mod Modules
mod Accepted
mod WrittenTypes
mod WrittenNames
mod Held
mod Results
mod Constants
mod LateLines
mod OwnWords
