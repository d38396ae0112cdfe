pub mod Known
pub mod Forms
pub mod OneAnswer
pub mod Reading
pub mod Refusing
pub mod Working
pub mod Ending
