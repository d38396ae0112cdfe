pub mod Places
pub mod Renaming
pub mod Numbers
pub mod Laws
