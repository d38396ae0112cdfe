pub mod Firsts
pub mod Meanings
pub mod Tables
pub mod Types
pub mod Kinds
pub mod Scopes
