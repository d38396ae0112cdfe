mod Happenings
pub mod Images
