pub mod Texts
pub mod TextsHelpers
