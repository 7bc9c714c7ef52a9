pub mod Carried
pub mod Tallies
pub mod TallyHelpers
pub mod Totals
