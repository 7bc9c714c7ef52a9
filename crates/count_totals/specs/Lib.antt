pub mod TokenTotals
pub mod TotalsHelpers
