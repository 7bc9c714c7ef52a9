pub mod FaultHelpers
pub mod FitnessTable
