pub mod ChainHelpers
