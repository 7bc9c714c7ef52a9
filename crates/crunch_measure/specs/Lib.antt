pub mod MeasureHelpers
