pub mod StepFindings
