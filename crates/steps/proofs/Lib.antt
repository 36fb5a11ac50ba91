-- StepLaws: each way out of a step is the definition's.
pub mod StepLaws
