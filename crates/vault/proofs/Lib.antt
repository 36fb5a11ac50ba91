-- BelowLaws: a test of each number below another, as a chain over a range makes it.
pub mod BelowLaws
