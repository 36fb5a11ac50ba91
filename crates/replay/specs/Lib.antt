-- Rules: what the log rules say of one record, and what a reading answers.
pub mod Rules
