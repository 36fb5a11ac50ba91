-- CommitLaws: each way out of Commit is the definition's.
pub mod CommitLaws
