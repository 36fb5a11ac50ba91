-- StartLaws: what is read under a prepared key.
pub mod StartLaws
