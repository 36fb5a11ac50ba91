-- Laws of the round table, of columns, of the rounds and of counter mode.
pub mod TableLaws
pub mod ColumnLaws
pub mod MixLaws
pub mod RoundLaws
pub mod CounterLaws
