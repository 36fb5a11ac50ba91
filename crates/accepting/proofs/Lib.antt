-- AcceptLaws: a transaction that may be held, and what Seal answers on each of its ways out.
pub mod AcceptLaws
