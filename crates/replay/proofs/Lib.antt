-- RuleLaws: the lowest missing lane. OpenLaws: a record as it is handed over. StepLaws: the loop over the records. For the layers above: AnswerLaws,
-- that there is one answer; KeyLaws, a log read under a prepared key.
pub mod RuleLaws
pub mod OpenLaws
pub mod StepLaws
pub mod AnswerLaws
pub mod KeyLaws
