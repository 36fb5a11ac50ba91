-- An answer, and what a method hands back: the same in two forms.
-- Assumes nothing.
use Rattle.protocol.specs.declared.Answer.{Answer}
use Rattle.collector.specs.declared.Handed.{Handed}

abbrev pub handed_back : Answer → Handed
handed_back a = record { collector = record { state = a.state }; outcome = a.outcome }

abbrev pub answered : Handed → Answer
answered r = record { state = r.collector.state; outcome = r.outcome }
