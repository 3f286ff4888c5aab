use Rattle.writer.proofs.Surveys.{Surveying}
use Rattle.writer.proofs.survey.survey.Given as goal

-- What was seen and what is still to come answer for all (`Surveys.antt`).
abbrev pub invariant-loop-i : goal.invariant-loop-i
invariant-loop-i l =
    Surveying l.shares l.frame l.t l.records l.count l.turn.object l.turn.block l.i l.diverges l.refines l.width.0
