use Rattle.std.proofs.Common.{arith, refl, ap, sym, ◌∙◌, length, set, eqb}
use Rattle.bits.specs.Language.{bit}
use Rattle.oamd.specs.Trim.{configs_bytes_of}
use Rattle.reader.specs.Steps.{ConfigsRead}
use Rattle.reader.proofs.TrimLoop.{sent, unsent, trimming}
use Rattle.reader.proofs.trim.read_trim.Goals as goal
use Rattle.reader.proofs.trim.read_trim.Goals.{After-take-flagged, then-mode-eq2, else-mode-eq2}

-- the configurations, where they are sent
behind : (c : After-take-flagged)
    → ConfigsRead (eqb c.take_unless-mode.result.v 2) (bit c.args.s.now) c.take_unless-mode.result c.args.l
    (set (set (set c.args.out.now 0 1) 1 c.take_unless-warp.result.v) 2 c.take_unless-mode.result.v) c.if-mode-eq2.behind c.if-mode-eq2.out
unfolding configs_bytes_of
behind c =
    elim c.if-mode-eq2.branch [
      | then-mode-eq2 w ↦ rw (w.out-is, w.behind-is) (sent _ _ 2 w.if-mode-eq2.true w.read_configs-behind.ensures)
      | else-mode-eq2 w ↦
          rw (w.out-is, w.behind-is) (unsent _ _ 2 w.if-mode-eq2.false refl (omega arith) (ap length (sym w.out-is) ∙ c.if-mode-eq2.array_long))
    ]

pub returns-then-flagged-eq1 : goal.returns-then-flagged-eq1
returns-then-flagged-eq1 c =
    trimming c.take_unless-warp.ensures.reads c.take-reserved.ensures.reads c.take_unless-mode.ensures.reads
    (behind (goal.at.returns-then-flagged-eq1 c).After-take-flagged) c.take-flagged.ensures.reads
    (sent _ _ 1 c.if-flagged-eq1.true c.read_flags.ensures)

pub returns-else-flagged-eq1 : goal.returns-else-flagged-eq1
returns-else-flagged-eq1 c =
    trimming c.take_unless-warp.ensures.reads c.take-reserved.ensures.reads c.take_unless-mode.ensures.reads
    (behind (goal.at.returns-else-flagged-eq1 c).After-take-flagged) c.take-flagged.ensures.reads
    (unsent _ _ 1 c.if-flagged-eq1.false refl (omega (arith, c.requires)) c.if-flagged-eq1.array_long)
