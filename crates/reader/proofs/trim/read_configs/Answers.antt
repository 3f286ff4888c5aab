use Rattle.std.proofs.Common.{arith, refl, rules, ◌+◌, ◌*◌}
use Rattle.oamd.specs.Tables.{trim_head, config_bytes}
use Rattle.oamd.specs.Trim.{configs_bytes_of}
use Rattle.reader.proofs.TrimLoop.{none_laid, one-laid, all_laid, next-config}
use Rattle.reader.proofs.trim.read_configs.Goals as goal

pub loop-i-init : goal.loop-i-init
unfolding configs_bytes_of
loop-i-init c =
    none_laid _ _ _ _ _ _ _ _ _ _ refl (search rules)

pub loop-i-preserved : goal.loop-i-preserved
loop-i-preserved c =
    rw c.store_config.ensures
    (one-laid _ _ _ _ _ _ _ _ _ _ c.loop-i.invariant _ (trim_head + config_bytes * c.loop-i.i) 0 c.loop-i-test.true (next-config _) (omega arith) (omega arith)
    c.read_trim_config-step.ensures.reads)

pub returns : goal.returns
returns c =
    all_laid _ _ _ _ _ _ _ _ _ _ c.loop-i.invariant (omega arith) refl
