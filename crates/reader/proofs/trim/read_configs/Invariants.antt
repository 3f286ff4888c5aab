use Rattle.bits.specs.Language.{bit}
use Rattle.oamd.specs.Tables.{trim_configs, config_bytes, trim_head}
use Rattle.oamd.specs.Trim.{trim_config, configs_bytes_of}
use Rattle.oamd.specs.Lengths.{length-configs}
use Rattle.reader.proofs.TrimLoop.{Laying}
use Rattle.reader.proofs.trim.read_configs.Given as goal

abbrev pub invariant-loop-i : goal.invariant-loop-i
invariant-loop-i t =
    Laying trim_configs (λ cfg. trim_config) configs_bytes_of config_bytes trim_head (bit t.s) t.initial.cur t.l t.initial.out length-configs t.i t.cur t.out
