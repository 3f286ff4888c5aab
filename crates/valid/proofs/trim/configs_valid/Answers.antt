use Rattle.std.proofs.Common.{rules, ◌∙◌}
use Rattle.bits.specs.Language.{pick}
use Rattle.oamd.specs.Tables.{trim_configs, trim_head}
use Rattle.oamd.specs.Trim.{no_config}
use Rattle.form.specs.Valid.{config_valid}
use Rattle.form.specs.Answer.{configs_at}
use Rattle.valid.proofs.Entries.{tested, all_of}
use Rattle.valid.proofs.Zeros.{configs-unsent}
use Rattle.valid.proofs.Sent.{sent, configs-length, config-entry}
use Rattle.valid.proofs.trim.configs_valid.Goals as goal

pub returns-then-not-sent : goal.returns-then-not-sent
returns-then-not-sent c = rw c.if-not-sent.true (c.zeros.ensures ∙ configs-unsent _ _ _)

pub returns : goal.returns
returns c =
    let configs = configs_at c.args.trim.now trim_configs trim_head in
    c.all_below.ensures (tested config_valid (pick c.args.sent trim_configs 0) configs no_config)
    (λ i r h e. rw (sent c.args.sent i trim_configs h, config-entry c.args.trim.now trim_configs trim_head i no_config h) (search rules))
    ∙ all_of config_valid (pick c.args.sent trim_configs 0) configs no_config trim_configs (configs-length c.args.trim.now trim_configs trim_head)
