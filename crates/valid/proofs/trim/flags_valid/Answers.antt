use Rattle.std.proofs.Common.{rules, ◌∙◌}
use Rattle.bits.specs.Language.{pick}
use Rattle.oamd.specs.Tables.{trim_fixed}
use Rattle.record.specs.Bytes.{bytes_at}
use Rattle.form.specs.Valid.{between_if}
use Rattle.valid.proofs.Entries.{tested, all_of}
use Rattle.valid.proofs.Sent.{sent, bytes-length, byte-entry}
use Rattle.valid.proofs.trim.flags_valid.Goals as goal

pub returns : goal.returns
returns c =
    let n = c.args.objects in
    let flags = bytes_at c.args.trim.now n trim_fixed in
    c.all_below.ensures (tested (λ used x. between_if used 0 1 x) (pick c.args.sent n 0) flags 0)
    (λ i r h e. rw (sent c.args.sent i n h, byte-entry c.args.trim.now n trim_fixed i h) (search rules))
    ∙ all_of (λ used x. between_if used 0 1 x) (pick c.args.sent n 0) flags 0 n (bytes-length c.args.trim.now n trim_fixed)
