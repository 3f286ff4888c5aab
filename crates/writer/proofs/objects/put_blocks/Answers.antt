use Rattle.std.proofs.Common.{ap, arith, eqb, suc, ℕ, ◌%◌, ◌+◌, ◌*◌, ◌<◌, ◌∙◌, ◌≡◌}
use Rattle.oamd.specs.declared.Scene.{Scene}
use Rattle.oamd.specs.Tables.{record_stride}
use Rattle.form.specs.Form.{block_bits}
use Rattle.record.specs.Bytes.{scene_at}
use Rattle.record.specs.Laws.{next-block}
use Rattle.laying.proofs.Laws.{rest_step, laid_is, rest_end}
use Rattle.writer.proofs.Records.{records_more, records_none}
use Rattle.writer.proofs.objects.put_blocks.Goals as goal

pub loop-i-preserved : goal.loop-i-preserved
loop-i-preserved c =
    let h = c.loop-i in
    let a = c.args in
    let some : h.i < a.count = c.loop-i-test.true in
    let there = c.scene_at-s.ensures.there (omega (arith, some, c.requires.count_in_bounds)) in
    let here =
    laid_is
    (ap (λ (x : Scene). block_bits (eqb h.block 0) x) there
    ∙ ap (λ (k : ℕ). block_bits (eqb k 0) (scene_at a.records.now (record_stride * h.i))) h.invariant.1)
    c.put_block-next.ensures in (
      rest_step (omega arith) (records_more _ _ _ h.i some) h.invariant.0 here,
      c.next_block-block.ensures ∙ next-block h.i a.blocks h.block (omega (arith, some, c.requires.count_in_bounds)) h.invariant.1
          ∙ ap (λ (k : ℕ). k % a.blocks) (let e : suc h.i ≡ h.i + 1 = omega arith in e),
    )

pub returns : goal.returns
returns c = rest_end (omega arith) (records_none _ _ _ _ (omega arith)) c.loop-i.invariant.0
