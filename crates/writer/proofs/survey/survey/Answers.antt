use Rattle.std.proofs.Common.{ap, ap₂, arith, eqb, ltb, sym, ℕ, ◌&&◌, ◌*◌, ◌+◌, ◌/◌, ◌∙◌, ◌≡◌}
use Rattle.bits.specs.Language.{both}
use Rattle.oamd.specs.declared.Scene.{Scene}
use Rattle.oamd.specs.declared.Divergence.{Divergence}
use Rattle.oamd.specs.declared.Precise.{Precise}
use Rattle.oamd.specs.Tables.{record_stride}
use Rattle.oamd.specs.Programme.{class_of}
use Rattle.oamd.specs.Time.{time_of, time_bytes_of}
use Rattle.form.specs.Valid.{record_valid}
use Rattle.form.specs.Form.{diverges, refines, block_bits}
use Rattle.record.specs.Bytes.{scene_at, record_at, time_at, same_bytes}
use Rattle.valid.proofs.Search.{more, stop, whole, bad-search, mistimed-search, both-search, next-turn, block_of, its-class, its-time}
use Rattle.writer.proofs.Extra.{any_more, any_end}
use Rattle.writer.proofs.Records.{records_more, records_none}
use Rattle.writer.proofs.Widths.{counted_step, counted_end, wide_is}
use Rattle.writer.proofs.survey.survey.Goals as goal
use Rattle.writer.proofs.survey.survey.Goals.{After-has_time-timed}

-- both tests, by the record's index
judged : (c : After-has_time-timed) → let h = c.loop-i in let a = c.args in
    c.valid_at-valid.result && c.has_time-timed.result
    ≡ both (record_valid (class_of a.shares (h.i / a.t.blocks)) (record_at a.records.now (record_stride * h.i)))
    (same_bytes (time_at a.records.now (record_stride * h.i)) (time_bytes_of (time_of a.frame a.t h.i)))
judged c =
    let so_far = c.loop-i.invariant.search-so-far in
    let few = c.requires.1 in
    let by-class = its-class _ _ _ so_far c.loop-i-test.true few
    (c.valid_at-valid.ensures ∙ ap (λ (k : ℕ). record_valid k (record_at c.args.records.now (record_stride * c.loop-i.i))) c.class_of-class.ensures) in
    let by-time = its-time _ _ _ so_far c.loop-i-test.true few c.time_of.ensures c.has_time-timed.ensures in
    ap₂ both by-class by-time

pub returns-then-not-right-clause-refused : goal.returns-then-not-right-clause-refused
returns-then-not-right-clause-refused c =
    let first = stop (both-search (bad-search _ _ _) (mistimed-search _ _ _)) c.loop-i.invariant.search-so-far c.loop-i-test.true
    (judged (goal.at.returns-then-not-right-clause-refused c).After-has_time-timed) c.if-not-right.true in
    record { wrong = omega (arith, first, c.loop-i-test.true); is = ap (λ (k : ℕ). 1 + k) first }

pub loop-i-preserved : goal.loop-i-preserved
loop-i-preserved c =
    let h = c.loop-i in
    let so_far = h.invariant.search-so-far in
    let left = c.loop-i-test.true in
    let d = ap (λ (x : Divergence). eqb x.used 1) (c.divergence_at-d.ensures.there (omega (arith, left, c.requires.0))) in
    let p = ap (λ (x : Precise). ltb 0 x.presence) (c.precise_at-p.ensures.there (omega (arith, left, c.requires.0))) in
    let turn = block_of h.turn.object h.turn.block c.args.t.blocks h.i so_far.turn (omega (arith, so_far.below, left, c.requires.1)) in
    let b =
    wide_is
    (ap (λ (x : Scene). block_bits (eqb h.turn.block 0) x) (c.scene_at.ensures.there (omega (arith, left, c.requires.0)))
    ∙ ap (λ (k : ℕ). block_bits (eqb k 0) (scene_at c.args.records.now (record_stride * h.i))) (sym turn)) c.block_width.ensures in
    let turned = next-turn _ h.turn (omega (arith, so_far.below, left, c.requires.1)) c.next_turn-turn.ensures in
    record {
      search-so-far = more (both-search (bad-search _ _ _) (mistimed-search _ _ _)) so_far left
          (judged (goal.at.loop-i-preserved c).After-has_time-timed) c.if-not-right.false turned;
      one-so-far = any_more diverges _ _ h.i h.diverges _ left d ∙ h.invariant.one-so-far;
      other-so-far = any_more refines _ _ h.i h.refines _ left p ∙ h.invariant.other-so-far;
      bits-so-far = counted_step (omega arith) (omega (arith, left, c.requires.1, c.requires.2))
          (records_more _ _ _ h.i left) h.invariant.bits-so-far b c.plus-width.ensures;
    }

pub returns-clause-found : goal.returns-clause-found
returns-clause-found c =
    let h = c.loop-i in
    let end = c.loop-i-test.false in
    record {
      right = omega (arith, end, whole (both-search (bad-search _ _ _) (mistimed-search _ _ _)) h.invariant.search-so-far end);
      needed = record {
        diverges = any_end diverges _ _ h.i h.diverges end ∙ h.invariant.one-so-far;
        refines = any_end refines _ _ h.i h.refines end ∙ h.invariant.other-so-far;
      };
      wide = counted_end (omega arith) (records_none _ _ _ h.i end) h.invariant.bits-so-far;
    }
