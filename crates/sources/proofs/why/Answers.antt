use Rattle.std.proofs.Common.{ℕ, ◌∙◌}
use Rattle.std.proofs.lemmas.List.{length-replicate}
use Rattle.sources.proofs.Came.{Came, came_refused, came-read, no-object, no_block, no_byte, there-asked, all_there}
use Rattle.sources.proofs.why.Goals as goal
use Rattle.sources.proofs.why.Goals.{Else-a-ne0}

-- ---- what was read
read : (c : Else-a-ne0) → Came c.args.payload.now c.read-a.result c.read-a.new.records
read c =
    came-read c.args.payload.now _ _ _ _ _ (length-replicate {A = ℕ} _ 0) (length-replicate {A = ℕ} _ 0) c.read-a.ensures c.if-a-ne0.false

pub returns-then-a-ne0 : goal.returns-then-a-ne0
returns-then-a-ne0 c =
    c.refused.ensures
    ∙ came_refused c.args.payload.now _ _ _ _ _ (length-replicate {A = ℕ} _ 0) (length-replicate {A = ℕ} _ 0) c.read-a.ensures _ _ _ c.if-a-ne0.true

pub returns-then-a-object : goal.returns-then-a-object
returns-then-a-object c =
    c.no_such.ensures ∙ no-object (read (goal.at.returns-then-a-object c).Else-a-ne0) _ _ _ c.if-a-object.true

pub returns-then-blocks-block : goal.returns-then-blocks-block
returns-then-blocks-block c =
    c.no_such-then-blocks-block.ensures ∙ no_block (read (goal.at.returns-then-blocks-block c).Else-a-ne0) _ _ _ c.if-a-object.false c.if-blocks-block.true

pub returns-then-byte : goal.returns-then-byte
returns-then-byte c =
    c.no_such-then-byte.ensures ∙ no_byte (read (goal.at.returns-then-byte c).Else-a-ne0) _ _ _ c.if-a-object.false c.if-blocks-block.false c.if-byte.true

pub explain-requires : goal.explain-requires
explain-requires c =
    let x = read (goal.at.explain-requires c).Else-a-ne0 in
    (there-asked x _ _ 0 c.if-a-object.false c.if-blocks-block.false, x.recorded, c.if-byte.false)

pub returns : goal.returns
returns c =
    c.explain.ensures ∙ all_there (read (goal.at.returns c).Else-a-ne0) _ _ _ c.if-a-object.false c.if-blocks-block.false c.if-byte.false
