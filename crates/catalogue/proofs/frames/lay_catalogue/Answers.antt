use Rattle.std.proofs.Common.{List, length, ℕ, ◌∙◌, ◌≡◌}
use Rattle.oamd.specs.Tables.{room_bytes}
use Rattle.catalogue.specs.Parts.{front}
use Rattle.catalogue.specs.Writes.{Within, sheet_by}
use Rattle.catalogue.proofs.WriteSheets.{sheet_is, read-within, read-nothing, cataloguing_more, cataloguing_end}
use Rattle.catalogue.proofs.frames.lay_catalogue.Goals as goal
use Rattle.catalogue.proofs.frames.lay_catalogue.Goals.{After-read_entry-a}

-- ---- the entry that was read

module _ (c : After-read_entry-a) where
  abbrev laid : List ℕ
  laid = c.read_entry-a.new.records

  laid_long : length laid ≡ room_bytes
  laid_long = c.read_entry-a.auto.records ∙ c.loop-i.invariant.0

  entry-within : Within c.read_entry-a.result.programme.objects c.read_entry-a.result.timing.blocks laid
  entry-within =
      read-within _ _ _ _ _ _ c.loop-i.invariant.0 c.loop-i.invariant.1 c.read_entry-a.result laid _ c.read_entry-a.ensures laid_long

  entry-nothing : (c.read_entry-a.result.refusal ≡ 0 → ⊥) → c.read_entry-a.result.timing.blocks ≡ 0
  entry-nothing = read-nothing _ _ _ _ _ _ c.loop-i.invariant.0 c.loop-i.invariant.1 c.read_entry-a.result laid _ c.read_entry-a.ensures

pub lay_sheet-to-requires-clause-within : goal.lay_sheet-to-requires-clause-within
lay_sheet-to-requires-clause-within c = entry-within (goal.at.lay_sheet-to-requires-clause-within c).After-read_entry-a

pub lay_sheet-to-requires-clause-blocks_value : goal.lay_sheet-to-requires-clause-blocks_value
lay_sheet-to-requires-clause-blocks_value c = entry-nothing (goal.at.lay_sheet-to-requires-clause-blocks_value c).After-read_entry-a

pub loop-i-preserved : goal.loop-i-preserved
loop-i-preserved c =
    let read = (goal.at.loop-i-preserved c).After-read_entry-a in
    let h = c.loop-i in
    let a = c.args in
    let s = a.shelf.now in (
      laid_long read,
      c.read_entry-a.auto.trim ∙ h.invariant.1,
      cataloguing_more s.store.now s.starts.now s.lengths.now s.frames.now (front a.latest.now) h.latest h.i h.invariant.2
          (sheet_by _ c.read_entry-a.result (laid read)) (record { each-length = s.each_length; each-frame = s.each_frame }) c.loop-i-test.true
          (sheet_is _ _ _ _ _ _ h.invariant.0 h.invariant.1 c.read_entry-a.result (laid read) _ c.read_entry-a.ensures) c.lay_sheet-to.ensures,
    )

pub returns : goal.returns
returns c =
    let h = c.loop-i in
    let a = c.args in
    let s = a.shelf.now in
    cataloguing_end s.store.now s.starts.now s.lengths.now s.frames.now (front a.latest.now) h.latest h.i h.invariant.2 c.loop-i-test.false
