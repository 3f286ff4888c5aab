-- The listing of a payload (docs/DECISIONS.md, "The listing"): line by line, in the printed order.
use Rattle.std.specs.Prelude.{List, [], ◌∷◌, ◌++◌, ℕ, ◌+◌, ◌*◌, eqb, get_or, take, drop, replicate}
use Rattle.bits.specs.declared.Refusal.TheVariants.{EndsEarly}
use Rattle.bits.specs.Refusals.{number_of}
use Rattle.bits.specs.Writes.{only}
use Rattle.oamd.specs.declared.Programme.{Programme}
use Rattle.oamd.specs.declared.ReadAnswer.{ReadAnswer}
use Rattle.oamd.specs.declared.Timing.{Timing}
use Rattle.oamd.specs.declared.Update.{Update}
use Rattle.oamd.specs.Tables.{record_stride, room_bytes, most_trim}
use Rattle.oamd.specs.Programme.{shares}
use Rattle.oamd.specs.Timing.{no_update}
use Rattle.oamd.specs.Answer.{Outcome, reading}
use Rattle.keys.specs.Names.{refusal_key, place_key, missing_key, objects_key, bed_key, isf_key, dynamic_key, blocks_key, unknown_key, block_key, record_key}
use Rattle.text.specs.Numerals.{decimal}
use Rattle.text.specs.Lines.{texts_for, hex, line, number_line}

-- a block by its number, from 0: start and ramp
abbrev pub block_line : ℕ → Update → List ℕ
block_line blk u = line block_key (decimal blk ∷ decimal u.start.0 ∷ decimal u.ramp.0 ∷ [])

unfoldable pub block_lines : Timing → List ℕ
block_lines t = texts_for t.blocks (λ blk. block_line blk (get_or t.updates blk no_update))

-- the bytes of record i
abbrev pub record_at : List ℕ → ℕ → List ℕ
record_at records i = take record_stride (drop (record_stride * i) records)

-- the record of an object and a block: 32 bytes as hex digits: those of the payload, and the time of the block in frame 0
abbrev pub record_line : ℕ → ℕ → List ℕ → List ℕ
record_line object blk bytes = line record_key (decimal object ∷ decimal blk ∷ hex bytes ∷ [])

-- objects outermost, blocks within
abbrev pub object_lines : ℕ → List ℕ → ℕ → List ℕ
object_lines blocks records object = texts_for blocks (λ blk. record_line object blk (record_at records (object * blocks + blk)))

unfoldable pub record_lines : ℕ → ℕ → List ℕ → List ℕ
record_lines objects blocks records = texts_for objects (object_lines blocks records)

-- the objects, and those of each class
unfoldable pub share_lines : Programme → List ℕ
share_lines p =
    number_line objects_key p.objects
    ++ (number_line bed_key (shares p).bed
    ++ (number_line isf_key (shares p).isf
    ++ number_line dynamic_key (shares p).dynamic))

-- what is printed of an accepted payload behind refusal and place
unfoldable pub table_lines : ReadAnswer → List ℕ → List ℕ
table_lines a records =
    share_lines a.programme
    ++ (number_line blocks_key a.timing.blocks
    ++ (number_line unknown_key a.unknown
    ++ (block_lines a.timing
    ++ record_lines a.programme.objects a.timing.blocks records)))

-- the listing of what a read answered, and of the bytes of the records
unfoldable pub listing_of : ReadAnswer → List ℕ → List ℕ
listing_of a records =
    number_line refusal_key a.refusal
    ++ (number_line place_key a.place
    ++ (only (eqb a.refusal (number_of EndsEarly)) (number_line missing_key a.missing)
    ++ only (eqb a.refusal 0) (table_lines a records)))

unfoldable pub zeros : ℕ → List ℕ
zeros n = replicate n 0

-- the payload is read as that of frame 0, with room for the records and the trim table of every payload
abbrev pub read : List ℕ → Outcome
read s = reading 0 s (zeros room_bytes) (zeros most_trim)

-- the listing of a payload
unfoldable pub listing : List ℕ → List ℕ
listing s = listing_of (read s).answer (read s).buffer
