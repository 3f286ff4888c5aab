-- The field that a byte's source names was read at its bit: the bits there are its number as coded.
use Rattle.std.specs.Prelude.{◌≡◌, true, ℕ, ◌+◌, ◌<◌, eqb}
use Rattle.std.proofs.Common.{sym, ap, ◌∙◌, subst, arith}
use Rattle.std.proofs.Math.Bool.{Bool}
use mathlib.Core.List.{List, [], ◌++◌, map}
use Rattle.bits.specs.Language.{ok, both, slice, number, bit}
use Rattle.bits.specs.Bytes.{bit_lt}
use Rattle.bits.specs.Terms.{Every}
use Rattle.oamd.specs.Tables.{record_bytes}
use Rattle.oamd.specs.Programme.{set?}
use Rattle.oamd.specs.Extended.{ext_prec_pos_block}
use Rattle.oamd.specs.Record.{Record}
use Rattle.oamd.specs.Payload.{Payload}
use Rattle.demands.specs.Terms.{parsed}
use Rattle.sources.specs.declared.Field.{Field}
use Rattle.sources.specs.declared.Source.{Source}
use Rattle.sources.specs.declared.Source.TheVariants.{ByField, ByMove}
use Rattle.sources.specs.declared.WhyStep.{WhyStep}
use Rattle.sources.specs.declared.WhyAnswer.{WhyAnswer}
use Rattle.sources.specs.Places.{arrival_here}
use Rattle.sources.specs.Sources.{Clause, info_block, div_block, prec_block, line_of, width_of, field_number}
use Rattle.sources.specs.Where.{extended_path, precise_present, path_of, bit_of, field_bit}
use Rattle.sources.specs.Coded.{coded_value}
use Rattle.sources.specs.Chain.{objects_in, blocks_in, block_at, record_at, may_carry, divergence_sent, presence_sent, source_at, steps_from}
use Rattle.sources.specs.Explaining.{told, steps_told, explaining}
use Rattle.sources.specs.Given.{scene_count, divergence_at, precise_at, steps_in}
use Rattle.sources.specs.Offsets.{Lines, in_row, block_lines, divergence_lines, precise_lines}
use Rattle.sources.specs.Lemmas.Blocks.{block-met}
use Rattle.sources.specs.Lemmas.Records.{record-at, quiet_at, divergence-met, precise-met}
use Rattle.sources.specs.Lemmas.Bytes.{by_part, source-scene, source-extra}
use Rattle.sources.specs.Lemmas.Answering.{explained_of, steps-in}
use Rattle.sources.specs.Lemmas.Lines.{Stand}
use Rattle.sources.specs.Lemmas.Arrives.{Carried, Diverges, block_read, divergence-read, precise-read}
use Rattle.sources.specs.Lemmas.Standing.{line_in, stand_there, Named, scene-stands, both_first, both-second, extra-stands}
use Rattle.sources.specs.Lemmas.Stepping.{by_number, Back, all_back, every_map}

-- the bits of a field of block b of object j, of the payload s that was read as q, are its number as coded
abbrev pub NumberStands : List ℕ → Payload → ℕ → ℕ → Field → Type 0
NumberStands s q j b f =
    number (slice (bit s) (field_bit s (blocks_in q) j b f) (width_of f)) ≡ coded_value f (block_at q j b) (record_at q j b).divergence (record_at q j b).precise

module _ (s : List ℕ) {q : Payload} {to : ℕ} (h : parsed s ≡ ok q to) (byte j b : ℕ) (n : byte < record_bytes) (l : j < objects_in q) (m : b < blocks_in q) where
  -- a field is where the path of its clause leads
  at_path : (f : Field) (clause : Clause) → (line_of f).clause ≡ clause → (lines : Lines)
      → Stand (bit s) (bit_of s (path_of s (blocks_in q) j b clause (line_of f).path)) (line_in f lines) → Stand (bit s) (field_bit s (blocks_in q) j b f) (line_in f lines)
  unfolding field_bit
  at_path f clause c lines x = rw c x

  -- what was read of each field of the block, and of the entries of the extended element
  block-fields : (x : Carried (block_at q j b)) × ((f : Field) → (line_of f).clause ≡ info_block
      → Stand (bit s) (field_bit s (blocks_in q) j b f) (line_in f (block_lines (eqb b 0) (block_at q j b) x.unheld)))
  block-fields =
      let x = block-met s h j b l m in
      let r = block_read (bit s) (bit_lt s) x.at x.end x.past _ b x.meets.ran in
      (r.0, λ f c. at_path f info_block c _ (stand_there x.meets r.1 f))

  divergence-fields : divergence_sent s q j b ≡ true → (x : Diverges (divergence_at q j b)) × ((f : Field) → (line_of f).clause ≡ div_block
      → Stand (bit s) (field_bit s (blocks_in q) j b f) (line_in f (in_row (divergence_lines (divergence_at q j b) x.table x.code))))
  divergence-fields sent =
      let x = divergence-met s h j b l m sent in
      let r = divergence-read (bit s) (bit_lt s) x.at x.end x.past x.meets.ran in
      (r.0, λ f c. at_path f div_block c _ (stand_there x.meets r.1 f))

  precise-fields : presence_sent s q j b ≡ true → (f : Field) → (line_of f).clause ≡ prec_block
      → Stand (bit s) (field_bit s (blocks_in q) j b f) (line_in f (in_row (precise_lines (precise_at q j b))))
  unfolding presence_sent ext_prec_pos_block
  precise-fields sent f c =
      let present : Bool = both (may_carry q j b) (set? (bit s (bit_of s (extended_path s ++ precise_present)))) in
      let x = precise-met s h j b l m (both_first present _ sent) in
      let here = x.meets.comes 0 [] ∙ arrival_here _ _ (bit s) x.at x.end x.past in
      let r = precise-read (bit s) (bit_lt s) x.at x.end x.past x.meets.ran (ap (λ (k : ℕ). set? (bit s k)) (sym here) ∙ both-second present _ sent) in
      at_path f prec_block c _ (stand_there x.meets r f)

  -- a record has the entries of the extended element
  recorded : (x : Source)
      → Named (λ f. number (slice (bit s) (field_bit s (blocks_in q) j b f) (width_of f)) ≡ coded_value f (block_at q j b) (divergence_at q j b) (precise_at q j b)) x
      → Named (NumberStands s q j b) x
  recorded x = subst
      (λ (r : Record). Named (λ f. number (slice (bit s) (field_bit s (blocks_in q) j b f) (width_of f)) ≡ coded_value f (block_at q j b) r.divergence r.precise) x)
      (sym (record-at s h j b))

  -- each of the 24 bytes of the record of each block of each object, of an accepted payload: of the field that its source names
  pub stands : Named (NumberStands s q j b) (source_at s q byte j b)
  stands =
      let at : Field → ℕ = field_bit s (blocks_in q) j b in
      let x = block-fields in
      by_part (λ byte. Named (NumberStands s q j b) (source_at s q byte j b)) byte n
      (λ n. rw (source-scene s h j b byte n) (scene-stands (bit s) at (eqb b 0) (block_at q j b) x.0.unheld x.0.basic x.0.render x.1 _ _ (eqb j 0) byte n))
      (λ k n.
      recorded (source_at s q (scene_count + k) j b)
      (rw (source-extra s h j b k)
      (extra-stands (bit s) at (block_at q j b) (divergence_at q j b) (precise_at q j b) _ _ (quiet_at s h j b l m) divergence-fields precise-fields k n)))

  -- so for a byte that comes from a field, and for a coordinate that is moved by one
  pub field-stands : (f : Field) → source_at s q byte j b ≡ ByField f → NumberStands s q j b f
  field-stands f is = rw is at stands

  pub move-stands : (f : Field) (d : ℕ) → source_at s q byte j b ≡ ByMove f d → NumberStands s q j b f
  move-stands f d is = rw is at stands

-- ---- an answer

-- the bits at a step's bit are the number of the field that it names, as coded in its block
abbrev pub StepStands : List ℕ → Payload → WhyStep → Type 0
StepStands s q st =
    (f : Field) → field_number f ≡ st.field → number (slice (bit s) st.bit (width_of f))
    ≡ coded_value f (block_at q st.object st.block) (record_at q st.object st.block).divergence (record_at q st.object st.block).precise

-- every step of an answer that refuses nothing
pub record AllStand (s : List ℕ) (a : WhyAnswer) : Type 0 where
  pub payload : Payload
  pub to : ℕ
  pub ran : parsed s ≡ ok payload to
  pub steps : Every (StepStands s payload) (steps_in a)

pub answer-stands : (s : List ℕ) (object block byte : ℕ) → (explaining s object block byte).refusal ≡ 0 → AllStand s (explaining s object block byte)
unfolding steps_told told
answer-stands s object block byte h =
    let x = explained_of s object block byte h in
    let q = x.payload in
    let steps = steps_from (source_at s q byte) object block in
    let same : steps_in (explaining s object block byte) ≡ map (told s q byte) steps = ap steps_in x.is ∙ steps-in (map (told s q byte) steps) in
    record {
      payload = q;
      to = x.to;
      ran = x.ran;
      steps = rw same
          (every_map (told s q byte) (Back (source_at s q byte) object block) (StepStands s q)
          (λ st back f e.
          let j = st.object in
          let b = st.block in
          let here = stands s x.ran byte j b x.byte_there (omega (arith, back.object, x.object_there)) (omega (arith, back.block, x.block_there)) in
          by_number (λ at f. number (slice (bit s) at (width_of f)) ≡ coded_value f (block_at q j b) (record_at q j b).divergence (record_at q j b).precise) s (blocks_in q) j b st.source
          (rw back.is here) f e)
          steps (all_back (source_at s q byte) _ object block));
    }
