-- The tables of every accepted payload whose reserved content flag is clear are valid (docs/DECISIONS.md, "The written form").
use Rattle.std.specs.Prelude.{◌≡◌, refl, true, false, List, [], ℕ, zero, suc, ◌+◌, ◌*◌, length}
use Rattle.std.proofs.Common.{sym, ◌∙◌, arith, zero-mul, mul-zero}
use Rattle.std.proofs.Math.Option.{Option, none, some}
use Rattle.bits.specs.Language.{ok, run, bit, from, past_payload}
use Rattle.bits.specs.Laws.{length_from}
use Rattle.bits.specs.Bytes.{bit_lt}
use Rattle.bits.specs.Ensures.{ensured, e-give, e-bind, e-any, e-then, e-refuse, e-within, e-each}
use Rattle.bits.specs.Terms.{Ensures, All}
use Rattle.oamd.specs.declared.Programme.{Programme}
use Rattle.oamd.specs.declared.Kind.{Kind}
use Rattle.oamd.specs.declared.Kind.TheVariants.{Unknown, Object, Trim, Extended}
use Rattle.oamd.specs.Programme.{has_reserved, shares, class_of}
use Rattle.oamd.specs.Timing.{timing_of}
use Rattle.oamd.specs.Block.{object_info_block}
use Rattle.oamd.specs.ObjectElement.{object_data, ObjectElement, object_element}
use Rattle.oamd.specs.Extended.{Extension}
use Rattle.oamd.specs.Trim.{TrimTable, trim_of}
use Rattle.oamd.specs.Record.{Record, all_carry, plain_records, extended_records}
use Rattle.oamd.specs.Element.{kind, framed, nothing, scenes, fields, State, pass_over, read_known, oa_element, oa_element_md, elements}
use Rattle.oamd.specs.Payload.{Payload, object_audio_metadata_payload, no_timing, timing, records, tables}
use Rattle.form.specs.Valid.{between_if, programme_valid, offset_in_samples, update_valid, entries_valid, timing_valid, first_bad, trim_valid, Valid}
use Rattle.roundtrip.specs.Lemmas.AcceptedProgramme.{all-every, header-ensures}
use Rattle.roundtrip.specs.Lemmas.AcceptedTiming.{TimingRead, timing-ensures, timing-valid}
use Rattle.roundtrip.specs.Lemmas.AcceptedBlock.{BlockRead, block-ensures}
use Rattle.roundtrip.specs.Lemmas.AcceptedScenes.{ScenesValid, ObjectRead, all_valid}
use Rattle.roundtrip.specs.Lemmas.AcceptedRecords.{ExtensionRead, extension-ensures, RecordsValid, plain-valid, extended-valid, no-bad}
use Rattle.roundtrip.specs.Lemmas.AcceptedTrim.{trim-ensures, no-trim_valid}

-- ---- 5.5.5 and 5.5.8

-- an object element, as it was read
pub record ElementRead (p : Programme) (e : ObjectElement) : Type 0 where
  pub timing : TimingRead e.timing
  pub objects : All (ObjectRead (shares p) (length e.timing.blocks)) (from 0 p.objects) e.objects

object-ensures : (p : Programme) → Ensures (object_element p.objects (shares p)) (ElementRead p)
unfolding object_element object_data
object-ensures p =
    e-bind _ _ _ (e-then _ _ _ timing-ensures λ timing t.
    e-bind _ _ _ (e-any _ _ λ flag.
    e-bind _ _ _ (e-any _ _ λ reserved.
    let blocks : ℕ = length timing.blocks in
    e-bind _ _ _ (e-then _ _ _ (e-each (λ j. object_data blocks (class_of (shares p) j)) (ObjectRead (shares p) blocks) (λ j. one j blocks)
    (from 0 p.objects)) λ objects o.
    e-give _ _ (record { timing = t; objects = o })))))
  where
    one : (j blocks : ℕ) → Ensures (object_data blocks (class_of (shares p) j)) (ObjectRead (shares p) blocks j)
    one j blocks =
        e-then _ _ _ (e-each (object_info_block (class_of (shares p) j)) (λ blk. BlockRead (class_of (shares p) j)) (block-ensures (class_of (shares p) j))
        (from 0 blocks)) λ bs h.
        let v = all-every (λ blk. BlockRead (class_of (shares p) j)) (BlockRead (class_of (shares p) j)) (λ blk b q. q) (from 0 blocks) bs h in
        record { read = v.0; long = v.1 ∙ length_from 0 blocks }

-- ---- 5.5.4

-- the object element and the extended one, as they were read: no extended one without an object element, which it fits
abbrev pub Kept : Programme → Option ObjectElement → Option Extension → Type 0
Kept p none none = Unit {0}
Kept p none (some x) = ⊥
Kept p (some e) none = ElementRead p e
Kept p (some e) (some x) = ElementRead p e × ExtensionRead (all_carry (scenes (some e))) x

-- the trim element, as it was read or where there is none
abbrev pub TrimKept : Programme → Option TrimTable → Type 0
TrimKept p z = trim_valid p.objects (trim_of p.objects z) ≡ true

abbrev pub Keeps : Programme → State → Type 0
Keeps p st = Kept p st.known.object st.known.extended × TrimKept p st.known.trim

known-ensures : (p : Programme) (back : ℕ) (o : Option ObjectElement) (z : Option TrimTable) (x : Option Extension) (unknown : ℕ) (k : Kind)
    → Kept p o x × TrimKept p z
    → Ensures (oa_element p back (record { known = record { object = o; trim = z; extended = x }; unknown = unknown }) k) (Keeps p)
unfolding oa_element read_known fields pass_over trim_of
known-ensures p back o z x unknown Unknown h = e-give _ _ h
known-ensures p back none z none unknown Object h =
    e-bind _ _ _ (e-give _ _ (e-bind _ _ _ (e-give _ _ (e-bind _ _ _ (e-bind _ _ _ (e-then _ _ _ (object-ensures p) λ e r.
    e-give _ _ (e-give _ _ (r, h.1))))))))
known-ensures p back none z (some x) unknown Object h = absurd h.0
known-ensures p back (some e) z x unknown Object h = e-bind _ _ _ (e-refuse _ _ _)
known-ensures p back o none x unknown Trim h =
    e-bind _ _ _ (e-give _ _ (e-bind _ _ _ (e-give _ _ (e-bind _ _ _ (e-bind _ _ _ (e-then _ _ _ (trim-ensures p.objects) λ t r.
    e-give _ _ (e-give _ _ (h.0, r))))))))
known-ensures p back o (some z) x unknown Trim h = e-bind _ _ _ (e-refuse _ _ _)
known-ensures p back none z none unknown Extended h = e-bind _ _ _ (e-give _ _ (e-bind _ _ _ (e-refuse _ _ _)))
known-ensures p back none z (some x) unknown Extended h = absurd h.0
known-ensures p back (some e) z none unknown Extended h =
    e-bind _ _ _ (e-give _ _ (e-bind _ _ _ (e-give _ _ (e-bind _ _ _ (e-bind _ _ _
    (e-then _ _ _ (extension-ensures (all_carry (scenes (some e)))) λ x r. e-give _ _ (e-give _ _ ((h.0, r), h.1))))))))
known-ensures p back (some e) z (some x) unknown Extended h = e-bind _ _ _ (e-refuse _ _ _)

element-ensures : (p : Programme) (alternate : ℕ) (st : State) → Keeps p st → Ensures (oa_element_md p alternate st) (Keeps p)
unfolding oa_element_md framed
element-ensures p alternate st h =
    e-bind _ _ _ (e-any _ _ λ id. e-bind _ _ _ (e-any _ _ λ size. e-within _ _ _ _ (e-bind _ _ _ (e-any _ _ λ other. e-bind _ _ _ (e-any _ _ λ discard.
    known-ensures p _ st.known.object st.known.trim st.known.extended st.unknown (kind id other) h)))))

pub elements_ensure : (p : Programme) (alternate n : ℕ) (st : State) → Keeps p st → Ensures (elements p alternate n st) (Keeps p)
unfolding elements
elements_ensure p alternate zero st h = e-give _ _ h
elements_ensure p alternate (suc n) st h =
    e-bind _ _ _ (e-then _ _ _ (element-ensures p alternate st h) λ next k. elements_ensure p alternate n next k)

-- ---- the tables

pub no-timing_valid : timing_valid no_timing ≡ true
unfolding timing_valid offset_in_samples entries_valid update_valid between_if
no-timing_valid = refl

-- valid records of an object element make valid tables
element-valid : (p : Programme) (e : ObjectElement) (rs : List Record) (t : TrimTable) → programme_valid p ≡ true → ElementRead p e
    → RecordsValid (shares p) (length e.timing.blocks) 0 (length (scenes (some e))) rs → trim_valid p.objects t ≡ true
    → Valid (record { programme = p; timing = timing_of e.timing; records = rs; trim = t })
unfolding scenes timing_of
element-valid p e rs t v h r g =
    let blocks : ℕ = length e.timing.blocks in
    let n : length rs ≡ p.objects * blocks = r.long ∙ (all_valid (shares p) blocks 0 p.objects [] e.objects tt h.objects).1 in
    let b : first_bad (shares p) blocks 0 rs ≡ 0 + length rs = no-bad (shares p) blocks 0 rs r.valid in
    record { programme = v; timing = timing-valid e.timing h.timing; count = n; records = omega arith; trim = g }

pub element-scenes : (p : Programme) (e : ObjectElement) → ElementRead p e → ScenesValid (shares p) (length e.timing.blocks) 0 (scenes (some e))
unfolding scenes
element-scenes p e h =
    let blocks : ℕ = length e.timing.blocks in
    rw (zero-mul blocks) at (all_valid (shares p) blocks 0 p.objects [] e.objects tt h.objects).0

tables-valid : (p : Programme) (o : Option ObjectElement) (z : Option TrimTable) (x : Option Extension) → programme_valid p ≡ true → Kept p o x → TrimKept p z
    → Valid (tables p (record { object = o; trim = z; extended = x }))
unfolding tables timing records scenes plain_records first_bad
tables-valid p none z none v h g = record {
  programme = v;
  timing = no-timing_valid;
  count = sym (mul-zero p.objects);
  records = sym (mul-zero p.objects);
  trim = g;
}
tables-valid p none z (some x) v h g = absurd h
tables-valid p (some e) z none v h g =
    element-valid p e (plain_records (scenes (some e))) (trim_of p.objects z) v h
    (plain-valid (shares p) (length e.timing.blocks) 0 (scenes (some e)) (element-scenes p e h)) g
tables-valid p (some e) z (some x) v h g =
    element-valid p e (extended_records (scenes (some e)) x.divergence x.precise) (trim_of p.objects z) v h.0
    (extended-valid (shares p) (length e.timing.blocks) 0 (scenes (some e)) x.divergence x.precise (element-scenes p e h.0)
    h.1.divergence h.1.precise) g

payload-ensures : Ensures object_audio_metadata_payload (λ q. has_reserved q.programme.content ≡ false → Valid (tables q.programme q.known))
unfolding object_audio_metadata_payload trim_of
payload-ensures =
    e-bind _ _ _ (e-then _ _ _ header-ensures λ head v.
    e-bind _ _ _ (e-any _ _ λ n.
    e-bind _ _ _ (e-then _ _ _ (elements_ensure head.programme head.alternate n (record { known = nothing; unknown = 0 })
    (tt, no-trim_valid head.programme.objects)) λ st k.
    e-give _ _ (λ clear. tables-valid head.programme st.known.object st.known.trim st.known.extended (v clear) k.0 k.1))))

-- ---- the statement

-- whatever bytes are read as a payload
pub accepted-valid : (s : List ℕ) (q : Payload) (to : ℕ) → run object_audio_metadata_payload (bit s) 0 (8 * length s) past_payload ≡ ok q to
    → has_reserved q.programme.content ≡ false → Valid (tables q.programme q.known)
accepted-valid s q to h clear = ensured object_audio_metadata_payload _ payload-ensures (bit s) (bit_lt s) 0 (8 * length s) past_payload h clear
