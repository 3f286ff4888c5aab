-- An entry of a shelf: what it comes to goes neither by its frame nor by what stood in its room, but for the times, and all of it is in its range.
use Rattle.std.specs.Prelude.{◌≡◌, refl, Bool, true, false, List, ◌⊎◌, ℕ, ◌+◌, ◌*◌, ◌≤◌, ◌<◌, length, get_or, take, drop}
use Rattle.std.proofs.Common.{sym, ap, ◌∙◌, inl, inr, arith}
use Rattle.std.proofs.Math.Path.{subst₂}
use Rattle.std.proofs.Math.ListN.{get_or-append}
use Rattle.std.proofs.lemmas.List.{get_or-replicate}
use Rattle.bits.specs.declared.Refusal.TheVariants.{TooLong, Outside}
use Rattle.bits.specs.Refusals.{number_of}
use Rattle.bits.specs.Language.{bit, past_payload}
use Rattle.bits.specs.Steps.{by_order}
use Rattle.oamd.specs.Tables.{most_objects, most_blocks, record_bytes, record_stride, room_bytes, most_trim}
use Rattle.oamd.specs.declared.ReadAnswer.{ReadAnswer}
use Rattle.oamd.specs.Timing.{no_update}
use Rattle.oamd.specs.Record.{onto}
use Rattle.oamd.specs.Answer.{Outcome, refused, laid_records, reading}
use Rattle.oamd.specs.Batch.{entry}
use Rattle.demands.specs.Terms.{tables_of}
use Rattle.demands.specs.Conditions.{Short, records-short, trim-short}
use Rattle.demands.specs.Numbers.{numbers, roomy}
use Rattle.demands.specs.Promises.{BlocksBy}
use Rattle.demands.specs.Time.{frame-aside}
use Rattle.demands.specs.Lemmas.Reading.{Case, long, stopped, full, read, case, reading_ok, reading_no, reading_long, housed_fits, housed-lacks, refusal-of}
use Rattle.demands.specs.Lemmas.Records.{length-needed}
use Rattle.demands.proofs.Lemmas.Shelves.{inside_is, outside_is}
use Rattle.roundtrip.specs.Promises.{ReadInRange}
use Rattle.roundtrip.specs.Ranges.{read-in_range}

-- ---- neither the frame nor the room

-- the records that an answer speaks of
abbrev pub records_in : ReadAnswer → ℕ
records_in a = a.programme.objects * a.timing.blocks

abbrev pub records_of : Outcome → ℕ
records_of o = records_in o.answer

-- the same answer, and the same bytes of each record but those of its time
pub record Alike (o o' : Outcome) : Type 0 where
  pub answer : o'.answer ≡ o.answer
  pub bytes : (i k : ℕ) → i < records_of o → k < record_bytes → get_or o'.buffer (record_stride * i + k) 0 ≡ get_or o.buffer (record_stride * i + k) 0

abbrev none_laid : (records trim records' trim' : List ℕ) (number place missing : ℕ)
    → Alike (refused records trim number place missing) (refused records' trim' number place missing)
none_laid records trim records' trim' number place missing = record { answer = refl; bytes = λ i k l m. absurd (omega arith) }

module _ (f g : ℕ) (s records trim records' trim' : List ℕ) (Long-as : length records' ≡ length records) (trim-long-as : length trim' ≡ length trim) where
  by-room : Alike (reading g s records trim) (reading g s records' trim')
  unfolding onto
  by-room = go (case g s records trim)
    where
      none : {number place missing : ℕ} → reading g s records trim ≡ refused records trim number place missing
          → reading g s records' trim' ≡ refused records' trim' number place missing → Alike (reading g s records trim) (reading g s records' trim')
      none {number} {place} {missing} e e' = subst₂ Alike (sym e) (sym e') (none_laid records trim records' trim' number place missing)

      as_short : (n table place : ℕ) → Short records trim n table place → Short records' trim' n table place
      as_short n table place (records-short l e) = records-short (omega arith) e
      as_short n table place (trim-short l m e) = trim-short (omega arith) (omega arith) e

      go : Case g s records trim → Alike (reading g s records trim) (reading g s records' trim')
      go (long l e) = none e (reading_long g s records' trim' l)
      go (stopped r pl m l h two eight e) = none e (reading_no g s records' trim' l h)
      go (full q to pl l h x e) =
          none e (reading_ok g s records' trim' l h ∙ housed-lacks g records' trim' (tables_of q) q.unknown pl (as_short _ _ pl x))
      go (read q to l h room room' e) =
          let t = tables_of q in
          let laid : List ℕ = laid_records g t in
          let n = length-needed g (bit s) 0 (8 * length s) past_payload h in
          subst₂ Alike (sym e) (sym (reading_ok g s records' trim' l h ∙ housed_fits g records' trim' t q.unknown (omega arith) (omega arith)))
          (record {
            answer = refl;
            bytes = λ i k m j.
                get_or-append laid (drop (length laid) records') 0 (record_stride * i + k) (omega arith)
                ∙ sym (get_or-append laid (drop (length laid) records) 0 (record_stride * i + k) (omega arith));
          })

  reading-alike : Alike (reading f s records trim) (reading g s records' trim')
  reading-alike =
      let a = frame-aside f g s records trim in
      let b = by-room in
      record {
        answer = b.answer ∙ a.answer;
        bytes = λ i k l m.
            let many = ap records_in a.answer in
            b.bytes i k (omega arith) m ∙ a.bytes (record_stride * i + k) (λ t. omega (arith, t.behind));
      }

module _ (f g : ℕ) (store : List ℕ) (start len : ℕ) (records trim records' trim' : List ℕ) where
  pub entry-alike : length records' ≡ length records → length trim' ≡ length trim
      → Alike (entry f store start len records trim) (entry g store start len records' trim')
  entry-alike Long-as trim-long-as = by_order (start + len) (length store)
      (λ h. subst₂ Alike (sym (inside_is f store start len records trim h)) (sym (inside_is g store start len records' trim' h))
      (reading-alike f g (take len (drop start store)) records trim records' trim' Long-as trim-long-as))
      (λ h. subst₂ Alike (sym (outside_is f store start len records trim h)) (sym (outside_is g store start len records' trim' h))
      (none_laid records trim records' trim' (number_of Outside) start 0))

-- ---- ranges

-- an entry that is read with room for every payload
pub record EntryInRange (o : Outcome) : Type 0 where
  pub nothing : (o.answer.refusal ≡ 0 → ⊥) → (o.answer.programme.objects ≡ 0) × (o.answer.timing.blocks ≡ 0)
  pub number : (o.answer.refusal ≤ 8) ⊎ (o.answer.refusal ≡ 12)
  pub some : o.answer.refusal ≡ 0 → 1 ≤ o.answer.programme.objects
  pub objects : o.answer.programme.objects ≤ most_objects
  pub blocks : o.answer.timing.blocks ≤ most_blocks
  pub eight : length o.answer.timing.updates ≡ most_blocks
  pub unused : (i : ℕ) → o.answer.timing.blocks ≤ i → i < most_blocks → get_or o.answer.timing.updates i no_update ≡ no_update
  pub accepted : o.answer.refusal ≡ 0 → ReadInRange o

refused-in_range : (records trim : List ℕ) (number place missing : ℕ) → (number ≤ 8) ⊎ (number ≡ 12) → (number ≡ 0 → ⊥)
    → EntryInRange (refused records trim number place missing)
refused-in_range records trim number place missing h some = record {
  nothing = λ z. (refl, refl);
  number = h;
  some = λ z. absurd (some z);
  objects = omega arith;
  blocks = omega arith;
  eight = refl;
  unused = λ i l m. get_or-replicate most_blocks i no_update no_update m;
  accepted = λ z. absurd (some z);
}

pub blocks-few : {object : Bool} {blocks : ℕ} → BlocksBy object blocks → blocks ≤ 8
blocks-few {object = true} h = (h.with refl).1
blocks-few {object = false} h = let e = h.without refl in omega arith

module _ (frame : ℕ) (s records trim : List ℕ) (room : room_bytes ≤ length records) (trim-room : most_trim ≤ length trim) where
  reading-entry : EntryInRange (reading frame s records trim)
  reading-entry = go (case frame s records trim)
    where
      go : Case frame s records trim → EntryInRange (reading frame s records trim)
      go (long l e) = rw e (refused-in_range records trim (number_of TooLong) _ _ (inl (omega arith)) (λ z. omega (arith, z)))
      go (stopped r pl m l h two eight e) = rw e (refused-in_range records trim r _ _ (inl (omega arith)) (λ z. omega (arith, z)))
      go (full q to pl l h x e) = absurd (roomy frame s records trim room trim-room (refusal-of e))
      go (read q to l h f g e) =
          let zero : (reading frame s records trim).answer.refusal ≡ 0 = ap (λ (o : Outcome). o.answer.refusal) e in
          let n = numbers frame s records trim zero in
          let r = read-in_range frame s records trim zero in
          let few = n.3.objects.1 in
          record {
            nothing = λ z. absurd (z zero);
            number = inl (omega arith);
            some = λ z. n.3.objects.0;
            objects = few;
            blocks = blocks-few n.3.blocks;
            eight = r.updates.eight;
            unused = r.updates.unused;
            accepted = λ z. r;
          }

pub entry-in_range : (frame : ℕ) (store : List ℕ) (start len : ℕ) (records trim : List ℕ) → room_bytes ≤ length records → most_trim ≤ length trim
    → EntryInRange (entry frame store start len records trim)
entry-in_range frame store start len records trim room trim-room = by_order (start + len) (length store)
    (λ h. rw (inside_is frame store start len records trim h) (reading-entry frame (take len (drop start store)) records trim room trim-room))
    (λ h. rw (outside_is frame store start len records trim h) (refused-in_range records trim (number_of Outside) start 0 (inr refl) (λ z. omega (arith, z))))
