-- The summary from what a batch leaves: counted from its places and slots, it is the same, whatever the frames and whatever stood in the slots.
use Rattle.std.specs.Prelude.{◌≡◌, refl, Bool, true, false, List, [], ◌∷◌, ◌++◌, map, ℕ, zero, suc, ◌+◌, ◌*◌, ◌≤◌, ◌<◌, eqb, length, get_or, drop}
use Rattle.std.proofs.Math.Path.{sym, subst}
use Rattle.std.proofs.Common.{ap, ap₂, ◌∙◌, suc-mul, mul-le-mul_right, arith, length-drop, length-take-le}
use Rattle.std.proofs.lemmas.List.{length-replicate}
use Rattle.bits.specs.Language.{pick, from}
use Rattle.oamd.specs.declared.ReadAnswer.{ReadAnswer}
use Rattle.oamd.specs.Tables.{record_bytes, room_bytes, most_trim, answer_bytes}
use Rattle.oamd.specs.Answer.{Outcome}
use Rattle.oamd.specs.Batch.{answer_at}
use Rattle.demands.specs.Promises.{Call, batched, Roomy, slot, start_of, length_of, frame_of, entry_of, InTypes}
use Rattle.demands.proofs.Batch.{batch-entry, place-says}
use Rattle.summary.specs.Summary.{tallies, total, joined, zeros, alone, outcomes, refusal_of, accepted_of, records_of, column, used_updates, updates_of, is_late, ramp_length, summary_of}
use Rattle.roundtrip.specs.Entries.{Alike, entry-alike}
use Rattle.summary.specs.Entries.{column-alike}
use Rattle.summary.specs.More.{column_long}

-- ---- lists of outcomes that are alike

pub data AllAlike : List Outcome → List Outcome → Type 0 where
  none : AllAlike [] []
  more : {o o' : Outcome} {os os' : List Outcome} → Alike o o' → AllAlike os os' → AllAlike (o ∷ os) (o' ∷ os')

-- whatever is the same for those that are alike
joined-alike : {B : Type 0} (f : Outcome → List B) → ((o o' : Outcome) → Alike o o' → f o' ≡ f o) → {os os' : List Outcome} → AllAlike os os'
    → joined f (accepted_of os') ≡ joined f (accepted_of os)
unfolding joined accepted_of
joined-alike f h none = refl
joined-alike {B} f h (more {o} {o'} {os} {os'} a rest) =
    ap (λ (n : ℕ). joined f (pick (eqb n 0) (o' ∷ accepted_of os') (accepted_of os'))) (ap (λ (x : ReadAnswer). x.refusal) a.answer)
    ∙ go (eqb (refusal_of o) 0) (joined-alike f h rest)
  where
    go : (t : Bool) → joined f (accepted_of os') ≡ joined f (accepted_of os)
        → joined f (pick t (o' ∷ accepted_of os') (accepted_of os')) ≡ joined f (pick t (o ∷ accepted_of os) (accepted_of os))
    go true e = ap₂ (λ (x y : List B). x ++ y) (h o o' a) e
    go false e = e

refusals-alike : {os os' : List Outcome} → AllAlike os os' → map refusal_of os' ≡ map refusal_of os
refusals-alike none = refl
refusals-alike (more a rest) = ap₂ (λ (x : ℕ) (xs : List ℕ). x ∷ xs) (ap (λ (x : ReadAnswer). x.refusal) a.answer) (refusals-alike rest)

summary-alike : {os os' : List Outcome} → AllAlike os os' → summary_of os' ≡ summary_of os
unfolding summary_of
summary-alike {os} {os'} all =
    let columns : (k : ℕ) → k < record_bytes → joined (column k) (accepted_of os') ≡ joined (column k) (accepted_of os) =
    λ k l. joined-alike (column k) (λ o o' a. column-alike o o' k l a) all in
    let updates : joined updates_of (accepted_of os') ≡ joined updates_of (accepted_of os) = joined-alike updates_of (λ o o' a. ap (λ (x : ReadAnswer). used_updates x.timing) a.answer) all in
    let gains = columns 2 (omega arith) in
    let zones = columns 11 (omega arith) in
    let classes = columns 1 (omega arith) in
    let activity = columns 0 (omega arith) in
    let many : total records_of (accepted_of os') ≡ total records_of (accepted_of os) = sym (column_long 0 (accepted_of os')) ∙ ap length activity ∙ column_long 0 (accepted_of os) in
    let refusals = refusals-alike all in
    λ j. record {
      place = 0;
      refusal = 0;
      records = many j;
      gains = tallies 66 (gains j);
      zones = tallies 6 (zones j);
      classes = tallies 3 (classes j);
      activity = tallies 2 (activity j);
      late = total is_late (updates j);
      ramps = total ramp_length (updates j);
      payloads = tallies 13 (refusals j);
    }

-- ---- the entries by their number

map-shift : {A : Type 0} (f : ℕ → A) (i n : ℕ) → map f (from (suc i) n) ≡ map (λ j. f (suc j)) (from i n)
unfolding from
map-shift f i zero = refl
map-shift f i (suc n) = ap (λ l. f (suc i) ∷ l) (map-shift f (suc i) n)

outcomes_by : (store starts lengths : List ℕ) → length lengths ≡ length starts
    → map (λ i. alone store (get_or starts i 0) (get_or lengths i 0)) (from 0 (length starts)) ≡ outcomes store starts lengths
unfolding outcomes from
outcomes_by store [] lengths e = refl
outcomes_by store (start ∷ starts) [] e = absurd (omega arith)
outcomes_by store (start ∷ starts) (len ∷ lengths) e =
    ap (λ l. alone store start len ∷ l)
    (map-shift (λ i. alone store (get_or (start ∷ starts) i 0) (get_or (len ∷ lengths) i 0)) 0 (length starts) ∙ outcomes_by store starts lengths (omega arith))

each-alike : (f g : ℕ → Outcome) (i n : ℕ) → ((j : ℕ) → j < i + n → Alike (f j) (g j)) → AllAlike (map f (from i n)) (map g (from i n))
unfolding from
each-alike f g i zero h = none
each-alike f g i (suc n) h = more (h i (omega arith)) (each-alike f g (suc i) n (λ j l. h j (omega arith)))

-- ---- a batch

-- what its place i says, and what its slots i hold, afterwards
abbrev pub placed : Call → ℕ → Outcome
placed c i = record {
  answer = answer_at (slot answer_bytes i (batched c).shelf.answers) 0;
  buffer = slot c.recordslot i (batched c).shelf.records;
  trim = slot c.trimslot i (batched c).shelf.trims;
}

slot_long : (size i n : ℕ) (s : List ℕ) → i < n → n * size ≤ length s → length (slot size i s) ≡ size
slot_long size i n s l h =
    let m : suc i * size ≤ n * size = mul-le-mul_right size l in
    let e = suc-mul i size in
    length-take-le size (drop (i * size) s) (omega (arith, length-drop (i * size) s))

module _ (c : Call) (roomy : Roomy c) (records : c.recordslot ≡ room_bytes) (trims : c.trimslot ≡ most_trim) (typed : (i : ℕ) → i < length c.starts → InTypes (entry_of c i).answer) where
  placed_is : (i : ℕ) → i < length c.starts → placed c i ≡ entry_of c i
  placed_is i l =
      let h = batch-entry c i roomy l in
      let says = place-says c i roomy l (typed i l) in
      λ j. record { answer = says j; buffer = h.records j; trim = h.trim j }

  placed_alike : (i : ℕ) → i < length c.starts → Alike (alone c.store (start_of c i) (length_of c i)) (placed c i)
  unfolding zeros
  placed_alike i l =
      subst (Alike (alone c.store (start_of c i) (length_of c i))) (sym (placed_is i l))
      (entry-alike 0 (frame_of c i) c.store (start_of c i) (length_of c i) (zeros room_bytes) (zeros most_trim) (slot c.recordslot i c.shelf.records) (slot c.trimslot i c.shelf.trims)
      (slot_long c.recordslot i (length c.starts) c.shelf.records l roomy.records ∙ records ∙ sym (length-replicate {A = ℕ} room_bytes 0))
      (slot_long c.trimslot i (length c.starts) c.shelf.trims l roomy.trims ∙ trims ∙ sym (length-replicate {A = ℕ} most_trim 0)))

  -- Of a batch that is not refused, with slots of 40,960 and of 253 bytes: what is counted from its places and its slots is the summary of the same store and lists.
  pub summary_of-batch : summary_of (map (placed c) (from 0 (length c.starts))) ≡ summary_of (outcomes c.store c.starts c.lengths)
  summary_of-batch =
      summary-alike (each-alike (λ i. alone c.store (start_of c i) (length_of c i)) (placed c) 0 (length c.starts) (λ i l. placed_alike i (omega arith)))
      ∙ ap summary_of (outcomes_by c.store c.starts c.lengths roomy.lists)
