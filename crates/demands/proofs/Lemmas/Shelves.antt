-- The entries of a shelf, each in its slots and its place, whatever stands before and behind them.
use Rattle.std.specs.Prelude.{◌≡◌, get_or, take, drop}
use Rattle.std.proofs.Math.Path.{refl, sym, ap}
use Rattle.std.proofs.Common.{◌∙◌, ⊎_elim, zero-mul, suc-mul, add_comm, arith, length-drop, length-append, take-append-drop, drop_at, drop-drop, le-leb}
use mathlib.Core.List.{List, [], ◌∷◌, ◌++◌}
use Prim.Native.Nat.{ℕ, zero, suc, ◌+◌, ◌*◌, ◌≤◌, ◌<◌}
use Rattle.std.proofs.Math.ListN.{length}
use Rattle.std.proofs.Math.Seq.{take_at, length-take-le}
use Rattle.std.proofs.lemmas.Bool.{lt-leb}
use Rattle.bits.specs.declared.Refusal.TheVariants.{Outside}
use Rattle.bits.specs.Refusals.{number_of}
use Rattle.bits.specs.Steps.{by_order}
use Rattle.oamd.specs.Tables.{answer_bytes}
use Rattle.oamd.specs.Lengths.{length-answer}
use Rattle.oamd.specs.Answer.{Outcome, refused, reading}
use Rattle.oamd.specs.Batch.{answer_bytes_of, entry, Shelf, shelved}
use Rattle.demands.specs.Promises.{Fronts, slot}
use Rattle.demands.specs.Answers.{answers}
use Rattle.demands.specs.Lemmas.Arrays.{arrays}

-- ---- an entry

module _ (frame : ℕ) (store : List ℕ) (start len : ℕ) (records trim : List ℕ) where
  pub inside_is : start + len ≤ length store → entry frame store start len records trim ≡ reading frame (take len (drop start store)) records trim
  unfolding entry
  inside_is h = rw (le-leb (start + len) (length store) h) refl

  pub outside_is : length store < start + len → entry frame store start len records trim ≡ refused records trim (number_of Outside) start 0
  unfolding entry
  outside_is h = rw (lt-leb (start + len) (length store) h) refl

-- a read leaves its buffers as long as they came
fronts_long : {n : ℕ} {these before after : List ℕ} → Fronts n these before after → length after ≡ length before
fronts_long {n} {these} {before} {after} f =
    let a = ap length (sym (take-append-drop n after)) ∙ length-append (take n after) (drop n after) in
    let t = ap length f.front in
    let d = ap length f.rest in
    omega (arith, a, t, d, f.long, f.fits, length-drop n before)

pub record Kept (slots trims : List ℕ) (o : Outcome) : Type 0 where
  pub records : length o.buffer ≡ length slots
  pub trim : length o.trim ≡ length trims
  pub answer : length (answer_bytes_of o.answer) ≡ answer_bytes

reading-keeps : (frame : ℕ) (s records trim : List ℕ) → Kept records trim (reading frame s records trim)
reading-keeps frame s records trim =
    let a = arrays frame s records trim in
    let long = length-answer (reading frame s records trim).answer a.nine a.eight in
    ⊎_elim
    (λ x. record { records = fronts_long x.recorded; trim = fronts_long x.trimmed; answer = long })
    (λ x. record { records = ap (λ (o : Outcome). length o.buffer) x.outcome; trim = ap (λ (o : Outcome). length o.trim) x.outcome; answer = long })
    (answers frame s records trim)

pub entry-keeps : (frame : ℕ) (store : List ℕ) (start len : ℕ) (records trim : List ℕ) → Kept records trim (entry frame store start len records trim)
entry-keeps frame store start len records trim = by_order (start + len) (length store)
    (λ h. rw (inside_is frame store start len records trim h) (reading-keeps frame (take len (drop start store)) records trim))
    (λ h. rw (outside_is frame store start len records trim h)
    (record { records = refl; trim = refl; answer = length-answer (refused records trim (number_of Outside) start 0).answer refl refl }))

-- ---- slots

slot_first : (size : ℕ) (s : List ℕ) → slot size 0 s ≡ take size s
slot_first size s = ap (λ (n : ℕ). take size (drop n s)) (zero-mul size)

-- the next slot is the same one of what is left
pub slot_next : (size i : ℕ) (s : List ℕ) → slot size (suc i) s ≡ slot size i (drop size s)
slot_next size i s =
    ap (λ (n : ℕ). take size (drop n s)) (suc-mul i size ∙ add_comm (i * size) size) ∙ ap (take size) (sym (drop-drop (i * size) size s))

pub slot-behind : (size i : ℕ) (y s : List ℕ) → length y ≡ size → slot size (suc i) (y ++ s) ≡ slot size i s
slot-behind size i y s e = slot_next size i (y ++ s) ∙ ap (slot size i) (drop_at y s size e)

drop_next : (size n : ℕ) (s : List ℕ) → drop (suc n * size) s ≡ drop (n * size) (drop size s)
drop_next size n s = ap (λ (k : ℕ). drop k s) (suc-mul n size ∙ add_comm (n * size) size) ∙ sym (drop-drop (n * size) size s)

drop-behind : (size n : ℕ) (y s : List ℕ) → length y ≡ size → drop (suc n * size) (y ++ s) ≡ drop (n * size) s
drop-behind size n y s e = drop_next size n (y ++ s) ∙ ap (drop (n * size)) (drop_at y s size e)

-- one slot, and room for the others behind it
first_fits : (n size : ℕ) (s : List ℕ) → suc n * size ≤ length s → size ≤ length s
first_fits n size s h = let e = suc-mul n size in omega arith

rest_fits : (n size : ℕ) (s : List ℕ) → suc n * size ≤ length s → n * size ≤ length (drop size s)
rest_fits n size s h = let e = suc-mul n size in omega (arith, length-drop size s)

-- ---- the shelf

module _ (store : List ℕ) (recordslot trimslot : ℕ) where
  -- room for n entries
  pub record Room (n : ℕ) (x : Shelf) : Type 0 where
    pub records : n * recordslot ≤ length x.records
    pub trims : n * trimslot ≤ length x.trims
    pub places : n * answer_bytes ≤ length x.answers

  -- entry i of these lists, in its slots as they came
  abbrev pub ith : List ℕ → List ℕ → List ℕ → Shelf → ℕ → Outcome
  ith starts lengths frames x i =
      entry (get_or frames i 0) store (get_or starts i 0) (get_or lengths i 0) (slot recordslot i x.records) (slot trimslot i x.trims)

  pub record Ith (o : Outcome) (i : ℕ) (y : Shelf) : Type 0 where
    pub place : slot answer_bytes i y.answers ≡ answer_bytes_of o.answer
    pub records : slot recordslot i y.records ≡ o.buffer
    pub trim : slot trimslot i y.trims ≡ o.trim

  -- what is left of the shelf behind one entry
  abbrev tail : Shelf → Shelf
  tail x = record { records = drop recordslot x.records; trims = drop trimslot x.trims; answers = drop answer_bytes x.answers }

  tail-room : (n : ℕ) (x : Shelf) → Room (suc n) x → Room n (tail x)
  tail-room n x r = record {
    records = rest_fits n recordslot x.records r.records;
    trims = rest_fits n trimslot x.trims r.trims;
    places = rest_fits n answer_bytes x.answers r.places;
  }

  -- the first entry, and how long it leaves its slots and its place
  first-kept : (frame start len n : ℕ) (x : Shelf) → Room (suc n) x
      → Kept (take recordslot x.records) (take trimslot x.trims) (entry frame store start len (take recordslot x.records) (take trimslot x.trims))
  first-kept frame start len n x r = entry-keeps frame store start len (take recordslot x.records) (take trimslot x.trims)

  pub entry-stands : (starts lengths frames : List ℕ) (x : Shelf) (i : ℕ) → length lengths ≡ length starts → length frames ≡ length starts → Room (length starts) x → i < length starts
      → Ith (ith starts lengths frames x i) i (shelved store starts lengths frames recordslot trimslot x)
  unfolding shelved
  entry-stands [] lengths frames x i e g r h = absurd (omega arith)
  entry-stands (a ∷ starts) [] frames x i e g r h = absurd (omega arith)
  entry-stands (a ∷ starts) (l ∷ lengths) [] x i e g r h = absurd (omega arith)
  entry-stands (a ∷ starts) (l ∷ lengths) (f ∷ frames) x zero e g r h =
      let o : Outcome = entry f store a l (take recordslot x.records) (take trimslot x.trims) in
      let k = first-kept f a l (length starts) x r in
      let rs = length-take-le recordslot x.records (first_fits (length starts) recordslot x.records r.records) in
      let ts = length-take-le trimslot x.trims (first_fits (length starts) trimslot x.trims r.trims) in
      let behind : Shelf = shelved store starts lengths frames recordslot trimslot (tail x) in
      let same : o ≡ ith (a ∷ starts) (l ∷ lengths) (f ∷ frames) x zero =
      (λ j. entry f store a l (sym (slot_first recordslot x.records) j) (sym (slot_first trimslot x.trims) j)) in
      record {
        place = take_at (answer_bytes_of o.answer) behind.answers answer_bytes k.answer ∙ ap (λ (z : Outcome). answer_bytes_of z.answer) same;
        records = slot_first recordslot _ ∙ take_at o.buffer behind.records recordslot (k.records ∙ rs) ∙ ap (λ (z : Outcome). z.buffer) same;
        trim = slot_first trimslot _ ∙ take_at o.trim behind.trims trimslot (k.trim ∙ ts) ∙ ap (λ (z : Outcome). z.trim) same;
      }
  entry-stands (a ∷ starts) (l ∷ lengths) (f ∷ frames) x (suc i) e g r h =
      let o : Outcome = entry f store a l (take recordslot x.records) (take trimslot x.trims) in
      let k = first-kept f a l (length starts) x r in
      let rs = length-take-le recordslot x.records (first_fits (length starts) recordslot x.records r.records) in
      let ts = length-take-le trimslot x.trims (first_fits (length starts) trimslot x.trims r.trims) in
      let behind : Shelf = shelved store starts lengths frames recordslot trimslot (tail x) in
      let same : ith starts lengths frames (tail x) i ≡ ith (a ∷ starts) (l ∷ lengths) (f ∷ frames) x (suc i) =
      (λ j. entry (get_or frames i 0) store (get_or starts i 0) (get_or lengths i 0) (sym (slot_next recordslot i x.records) j) (sym (slot_next trimslot i x.trims) j)) in
      let there = entry-stands starts lengths frames (tail x) i (omega arith) (omega arith) (tail-room (length starts) x r) (omega arith) in
      record {
        place = slot-behind answer_bytes i (answer_bytes_of o.answer) behind.answers k.answer ∙ there.place ∙ ap (λ (z : Outcome). answer_bytes_of z.answer) same;
        records = slot-behind recordslot i o.buffer behind.records (k.records ∙ rs) ∙ there.records ∙ ap (λ (z : Outcome). z.buffer) same;
        trim = slot-behind trimslot i o.trim behind.trims (k.trim ∙ ts) ∙ there.trim ∙ ap (λ (z : Outcome). z.trim) same;
      }

  -- behind the last of n entries
  pub record Rests (n : ℕ) (x y : Shelf) : Type 0 where
    pub records : drop (n * recordslot) y.records ≡ drop (n * recordslot) x.records
    pub trims : drop (n * trimslot) y.trims ≡ drop (n * trimslot) x.trims
    pub answers : drop (n * answer_bytes) y.answers ≡ drop (n * answer_bytes) x.answers

  pub rest-stays : (starts lengths frames : List ℕ) (x : Shelf) → length lengths ≡ length starts → length frames ≡ length starts → Room (length starts) x
      → Rests (length starts) x (shelved store starts lengths frames recordslot trimslot x)
  unfolding shelved
  rest-stays [] lengths frames x e g r = record { records = refl; trims = refl; answers = refl }
  rest-stays (a ∷ starts) [] frames x e g r = absurd (omega arith)
  rest-stays (a ∷ starts) (l ∷ lengths) [] x e g r = absurd (omega arith)
  rest-stays (a ∷ starts) (l ∷ lengths) (f ∷ frames) x e g r =
      let o : Outcome = entry f store a l (take recordslot x.records) (take trimslot x.trims) in
      let n : ℕ = length starts in
      let k = first-kept f a l n x r in
      let rs = length-take-le recordslot x.records (first_fits n recordslot x.records r.records) in
      let ts = length-take-le trimslot x.trims (first_fits n trimslot x.trims r.trims) in
      let behind : Shelf = shelved store starts lengths frames recordslot trimslot (tail x) in
      let there = rest-stays starts lengths frames (tail x) (omega arith) (omega arith) (tail-room n x r) in
      record {
        records = drop-behind recordslot n o.buffer behind.records (k.records ∙ rs) ∙ there.records ∙ sym (drop_next recordslot n x.records);
        trims = drop-behind trimslot n o.trim behind.trims (k.trim ∙ ts) ∙ there.trims ∙ sym (drop_next trimslot n x.trims);
        answers = drop-behind answer_bytes n (answer_bytes_of o.answer) behind.answers k.answer ∙ there.answers ∙ sym (drop_next answer_bytes n x.answers);
      }
