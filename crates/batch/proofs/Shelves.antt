-- One turn of a batch: what is done, and what is to come of the rest, is the whole. Assumes nothing.
use mathlib.Core.Path.{◌≡◌, refl, sym, ap, ◌∙◌, subst}
use mathlib.Core.List.{List, [], ◌++◌, append_assoc}
use Prim.Native.Nat.{ℕ, ◌+◌, ◌-◌, ◌*◌, ◌≤◌, ◌<◌}
use native.Mathlib.Nat.{suc-mul, zero-mul, mul-le-mul_right}
use native.Mathlib.Numerals.{add-one}
use native.Mathlib.Omega.{arith}
use lib.ListN.{length, get_or, take, drop, length-drop, length-append, take-append-drop}
use lib.Seq.{drop-cons, take_at, drop_at, length-take-le, drop-length}
use Rattle.oamd.specs.declared.ReadAnswer.{ReadAnswer}
use Rattle.oamd.specs.Tables.{answer_bytes}
use Rattle.oamd.specs.Batch.{answer_bytes_of, entry, Shelf, in_front, shelved}
use Rattle.batch.proofs.Outcomes.{outcome}

abbrev shelf : List ℕ → List ℕ → List ℕ → Shelf
shelf records trims answers = record { records = records; trims = trims; answers = answers }

-- bytes in front of each of the three
abbrev before : List ℕ → List ℕ → List ℕ → Shelf → Shelf
before records trims answers x = shelf (records ++ x.records) (trims ++ x.trims) (answers ++ x.answers)

-- the bytes from a byte on, up to so many behind it
pub part_long : (at size : ℕ) → at + size - at ≡ size
part_long at size = omega arith

-- slot i of n lies within them
pub slot_fits : (i n size : ℕ) → i < n → i * size + size ≤ n * size
slot_fits i n size h = subst (λ (x : ℕ). x ≤ n * size) (suc-mul i size) (mul-le-mul_right size h)

pub next-slot : (i size : ℕ) → i * size + size ≡ (i + 1) * size
next-slot i size = sym (ap (λ (k : ℕ). k * size) (add-one i) ∙ suc-mul i size)

-- the part y in place of the size bytes at at
abbrev pasted : List ℕ → ℕ → ℕ → List ℕ → List ℕ
pasted s at size y = take at s ++ (y ++ drop size (drop at s))

module _ (s y : List ℕ) (at size : ℕ) (fits : at + size ≤ length s) (long : length y ≡ size) where
  grouped : pasted s at size y ≡ (take at s ++ y) ++ drop size (drop at s)
  grouped = sym (append_assoc (take at s) y (drop size (drop at s)))

  so_far : length (take at s ++ y) ≡ at + size
  so_far = omega (arith, length-append (take at s) y, length-take-le at s (omega arith))

  take-pasted : take (at + size) (pasted s at size y) ≡ take at s ++ y
  take-pasted = ap (take (at + size)) grouped ∙ take_at (take at s ++ y) (drop size (drop at s)) (at + size) so_far

  drop-pasted : drop (at + size) (pasted s at size y) ≡ drop size (drop at s)
  drop-pasted = ap (drop (at + size)) grouped ∙ drop_at (take at s ++ y) (drop size (drop at s)) (at + size) so_far

  length-pasted : length (pasted s at size y) ≡ length s
  length-pasted =
      omega (
        arith,
        length-append (take at s) (y ++ drop size (drop at s)),
        length-append y (drop size (drop at s)),
        length-take-le at s (omega arith),
        length-drop size (drop at s),
        length-drop at s,
      )

module _ (store starts lengths frames : List ℕ) (recordslot trimslot : ℕ) (x₀ : Shelf) where
  -- what is left from entry i on
  abbrev left : ℕ → Shelf → Shelf
  left i x = shelved store (drop i starts) (drop i lengths) (drop i frames) recordslot trimslot x

  -- before entry i: its slots and its place begin at these bytes, and what is done with what is left makes the whole
  pub record Done (x : Shelf) (slot trim place i : ℕ) : Type 0 where
    pub within : i ≤ length starts
    pub at_slot : slot ≡ i * recordslot
    pub at-trim : trim ≡ i * trimslot
    pub at_place : place ≡ i * answer_bytes
    pub records-kept : length x.records ≡ length x₀.records
    pub trims-kept : length x.trims ≡ length x₀.trims
    pub answers-kept : length x.answers ≡ length x₀.answers
    pub all :
        before (take slot x.records) (take trim x.trims) (take place x.answers)
        (left i (shelf (drop slot x.records) (drop trim x.trims) (drop place x.answers)))
        ≡ shelved store starts lengths frames recordslot trimslot x₀

  pub begun : Done x₀ 0 0 0 0
  begun = record {
    within = omega arith;
    at_slot = sym (zero-mul recordslot);
    at-trim = sym (zero-mul trimslot);
    at_place = refl;
    records-kept = refl;
    trims-kept = refl;
    answers-kept = refl;
    all = refl;
  }

  module _ {records trims answers : List ℕ} {slot trim place i : ℕ} (d : Done (shelf records trims answers) slot trim place i)
      (lists : length lengths ≡ length starts) (numbered : length frames ≡ length starts) (h : i < length starts) where
    step : (x : Shelf) → left i x
        ≡ in_front (entry (get_or frames i 0) store (get_or starts i 0) (get_or lengths i 0) (take recordslot x.records) (take trimslot x.trims))
        (left (i + 1) (shelf (drop recordslot x.records) (drop trimslot x.trims) (drop answer_bytes x.answers)))
    unfolding shelved
    step x =
        let g : i < length lengths = omega arith in
        let k : i < length frames = omega arith in
        rw (add-one, drop-cons starts i 0, drop-cons lengths i 0, drop-cons frames i 0)

    -- the next entry has been read into its slots, and its answer laid into its place
    pub turn : {a : ReadAnswer} {r t p : List ℕ} {k m n : ℕ} → slot + recordslot ≤ length records → trim + trimslot ≤ length trims
        → place + answer_bytes ≤ length answers → k ≡ recordslot → m ≡ trimslot → n ≡ answer_bytes
        → length r ≡ length (take k (drop slot records)) → length t ≡ length (take m (drop trim trims)) → length p ≡ answer_bytes
        → outcome a r t ≡ entry (get_or frames i 0) store (get_or starts i 0) (get_or lengths i 0) (take k (drop slot records)) (take m (drop trim trims)) → p ≡ answer_bytes_of a
        → Done (shelf (pasted records slot k r) (pasted trims trim m t) (pasted answers place n p)) (slot + recordslot) (trim + trimslot) (place + answer_bytes) (i + 1)
    turn {a} {r} {t} {p} {k} {m} {n} fit-r fit-t fit-p ek em en lr lt lp o page =
        let r-long : length r ≡ recordslot =
        lr ∙ ap (λ (z : ℕ). length (take z (drop slot records))) ek ∙ length-take-le recordslot (drop slot records) (omega (arith, length-drop slot records)) in
        let t-long : length t ≡ trimslot =
        lt ∙ ap (λ (z : ℕ). length (take z (drop trim trims))) em ∙ length-take-le trimslot (drop trim trims) (omega (arith, length-drop trim trims)) in
        let read : outcome a r t ≡ entry (get_or frames i 0) store (get_or starts i 0) (get_or lengths i 0) (take recordslot (drop slot records)) (take trimslot (drop trim trims)) =
        o ∙ (λ j. entry (get_or frames i 0) store (get_or starts i 0) (get_or lengths i 0) (take (ek j) (drop slot records)) (take (em j) (drop trim trims))) in
        let is-r : pasted records slot k r ≡ pasted records slot recordslot r = ap (λ (z : ℕ). pasted records slot z r) ek in
        let is-t : pasted trims trim m t ≡ pasted trims trim trimslot t = ap (λ (z : ℕ). pasted trims trim z t) em in
        let is-p : pasted answers place n p ≡ pasted answers place answer_bytes p = ap (λ (z : ℕ). pasted answers place z p) en in
        let rest : Shelf = shelf (drop recordslot (drop slot records)) (drop trimslot (drop trim trims)) (drop answer_bytes (drop place answers)) in
        let ahead : Shelf = left (i + 1) rest in
        record {
          within = omega arith;
          at_slot = ap (λ (z : ℕ). z + recordslot) d.at_slot ∙ next-slot i recordslot;
          at-trim = ap (λ (z : ℕ). z + trimslot) d.at-trim ∙ next-slot i trimslot;
          at_place = ap (λ (z : ℕ). z + answer_bytes) d.at_place ∙ next-slot i answer_bytes;
          records-kept = ap length is-r ∙ length-pasted records r slot recordslot fit-r r-long ∙ d.records-kept;
          trims-kept = ap length is-t ∙ length-pasted trims t trim trimslot fit-t t-long ∙ d.trims-kept;
          answers-kept = ap length is-p ∙ length-pasted answers p place answer_bytes fit-p lp ∙ d.answers-kept;
          all =
              (λ j. before (take (slot + recordslot) (is-r j)) (take (trim + trimslot) (is-t j)) (take (place + answer_bytes) (is-p j))
              (left (i + 1) (shelf (drop (slot + recordslot) (is-r j)) (drop (trim + trimslot) (is-t j)) (drop (place + answer_bytes) (is-p j)))))
              ∙ (λ j. before (take-pasted records r slot recordslot fit-r r-long j) (take-pasted trims t trim trimslot fit-t t-long j)
              (take-pasted answers p place answer_bytes fit-p lp j)
              (left (i + 1) (shelf (drop-pasted records r slot recordslot fit-r r-long j) (drop-pasted trims t trim trimslot fit-t t-long j)
              (drop-pasted answers p place answer_bytes fit-p lp j))))
              ∙ (λ j. shelf (append_assoc (take slot records) r ahead.records j) (append_assoc (take trim trims) t ahead.trims j)
              (append_assoc (take place answers) p ahead.answers j))
              ∙ (λ j. before (take slot records) (take trim trims) (take place answers) (shelf (r ++ ahead.records) (t ++ ahead.trims) (page j ++ ahead.answers)))
              ∙ (λ j. before (take slot records) (take trim trims) (take place answers) (in_front (read j) ahead))
              ∙ ap (before (take slot records) (take trim trims) (take place answers))
              (sym (step (shelf (drop slot records) (drop trim trims) (drop place answers))))
              ∙ d.all;
        }

  pub ended : {x : Shelf} {slot trim place i : ℕ} → Done x slot trim place i → length starts ≤ i → x ≡ shelved store starts lengths frames recordslot trimslot x₀
  unfolding shelved
  ended {x} {slot} {trim} {place} {i} d h =
      let none : i ≡ length starts = omega (arith, d.within) in
      let nil : drop i starts ≡ [] = ap (λ (n : ℕ). drop n starts) none ∙ drop-length starts in
      (λ j. shelf (sym (take-append-drop slot x.records) j) (sym (take-append-drop trim x.trims) j) (sym (take-append-drop place x.answers) j))
      ∙ sym (ap (λ (l : List ℕ). before (take slot x.records) (take trim x.trims) (take place x.answers)
      (shelved store l (drop i lengths) (drop i frames) recordslot trimslot (shelf (drop slot x.records) (drop trim x.trims) (drop place x.answers)))) nil)
      ∙ d.all
