-- One entry more: what it adds to each count; and what the counts are at the most.
use Rattle.std.specs.Prelude.{◌≡◌, refl, Bool, true, false, List, [], ◌∷◌, ◌++◌, map, ℕ, zero, suc, ◌+◌, ◌*◌, ◌≤◌, ◌<◌, eqb, leb, length, get_or, take}
use Rattle.std.proofs.Common.{sym, ap, ◌∙◌, append_assoc, append-nil, mul-suc, arith, length-append}
use Rattle.std.proofs.lemmas.List.{length-map, length-replicate}
use Rattle.std.proofs.lemmas.Bool.{eqb-false}
use Rattle.bits.specs.Language.{pick, from}
use Rattle.bits.specs.Laws.{length_from}
use Rattle.bits.specs.Terms.{Every}
use Rattle.oamd.specs.Tables.{most_blocks, frame_samples, room_bytes, most_trim}
use Rattle.oamd.specs.Timing.{no_update}
use Rattle.oamd.specs.Answer.{Outcome}
use Rattle.summary.specs.Summary.{total, joined, zeros, alone, outcomes, refusal_of, accepted_of, records_of, column, updates_of, is_late, ramp_length}
use Rattle.summary.specs.Laws.{flag_small, total-append, total_most}
use Rattle.summary.specs.Entries.{Ranged, entry-ranged, most_records, most_ramps}

-- ---- lists

joined-append : {A B : Type 0} (f : A → List B) (xs ys : List A) → joined f (xs ++ ys) ≡ joined f xs ++ joined f ys
unfolding joined
joined-append f [] ys = refl
joined-append f (x ∷ xs) ys = ap (λ l. f x ++ l) (joined-append f xs ys) ∙ sym (append_assoc (f x) (joined f xs) (joined f ys))

total-joined : {A B : Type 0} (g : B → ℕ) (f : A → List B) (xs : List A) → total g (joined f xs) ≡ total (λ x. total g (f x)) xs
unfolding joined total
total-joined g f [] = refl
total-joined g f (x ∷ xs) = total-append g (f x) (joined f xs) ∙ ap (λ (n : ℕ). total g (f x) + n) (total-joined g f xs)

length-joined : {A B : Type 0} (f : A → List B) (xs : List A) → length (joined f xs) ≡ total (λ x. length (f x)) xs
unfolding joined total
length-joined f [] = refl
length-joined f (x ∷ xs) = length-append (f x) (joined f xs) ∙ ap (λ (n : ℕ). length (f x) + n) (length-joined f xs)

pub map-append : {A B : Type 0} (f : A → B) (xs ys : List A) → map f (xs ++ ys) ≡ map f xs ++ map f ys
map-append f [] ys = refl
map-append f (x ∷ xs) ys = ap (λ l. f x ∷ l) (map-append f xs ys)

-- ---- one more

accepted-append : (os ps : List Outcome) → accepted_of (os ++ ps) ≡ accepted_of os ++ accepted_of ps
unfolding accepted_of
accepted-append [] ps = refl
accepted-append (o ∷ os) ps = ap (λ l. pick (eqb (refusal_of o) 0) (o ∷ l) l) (accepted-append os ps) ∙ go (eqb (refusal_of o) 0)
  where
    go : (t : Bool) → pick t (o ∷ (accepted_of os ++ accepted_of ps)) (accepted_of os ++ accepted_of ps) ≡ pick t (o ∷ accepted_of os) (accepted_of os) ++ accepted_of ps
    go true = refl
    go false = refl

-- of whatever gives nothing for a refused entry
pub joined_more : {B : Type 0} (f : Outcome → List B) (os : List Outcome) (o : Outcome) → ((refusal_of o ≡ 0 → ⊥) → f o ≡ [])
    → joined f (accepted_of (os ++ (o ∷ []))) ≡ joined f (accepted_of os) ++ f o
unfolding accepted_of joined
joined_more f os o none =
    ap (joined f) (accepted-append os (o ∷ [])) ∙ joined-append f (accepted_of os) (accepted_of (o ∷ []))
    ∙ ap (λ l. joined f (accepted_of os) ++ l) (go (eqb (refusal_of o) 0) refl)
  where
    go : (t : Bool) → eqb (refusal_of o) 0 ≡ t → joined f (pick t (o ∷ []) []) ≡ f o
    go true q = append-nil (f o)
    go false q = sym (none (eqb-false (refusal_of o) 0 q))

-- each sum as one of such lists
pub length-column : (k : ℕ) (o : Outcome) → length (column k o) ≡ records_of o
length-column k o = length-map (from 0 (records_of o)) _ ∙ length_from 0 (records_of o)

total_same : {A : Type 0} (f g : A → ℕ) (xs : List A) → ((x : A) → f x ≡ g x) → total f xs ≡ total g xs
unfolding total
total_same f g [] h = refl
total_same f g (x ∷ xs) h = ap (λ (n : ℕ). n + total f xs) (h x) ∙ ap (λ (n : ℕ). g x + n) (total_same f g xs h)

-- every record stands in each column
pub column_long : (k : ℕ) (os : List Outcome) → length (joined (column k) os) ≡ total records_of os
column_long k os = length-joined (column k) os ∙ total_same (λ o. length (column k o)) records_of os (length-column k)

-- ---- at the most

total-accepted : (g : Outcome → ℕ) (m : ℕ) (os : List Outcome) → ((o : Outcome) → Ranged o → g o ≤ m) → Every Ranged os → total g (accepted_of os) ≤ m * length os
unfolding total accepted_of
total-accepted g m [] h all = omega arith
total-accepted g m (o ∷ os) h all = go (eqb (refusal_of o) 0) (h o all.0) (total-accepted g m os h all.1) (mul-suc m (length os))
  where
    go : (t : Bool) → g o ≤ m → total g (accepted_of os) ≤ m * length os → m * suc (length os) ≡ m * length os + m
        → total g (pick t (o ∷ accepted_of os) (accepted_of os)) ≤ m * suc (length os)
    go true first rest e = omega arith
    go false first rest e = omega arith

late-few : (o : Outcome) → Ranged o → total is_late (updates_of o) ≤ most_blocks
late-few o r =
    let each = total_most is_late 1 no_update o.answer.timing.updates o.answer.timing.blocks (λ i l. flag_small (leb frame_samples (get_or o.answer.timing.updates i no_update).start.0)) in
    omega (arith, r.blocks)

pub record Bounded (os : List Outcome) : Type 0 where
  pub records : total records_of (accepted_of os) ≤ most_records * length os
  pub late : total is_late (joined updates_of (accepted_of os)) ≤ most_blocks * length os
  pub ramps : total ramp_length (joined updates_of (accepted_of os)) ≤ most_ramps * length os

pub bounded : (os : List Outcome) → Every Ranged os → Bounded os
bounded os all = record {
  records = total-accepted records_of most_records os (λ o r. r.many) all;
  late = rw (total-joined is_late updates_of (accepted_of os)) (total-accepted (λ o. total is_late (updates_of o)) most_blocks os late-few all);
  ramps = rw (total-joined ramp_length updates_of (accepted_of os)) (total-accepted (λ o. total ramp_length (updates_of o)) most_ramps os (λ o r. r.ramps) all);
}

-- ---- the entries of a call

pub alone-ranged : (store : List ℕ) (start len : ℕ) → Ranged (alone store start len)
unfolding zeros
alone-ranged store start len =
    entry-ranged 0 store start len (zeros room_bytes) (zeros most_trim) (omega (arith, length-replicate {A = ℕ} room_bytes 0)) (omega (arith, length-replicate {A = ℕ} most_trim 0))

pub all-ranged : (store starts lengths : List ℕ) → Every Ranged (outcomes store starts lengths)
unfolding outcomes
all-ranged store [] lengths = tt
all-ranged store (start ∷ starts) [] = tt
all-ranged store (start ∷ starts) (len ∷ lengths) = (alone-ranged store start len, all-ranged store starts lengths)

pub length-outcomes : (store starts lengths : List ℕ) → length lengths ≡ length starts → length (outcomes store starts lengths) ≡ length starts
unfolding outcomes
length-outcomes store [] lengths e = refl
length-outcomes store (start ∷ starts) [] e = absurd (omega arith)
length-outcomes store (start ∷ starts) (len ∷ lengths) e = ap suc (length-outcomes store starts lengths (omega arith))

-- entry i behind those before it
pub outcomes_next : (store starts lengths : List ℕ) (i : ℕ) → length lengths ≡ length starts → i < length starts
    → outcomes store (take (suc i) starts) (take (suc i) lengths)
    ≡ outcomes store (take i starts) (take i lengths) ++ (alone store (get_or starts i 0) (get_or lengths i 0) ∷ [])
unfolding outcomes
outcomes_next store [] lengths i e h = absurd (omega arith)
outcomes_next store (start ∷ starts) [] i e h = absurd (omega arith)
outcomes_next store (start ∷ starts) (len ∷ lengths) zero e h = refl
outcomes_next store (start ∷ starts) (len ∷ lengths) (suc i) e h = ap (λ l. alone store start len ∷ l) (outcomes_next store starts lengths i (omega arith) (omega arith))
