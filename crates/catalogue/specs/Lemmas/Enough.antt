-- How many frames a text may have makes no difference, if they are no fewer than its bytes.
use Rattle.std.specs.Prelude.{◌≡◌, refl, List, [], ◌∷◌, ℕ, zero, suc, ◌≤◌, ◌<◌, length}
use Rattle.std.proofs.Common.{sym, ap, arith, length-append}
use Rattle.bits.specs.Steps.{by_order}
use Rattle.keys.specs.Names.{frame_key}
use Rattle.catalogue.specs.Fields.{most_frame}
use Rattle.catalogue.specs.Sheets.{Sheet, rows_behind}
use Rattle.catalogue.specs.Scan.{Got, got, bad, S, word, number, ◌>>=◌, and_then, run}
use Rattle.catalogue.specs.Back.{value, sheet_back, sheets_back, back}
use Rattle.catalogue.specs.Lemmas.Spells.{Spells, spelled, s-then, s-any}
use Rattle.catalogue.specs.Lemmas.Finish.{IsGot, none_left}

then_same : {A B : Type 0} (x : Got A) (k l : A → ℕ → List ℕ → Got B) → ((a : A) (n : ℕ) (r : List ℕ) → x ≡ got a n r → k a n r ≡ l a n r) → and_then x k ≡ and_then x l
then_same (got a n r) k l f = f a n r refl
then_same (bad j) k l f = refl

then-got : {A B : Type 0} (x : Got A) (k : A → ℕ → List ℕ → Got B) → IsGot (and_then x k) → IsGot x
then-got (got a n r) k h = tt
then-got (bad j) k h = h

-- ---- a frame takes a byte or more

abbrev Takes : {A : Type 0} → S A → Type 0
Takes p = Spells p (λ t a r. 1 ≤ length t)

takes-then : {A B : Type 0} (p : S A) (k : A → S B) → Takes p → Takes (p >>= k)
unfolding Spells
takes-then p k h = s-then p _ _ h (λ t a s l. s-any (k a) _ (λ u b r e. omega (arith, length-append t u)))

word-takes : (w : List ℕ) → 1 ≤ length w → Takes (word w)
unfolding Spells
word-takes w h = λ r. h

sheet-takes : (before : List ℕ) → Takes (sheet_back before)
unfolding sheet_back
sheet-takes before = takes-then (value frame_key 0 most_frame) _ (takes-then (word frame_key) (λ _. number 0 most_frame) (word-takes frame_key (omega arith)))

pub takes : (before : List ℕ) (n : ℕ) (s : List ℕ) {x : Sheet} {m : ℕ} {r : List ℕ} → run (sheet_back before) n s ≡ got x m r → length r < length s
takes before n s {x} {m} {r} h =
    let p = spelled (sheet_back before) _ (sheet-takes before) n s h in
    omega (arith, ap length p.whole, length-append p.text r, p.holds)

-- ---- the number of frames

pub same : (m l : ℕ) (before : List ℕ) (n : ℕ) (s : List ℕ) → length s ≤ m → length s ≤ l → run (sheets_back m before) n s ≡ run (sheets_back l before) n s
unfolding run sheets_back
same zero l before n [] h g = sym (none_left l before n)
same zero l before n (c ∷ s) h g = absurd (omega arith)
same (suc m) l before n [] h g = sym (none_left l before n)
same (suc m) zero before n (c ∷ s) h g = absurd (omega arith)
same (suc m) (suc l) before n (c ∷ s) h g =
    then_same (run (sheet_back before) n (c ∷ s)) _ _ λ x i r e.
    let shorter = takes before n (c ∷ s) e in
    rw (same m l (rows_behind before x.updates) i r (omega arith) (omega arith))

-- and what is accepted with fewer is accepted
more : (m l : ℕ) → m ≤ l → (before : List ℕ) (n : ℕ) (s : List ℕ) → IsGot (run (sheets_back m before) n s) → run (sheets_back m before) n s ≡ run (sheets_back l before) n s
unfolding run sheets_back
more zero l h before n [] g = sym (none_left l before n)
more zero l h before n (c ∷ s) g = absurd g
more (suc m) zero h before n s g = absurd (omega arith)
more (suc m) (suc l) h before n [] g = refl
more (suc m) (suc l) h before n (c ∷ s) g =
    then_same (run (sheet_back before) n (c ∷ s)) _ _ λ x i r e.
    let here = rows_behind before x.updates in
    rw (more m l (omega arith) here i r (then-got (run (sheets_back m here) i r) _ (rw e at g)))

pub enough : (m : ℕ) (before s : List ℕ) → length s ≤ m → back before s ≡ run (sheets_back m before) 1 s
unfolding back
enough m before s h = same (length s) m before 1 s (omega arith) h

pub accepted : (m : ℕ) (before s : List ℕ) → IsGot (run (sheets_back m before) 1 s) → IsGot (back before s)
unfolding back
accepted m before s g =
    by_order m (length s) (λ h. rw (sym (more m (length s) h before 1 s g)) g) (λ h. rw (same (length s) m before 1 s (omega arith) (omega arith)) g)
