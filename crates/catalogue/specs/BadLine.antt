-- Which line of a text is refused: the first with which no catalogue can begin.
use Rattle.std.specs.Prelude.{◌≡◌, refl, Bool, true, false, List, [], ◌∷◌, ◌++◌, ◌↔◌, ℕ, zero, suc, ◌+◌, ◌-◌, ◌≤◌, ◌<◌, eqb, length}
use Rattle.std.proofs.Common.{sym, ap, ◌∙◌, subst, append_assoc, arith, eqb-true, eq-eqb}
use Rattle.bits.specs.declared.Refusal.TheVariants.{BadLine}
use Rattle.bits.specs.Refusals.{number_of}
use Rattle.bits.specs.Language.{pick}
use Rattle.bits.specs.Steps.{by_order}
use Rattle.text.specs.Lines.{newline}
use Rattle.text.specs.Laying.{last_position}
use Rattle.catalogue.specs.Sheets.{Sheet}
use Rattle.catalogue.specs.Scan.{Got, got, bad, after, run}
use Rattle.catalogue.specs.Back.{sheet_back, sheets_back, back}
use Rattle.catalogue.specs.Answer.{before_bytes, rows_in, Backed, not_backed, reading_back}
use Rattle.catalogue.specs.Lemmas.Lines.{lines_in, behind, behind_is}
use Rattle.catalogue.specs.Lemmas.Count.{lines_most, bad-got, same_line, bad-within, bad-behind}
use Rattle.catalogue.specs.Lemmas.Finish.{IsGot, Some, lined-sheets}
use Rattle.catalogue.specs.Lemmas.Calls.{bad_of}
use Rattle.catalogue.specs.When.{back-bad-line}
use Rattle.catalogue.specs.Lemmas.Enough.{enough, accepted}
use Rattle.catalogue.specs.Local.{Whole, last, more, Reach, stays, breaks, passes, reach}

-- ---- the words of it

-- the first k lines of a text, each with its end; all of it, if it has fewer ends of lines
unfoldable pub first_lines : List ℕ → ℕ → List ℕ
first_lines [] k = []
first_lines (c ∷ s) zero = []
first_lines (c ∷ s) (suc k) = c ∷ first_lines s (pick (eqb c newline) k (suc k))

-- behind an update before, a text is accepted if it is read back as sheets
abbrev pub Accepted : List ℕ → List ℕ → Type 0
Accepted before text = IsGot (back before text)

-- a text begins an accepted one if something can be put behind it
abbrev pub Begins : List ℕ → List ℕ → Type 0
Begins before text = (x : List ℕ) × Accepted before (text ++ x)

-- Line k of a text is the bad one. A text that has n ends of lines has n + 1 lines, the last of which has no end (and is empty, if the text ends with one). The lines before
-- line k begin an accepted text. With line k they begin none; and if line k is the one without an end, the text itself is not accepted.
pub record BadAt (before text : List ℕ) (k : ℕ) : Type 0 where
  pub low : 1 ≤ k
  pub high : k ≤ lines_in text + 1
  pub goes_on : Begins before (first_lines text (k - 1))
  pub stops : k ≤ lines_in text → Begins before (first_lines text k) → ⊥
  pub ends : k ≡ lines_in text + 1 → Accepted before text → ⊥

-- ---- the first lines

rest_of : (s : List ℕ) (k : ℕ) → (r : List ℕ) × (s ≡ first_lines s k ++ r)
unfolding first_lines
rest_of [] k = ([], refl)
rest_of (c ∷ s) zero = (c ∷ s, refl)
rest_of (c ∷ s) (suc k) = let (r, e) = rest_of s (pick (eqb c newline) k (suc k)) in (r, ap (λ (l : List ℕ). c ∷ l) e)

lines_of : (s : List ℕ) (k : ℕ) → k ≤ lines_in s → lines_in (first_lines s k) ≡ k
unfolding first_lines lines_in
lines_of [] k h = omega arith
lines_of (c ∷ s) zero h = refl
lines_of (c ∷ s) (suc k) h = go (eqb c newline) h (lines_of s)
  where
    go : (t : Bool) → suc k ≤ pick t (suc (lines_in s)) (lines_in s) → ((j : ℕ) → j ≤ lines_in s → lines_in (first_lines s j) ≡ j)
        → pick t (suc (lines_in (first_lines s (pick t k (suc k))))) (lines_in (first_lines s (pick t k (suc k)))) ≡ suc k
    go true l f = ap suc (f k (omega arith))
    go false l f = f (suc k) l

none_first : (s : List ℕ) → first_lines s 0 ≡ []
unfolding first_lines
none_first [] = refl
none_first (c ∷ s) = refl

-- they end with the end of a line
whole_of : (s : List ℕ) (k : ℕ) → k < lines_in s → Whole (first_lines s (suc k))
unfolding first_lines lines_in
whole_of [] k h = absurd (omega arith)
whole_of (c ∷ s) k h = go (eqb c newline) refl k h (whole_of s)
  where
    go : (t : Bool) → eqb c newline ≡ t → (k : ℕ) → k < pick t (suc (lines_in s)) (lines_in s) → ((j : ℕ) → j < lines_in s → Whole (first_lines s (suc j)))
        → Whole (c ∷ first_lines s (pick t k (suc k)))
    go true q zero l f = rw (none_first s) (last c (eqb-true c newline q))
    go true q (suc k) l f = more c (f k (omega arith))
    go false q k l f = more c (f k l)

-- fewer of them begin more
fewer-begin : (s : List ℕ) (j k : ℕ) → j ≤ k → (y : List ℕ) × (first_lines s k ≡ first_lines s j ++ y)
unfolding first_lines
fewer-begin [] j k h = ([], refl)
fewer-begin (c ∷ s) zero k h = (first_lines (c ∷ s) k, refl)
fewer-begin (c ∷ s) (suc j) zero h = absurd (omega arith)
fewer-begin (c ∷ s) (suc j) (suc k) h = go (eqb c newline) (fewer-begin s)
  where
    go : (t : Bool) → ((j k : ℕ) → j ≤ k → (y : List ℕ) × (first_lines s k ≡ first_lines s j ++ y))
        → (y : List ℕ) × (c ∷ first_lines s (pick t k (suc k)) ≡ c ∷ (first_lines s (pick t j (suc j)) ++ y))
    go true f = let (y, e) = f j k (omega arith) in (y, ap (λ (l : List ℕ). c ∷ l) e)
    go false f = let (y, e) = f (suc j) (suc k) h in (y, ap (λ (l : List ℕ). c ∷ l) e)

-- ---- numbers

no-bad : {A : Type 0} {x : Got A} {k : ℕ} → x ≡ bad k → IsGot x → ⊥
no-bad e h = rw e at h

has-line : {s : List ℕ} → Whole s → 1 ≤ lines_in s
unfolding lines_in
has-line (last c q) = rw (eq-eqb c newline q) (omega arith)
has-line (more c {s} w) = go (eqb c newline) (has-line w)
  where
    go : (t : Bool) → 1 ≤ lines_in s → 1 ≤ pick t (suc (lines_in s)) (lines_in s)
    go true l = omega arith
    go false l = l

-- if the first line is not the bad one, it has a byte
more_bytes : (before text : List ℕ) {k : ℕ} → back before text ≡ bad k → 1 < k → lines_in text < length text
unfolding back run sheets_back sheet_back after lines_in
more_bytes before [] e l = absurd (no-bad e tt)
more_bytes before (c ∷ s) {k} e l = go (eqb c newline) refl
  where
    go : (t : Bool) → eqb c newline ≡ t → pick t (suc (lines_in s)) (lines_in s) < suc (length s)
    go true q = let first : 1 ≡ k = same_line (rw (eqb-true c newline q) at e) in omega arith
    go false q = let m = lines_most s in omega arith

nothing : (before : List ℕ) → Begins before []
unfolding back run sheets_back
nothing before = ([], tt)

-- ---- the law

module _ (before text : List ℕ) (short : length text < last_position) (k : ℕ) (e : back before text ≡ bad k) where
  within : (1 ≤ k) × (k ≤ 1 + lines_in text)
  unfolding back
  within = bad-within (sheets_back (length text) before) Some (lined-sheets (length text) before) 1 text e (omega arith)

  -- with any number of frames
  bad_here : (m : ℕ) → length text ≤ m → (t r : List ℕ) → text ≡ t ++ r → run (sheets_back m before) 1 (t ++ r) ≡ bad k
  bad_here m l t r q = rw (sym q) (sym (enough m before text l) ∙ e)

  -- the lines before it begin an accepted text
  lines-begin : (j : ℕ) → suc j ≡ k - 1 → Begins before (first_lines text (suc j))
  lines-begin j h = go (reach (sheets_back (length text) before) Some (lined-sheets (length text) before) 1 t (whole_of text j (omega (arith, within.1))))
    where
      t : List ℕ
      t = first_lines text (suc j)

      bad_there : (r : List ℕ) → text ≡ t ++ r → run (sheets_back (length text) before) 1 (t ++ r) ≡ bad k
      bad_there r q = bad_here (length text) (omega arith) t r q

      go : Reach (sheets_back (length text) before) Some 1 t → Begins before t
      go (stays a m r w b f) = let (rest, q) = rest_of text (suc j) in absurd (bad-got (sym (bad_there rest q) ∙ f rest))
      go (breaks i r w b f) =
          let (rest, q) = rest_of text (suc j) in
          let same : i ≡ k = same_line (sym (f rest) ∙ bad_there rest q) in
          let bytes = more_bytes before text e (omega arith) in
          let lines = lines_of text (suc j) (omega (arith, within.1)) in
          absurd (omega (arith, b, behind_is i r (omega (arith, within.1)), behind_is 1 t (omega arith), has-line w, within.1))
      go (passes q (u, g) f) = (u, accepted (length text) before (t ++ u) (rw (f u) (g (behind 1 t))))

  -- with it they begin none
  lines-stop : (j : ℕ) → suc j ≡ k → k ≤ lines_in text → Begins before (first_lines text (suc j)) → ⊥
  lines-stop j h l (x, g) = go (reach (sheets_back m before) Some (lined-sheets m before) 1 t (whole_of text j (omega arith)))
    where
      t : List ℕ
      t = first_lines text (suc j)

      m : ℕ
      m = length text + length (t ++ x)

      bad_there : (r : List ℕ) → text ≡ t ++ r → run (sheets_back m before) 1 (t ++ r) ≡ bad k
      bad_there r q = bad_here m (omega arith) t r q

      go : Reach (sheets_back m before) Some 1 t → ⊥
      go (stays a i r w b f) = let (rest, q) = rest_of text (suc j) in bad-got (sym (bad_there rest q) ∙ f rest)
      go (breaks i r w b f) = no-bad (enough m before (t ++ x) (omega arith) ∙ f x) g
      go (passes q z f) =
          let (rest, p) = rest_of text (suc j) in
          let lines = lines_of text (suc j) (omega arith) in
          let most = lines_most text in
          let here = behind_is 1 t (omega arith) in
          let later = bad-behind q (behind 1 t) rest (omega arith) (sym (f rest) ∙ bad_there rest p) in
          omega arith

  bad_at : BadAt before text k
  bad_at = record {
    low = within.0;
    high = omega (arith, within.1);
    goes_on = by_order k 1
        (λ h. let z : k - 1 ≡ 0 = omega arith in rw (z, none_first text) (nothing before))
        (λ h. let z : suc (k - 2) ≡ k - 1 = omega arith in subst (λ (i : ℕ). Begins before (first_lines text i)) z (lines-begin (k - 2) z));
    stops = λ l b. let z : suc (k - 1) ≡ k = omega (arith, within.0) in lines-stop (k - 1) z l (subst (λ (i : ℕ). Begins before (first_lines text i)) (sym z) b);
    ends = λ q g. no-bad e g;
  }

-- there is one such line at the most
one-bad : (before text : List ℕ) (j k : ℕ) → BadAt before text j → BadAt before text k → j < k → ⊥
one-bad before text j k f g l =
    let (x, a) = g.goes_on in
    let (y, e) = fewer-begin text j (k - 1) (omega arith) in
    f.stops (omega (arith, g.high))
    (y ++ x, rw (sym (append_assoc (first_lines text j) y x), sym e) a)

-- and a text with one is not accepted
none-good : (before text : List ℕ) (k : ℕ) → BadAt before text k → Accepted before text → ⊥
none-good before text k f a = by_order k (lines_in text)
    (λ h. let (r, e) = rest_of text k in f.stops h (r, rw (sym e) a))
    (λ h. f.ends (omega (arith, f.high)) a)

-- A text is refused with the place k exactly if line k is the bad one: behind any update before, and for any text whose lines can be numbered
pub bad-line_when : (before text : List ℕ) → length text < last_position → (k : ℕ) → (back before text ≡ bad k) ↔ BadAt before text k
bad-line_when before text short k = (bad_at before text short k, λ f. go f (back before text) refl)
  where
    go : BadAt before text k → (x : Got (List Sheet)) → back before text ≡ x → x ≡ bad k
    go f (got xs n s) e = absurd (none-good before text k f (rw e tt))
    go f (bad j) e =
        let g = bad_at before text short j e in
        by_order j k
        (λ h. by_order k j (λ i. ap bad (omega arith)) (λ i. absurd (one-bad before text j k g f i)))
        (λ h. absurd (one-bad before text k j f g h))

-- and so a call answers it, with both its buffers and the update before as they came
pub refused-line_when : (text before lines records : List ℕ) → length text < last_position → before_bytes ≤ length before → (k : ℕ)
    → (reading_back text before lines records ≡ not_backed before lines records (number_of BadLine) k) ↔ BadAt (rows_in before) text k
refused-line_when text before lines records short room k =
    let when = bad-line_when (rows_in before) text short k in (
      λ e. when.0 (bad_of text before lines records (ap (λ (b : Backed). b.answer.refusal) e) ∙ ap (λ (b : Backed). bad b.answer.place) e),
      λ f. back-bad-line text before lines records k room (when.1 f),
    )
