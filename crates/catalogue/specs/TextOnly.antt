-- A text that is read back is the catalogue of the sheets that are read: no other text stands for them. And these sheets are such as a catalogue can hold.
use Rattle.std.specs.Prelude.{◌≡◌, refl, true, false, not, List, [], ◌∷◌, ◌++◌, ℕ, zero, suc, ◌≤◌, ◌<◌, eqb, length}
use Rattle.std.proofs.Common.{sym, ap, ap₂, ◌∙◌, subst, append-nil, append_assoc, inl, inr, ⊎_elim, arith, eqb-true, ne_eqb}
use Rattle.std.proofs.lemmas.Bool.{not-true, not-false}
use Rattle.bits.specs.Language.{between}
use Rattle.bits.specs.Steps.{by_order, free_above}
use Rattle.bits.specs.Terms.{Every}
use Rattle.oamd.specs.Tables.{most_objects, most_blocks, record_bytes}
use Rattle.keys.specs.Names.{refusal_key, objects_key, blocks_key, frame_key, start_key, ramp_key}
use Rattle.text.specs.Numerals.{decimal}
use Rattle.text.specs.Lines.{comma, newline}
use Rattle.catalogue.specs.Fields.{most_frame, most_start, most_ramp}
use Rattle.catalogue.specs.Sheets.{Change, Sheet, refused_sheet, accepted_sheet, rows_bytes, cell, rows_behind, rows_after}
use Rattle.catalogue.specs.Text.{pair, update_line, frame_line, refused_line, is_full, entry_lines, update_lines, sheet_text, catalogue}
use Rattle.catalogue.specs.Scan.{got, give, fail, word, number, end_line, run}
use Rattle.catalogue.specs.Back.{value, check, next_object, entries_back, rows_here, update_back, updates_back, refused_back, accepted_back, sheet_back, sheets_back, back}
use Rattle.catalogue.specs.Fit.{FitRows, FitChange, CanBe, Fit, refused, accepted}
use Rattle.catalogue.specs.Lemmas.Spells.{Spells, spelled, s-fail, s-give, s-word, s-number, s_end-line, s-whether, s_at_end, s-check, s-then, s-bind}
use Rattle.catalogue.specs.Lemmas.EntriesOnly.{InRange, EntriesOnly, next_only, entries_only}
use Rattle.catalogue.specs.ReadsBack.{here-length, entries_here, two-pairs, three-pairs}

-- rows that the update before can have; none, with no objects, where there is no such update
pub record Fits (rows : List ℕ) : Type 0 where
  pub objects : ℕ
  pub most : objects ≤ most_objects
  pub fit : FitRows objects rows

-- KEY=NUMBER
value_only : (key : List ℕ) (least most : ℕ) → Spells (value key least most) (λ t v r. (t ≡ pair key v) × (least ≤ v) × (v ≤ most))
value_only key least most =
    s-bind (word key) _ _ _ (s-word key) (λ t a s e.
    s-then (number least most) _ _ (s-number least most) (λ u v r f q. (ap₂ (λ (x y : List ℕ). x ++ y) e f.0, f.1, f.2)))

-- ---- an update

record UpdateOnly (objects : ℕ) (before t : List ℕ) (u : Change) : Type 0 where
  text : t ≡ update_line u.start u.ramp ++ entry_lines objects before u.rows
  fit : Fits before → FitChange objects u

here_same : (objects : ℕ) (before : List ℕ) → is_full objects before ≡ false → rows_here objects before ≡ before
unfolding rows_here
here_same objects before e = rw e

-- where not every field is listed, those before have the same number of objects
here-range : (objects : ℕ) (before : List ℕ) → Fits before → is_full objects before ≡ false → (j k : ℕ) → j < objects → k < record_bytes
    → InRange k (cell (rows_here objects before) j k)
here-range objects before fits e j k l h =
    let same = eqb-true (length before) (rows_bytes objects) (not-false (eqb (length before) (rows_bytes objects)) e) in
    let long = fits.fit.long in
    let below : j < fits.objects = omega arith in
    rw (here_same objects before e) (fits.fit.least j k below h, fits.fit.most j k below h)

rows_fit : (objects : ℕ) (before : List ℕ) (next : ℕ) {t rows : List ℕ}
    → EntriesOnly (is_full objects before) (rows_here objects before) 0 objects next (rows_here objects before) t rows → Fits before → FitRows objects rows
rows_fit objects before next {rows = rows} f fits = record {
  long = f.long ∙ here-length objects before;
  least = λ j k l h. (held j k l h).0;
  most = λ j k l h. (held j k l h).1;
}
  where
    held : (j k : ℕ) → j < objects → k < record_bytes → InRange k (cell rows j k)
    held j k l h = f.held j k (omega arith) (omega arith) h (λ e. here-range objects before fits e j k l h)

two-texts : {a b c d e x y z : List ℕ} → a ≡ x → b ≡ comma ∷ [] → c ≡ y → d ≡ newline ∷ [] → e ≡ z
    → a ++ (b ++ (c ++ (d ++ e))) ≡ ((x ++ (comma ∷ y)) ++ (newline ∷ [])) ++ z
two-texts {x = x} {y} {z} f g h i j = rw (f, g, h, i, j) (two-pairs x y z)

update_only : (objects : ℕ) (before : List ℕ) → objects ≤ most_objects → Spells (update_back objects before) (λ t u r. UpdateOnly objects before t u)
unfolding update_back update_line
update_only objects before few =
    let full = is_full objects before in
    let old = rows_here objects before in
    let long = here-length objects before in
    s-bind (value start_key 0 most_start) _ _ _ (value_only start_key 0 most_start) (λ t1 start s1 f1.
    s-bind (word (comma ∷ [])) _ _ _ (s-word (comma ∷ [])) (λ t2 a2 s2 f2.
    s-bind (value ramp_key 0 most_ramp) _ _ _ (value_only ramp_key 0 most_ramp) (λ t3 ramp s3 f3.
    s-bind end_line _ _ _ s_end-line (λ t4 a4 s4 f4.
    s-bind next_object _ _ _ next_only (λ t5 next s5 f5.
    s-bind (entries_back full 0 objects next old) _ _ _ (entries_only full old 0 objects next old (omega arith) (omega arith) (λ i l. refl)) (λ t6 rows s6 f6.
    s-give _ _ (λ r q6 q5 q4 q3 q2 q1. record {
      text = two-texts f1.0 f2 f3.0 f4 (ap₂ (λ (x y : List ℕ). x ++ y) f5 (append-nil t6) ∙ f6.text ∙ entries_here objects before rows);
      fit = λ fits. record { start = f1.2; ramp = f3.2; rows = rows_fit objects before next f6 fits };
    })))))))

-- ---- a frame

record UpdatesOnly (objects m : ℕ) (before t : List ℕ) (us : List Change) : Type 0 where
  text : t ≡ update_lines objects before us
  count : length us ≡ m
  fit : Fits before → Every (FitChange objects) us
  next : Fits before → Fits (rows_behind before us)

updates_only : (objects m : ℕ) (before : List ℕ) → objects ≤ most_objects → Spells (updates_back objects m before) (λ t us r. UpdatesOnly objects m before t us)
unfolding updates_back update_lines rows_behind
updates_only objects zero before few = s-give [] _ (λ r. record { text = refl; count = refl; fit = λ fits. tt; next = λ fits. fits })
updates_only objects (suc m) before few =
    s-bind (update_back objects before) _ _ _ (update_only objects before few) (λ t u s f.
    s-bind (updates_back objects m u.rows) _ _ _ (updates_only objects m u.rows few) (λ t' us s' g.
    s-give (u ∷ us) _ (λ r q' q.
    let then : Fits before → Fits u.rows = λ fits. record { objects = objects; most = few; fit = (f.fit fits).rows } in
    record {
      text = ap₂ (λ (x y : List ℕ). x ++ y) f.text (append-nil t' ∙ g.text)
          ∙ append_assoc (update_line u.start u.ramp) (entry_lines objects before u.rows) (update_lines objects u.rows us);
      count = ap suc g.count;
      fit = λ fits. (f.fit fits, g.fit (then fits));
      next = λ fits. g.next (then fits);
    })))

-- a refusal that is none of 9 to 11
can-be : (refusal : ℕ) → 1 ≤ refusal → refusal ≤ 12 → between 9 11 refusal ≡ false → CanBe refusal
can-be refusal l h e =
    by_order refusal 8 (λ m. inl (l, m)) (λ m. let n = free_above 9 11 refusal e (omega arith) in inr (omega arith))

record RefusedOnly (frame : ℕ) (t : List ℕ) (x : Sheet) : Type 0 where
  refusal : ℕ
  is : x ≡ refused_sheet frame refusal
  can : CanBe refusal
  text : t ≡ decimal refusal ++ (newline ∷ [])

refused_only : (frame : ℕ) → Spells (refused_back frame) (λ t x r. RefusedOnly frame t x)
unfolding refused_back
refused_only frame =
    s-bind (number 1 12) _ _ _ (s-number 1 12) (λ t refusal s f.
    s-bind (check (not (between 9 11 refusal)) end_line) _ (λ t a s. (not (between 9 11 refusal) ≡ true) × (t ≡ newline ∷ [])) _
    (s-check (not (between 9 11 refusal)) end_line _ (λ e. s-then end_line _ _ s_end-line (λ u a r g. (e, g)))) (λ t' a s' g.
    s-give _ _ (λ r q' q. record {
      refusal = refusal;
      is = refl;
      can = can-be refusal f.1 f.2 (not-true (between 9 11 refusal) g.0);
      text = ap₂ (λ (x y : List ℕ). x ++ y) f.0 (append-nil t' ∙ g.1);
    })))

record AcceptedOnly (before : List ℕ) (frame : ℕ) (t : List ℕ) (x : Sheet) : Type 0 where
  objects : ℕ
  updates : List Change
  is : x ≡ accepted_sheet frame objects updates
  some_there : 1 ≤ objects
  few : objects ≤ most_objects
  blocks : length updates ≤ most_blocks
  text : t ≡ pair objects_key objects ++ ((comma ∷ []) ++ (pair blocks_key (length updates) ++ ((newline ∷ []) ++ update_lines objects before updates)))
  fit : Fits before → Every (FitChange objects) updates
  next : Fits before → Fits (rows_behind before updates)

accepted_only : (before : List ℕ) (frame : ℕ) → Spells (accepted_back before frame) (λ t x r. AcceptedOnly before frame t x)
unfolding accepted_back
accepted_only before frame =
    s-bind (value objects_key 1 most_objects) _ _ _ (value_only objects_key 1 most_objects) (λ t1 objects s1 f1.
    s-bind (word (comma ∷ [])) _ _ _ (s-word (comma ∷ [])) (λ t2 a2 s2 f2.
    s-bind (value blocks_key 0 most_blocks) _ _ _ (value_only blocks_key 0 most_blocks) (λ t3 blocks s3 f3.
    s-bind end_line _ _ _ s_end-line (λ t4 a4 s4 f4.
    s-bind (updates_back objects blocks before) _ _ _ (updates_only objects blocks before f1.2) (λ t5 us s5 f5.
    s-give _ _ (λ r q5 q4 q3 q2 q1.
    let count = f5.count in
    let most = f3.2 in
    record {
      objects = objects;
      updates = us;
      is = refl;
      some_there = f1.1;
      few = f1.2;
      blocks = omega arith;
      text = rw (f1.0, f2, f3.0, f4, append-nil t5, f5.text, count);
      fit = f5.fit;
      next = f5.next;
    }))))))

record SheetOnly (before t : List ℕ) (x : Sheet) : Type 0 where
  text : t ≡ sheet_text before x
  fit : Fits before → Fit x
  next : Fits before → Fits (rows_behind before x.updates)

refused-sheet : (before : List ℕ) (frame : ℕ) {a b t : List ℕ} {x : Sheet} → frame ≤ most_frame → a ≡ pair frame_key frame → b ≡ comma ∷ [] → RefusedOnly frame t x
    → SheetOnly before (a ++ (b ++ (refusal_key ++ t))) x
unfolding sheet_text refused_line rows_behind
refused-sheet before frame {a} {b} {t} l f g h =
    let refusal = h.refusal in
    let number-there : refusal ≡ 0 → ⊥ = λ z. ⊎_elim (λ c. let n = c.0 in omega arith) (λ c. omega arith) h.can in
    subst (SheetOnly before (a ++ (b ++ (refusal_key ++ t)))) (sym h.is)
    (record {
      text = rw (ne_eqb refusal 0 number-there, f, g, h.text) (simp append_assoc);
      fit = λ fits. refused l h.can refl;
      next = λ fits. fits;
    })

accepted-sheet : (before : List ℕ) (frame : ℕ) {a b t : List ℕ} {x : Sheet} → frame ≤ most_frame → a ≡ pair frame_key frame → b ≡ comma ∷ []
    → AcceptedOnly before frame t x → SheetOnly before (a ++ (b ++ t)) x
unfolding sheet_text frame_line
accepted-sheet before frame {a} {b} {t} l f g h =
    let us = h.updates in
    subst (SheetOnly before (a ++ (b ++ t))) (sym h.is)
    (record {
      text = rw (f, g, h.text) (three-pairs (pair frame_key frame) (pair objects_key h.objects) (pair blocks_key (length us)) (update_lines h.objects before us));
      fit = λ fits. accepted l refl h.some_there h.few h.blocks (h.fit fits);
      next = h.next;
    })

sheet-spells : (before : List ℕ) → Spells (sheet_back before) (λ t x r. SheetOnly before t x)
unfolding sheet_back
sheet-spells before =
    s-bind (value frame_key 0 most_frame) _ _ _ (value_only frame_key 0 most_frame) (λ a frame s f.
    s-bind (word (comma ∷ [])) _ _ _ (s-word (comma ∷ [])) (λ b u s' g.
    s-whether refusal_key (refused_back frame) (accepted_back before frame) _
    (s-then (refused_back frame) _ _ (refused_only frame) (λ t x r h q q'. refused-sheet before frame f.2 f.0 g h))
    (s-then (accepted_back before frame) _ _ (accepted_only before frame) (λ t x r h q q'. accepted-sheet before frame f.2 f.0 g h))))

-- ---- a catalogue

-- what was read of a text, of which s is left
pub record OnlyText (before text : List ℕ) (xs : List Sheet) (s : List ℕ) : Type 0 where
  pub text_is : text ≡ catalogue before xs
  pub all : s ≡ []
  pub fit : Fits before → Every Fit xs
  pub next : Fits before → Fits (rows_after before xs)

no-frame : (before r : List ℕ) → [] ++ r ≡ [] → OnlyText before [] [] r
unfolding catalogue rows_after
no-frame before r e = record { text_is = refl; all = e; fit = λ fits. tt; next = λ fits. fits }

sheets-spell : (m : ℕ) (before : List ℕ) → Spells (sheets_back m before) (λ t xs r. OnlyText before t xs r)
unfolding sheets_back catalogue rows_after
sheets-spell zero before = s_at_end (give []) fail _ (s-give [] _ (λ r e. no-frame before r e)) (s-fail _)
sheets-spell (suc m) before =
    s_at_end (give []) _ _ (s-give [] _ (λ r e. no-frame before r e))
    (s-bind (sheet_back before) _ _ _ (sheet-spells before) (λ t x s f.
    s-bind (sheets_back m (rows_behind before x.updates)) _ _ _ (sheets-spell m (rows_behind before x.updates)) (λ t' xs s' g.
    s-give (x ∷ xs) _ (λ r q' q. record {
      text_is = ap₂ (λ (y z : List ℕ). y ++ z) f.text (append-nil t' ∙ g.text_is);
      all = sym q' ∙ g.all;
      fit = λ fits. (f.fit fits, g.fit (f.next fits));
      next = λ fits. g.next (f.next fits);
    }))))

-- up to m frames
pub sheets_only : (m : ℕ) (before : List ℕ) (l : ℕ) (text : List ℕ) (xs : List Sheet) (n : ℕ) (s : List ℕ) → run (sheets_back m before) l text ≡ got xs n s
    → OnlyText before text xs s
sheets_only m before l text xs n s e =
    let x = spelled (sheets_back m before) _ (sheets-spell m before) l text e in
    let h = x.holds in
    record {
      text_is = x.whole ∙ ap (λ (r : List ℕ). x.text ++ r) h.all ∙ append-nil x.text ∙ h.text_is;
      all = h.all;
      fit = h.fit;
      next = h.next;
    }

-- a whole text
pub text_only : (before text : List ℕ) (xs : List Sheet) (n : ℕ) (s : List ℕ) → back before text ≡ got xs n s → OnlyText before text xs s
unfolding back
text_only before text xs n s e = sheets_only (length text) before 1 text xs n s e

-- one frame
pub sheet_only : (before : List ℕ) (l : ℕ) (text : List ℕ) (x : Sheet) (n : ℕ) (s : List ℕ) → run (sheet_back before) l text ≡ got x n s
    → (text ≡ sheet_text before x ++ s) × (Fits before → Fit x × Fits (rows_behind before x.updates))
sheet_only before l text x n s e =
    let y = spelled (sheet_back before) _ (sheet-spells before) l text e in
    let h = y.holds in
    (y.whole ∙ ap (λ (t : List ℕ). t ++ s) h.text, λ fits. (h.fit fits, h.next fits))
