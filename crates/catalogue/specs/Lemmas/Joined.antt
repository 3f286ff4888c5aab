-- A text behind an accepted one, read with it: as it is read alone, behind the update before that the first left, its lines counted on.
use Rattle.std.specs.Prelude.{◌≡◌, refl, List, [], ◌∷◌, ◌++◌, ℕ, zero, suc, ◌+◌, ◌≤◌, ◌<◌, length}
use Rattle.std.proofs.Math.Path.{sym, ap}
use Rattle.std.proofs.Common.{◌∙◌, append_assoc}
use native.Mathlib.Omega.{arith}
use Rattle.std.proofs.Math.ListN.{length-append}
use Rattle.bits.specs.Terms.{Every}
use Rattle.keys.specs.Names.{frame_key}
use Rattle.text.specs.Laying.{last_position}
use Rattle.catalogue.specs.Sheets.{Sheet, rows_behind, rows_after}
use Rattle.catalogue.specs.Text.{sheet_text, catalogue}
use Rattle.catalogue.specs.Scan.{Got, got, bad, and_then, run}
use Rattle.catalogue.specs.Back.{sheet_back, sheets_back, back}
use Rattle.catalogue.specs.Fit.{Fit}
use Rattle.catalogue.specs.Lemmas.Lines.{lines_in, behind, behind-append, behind_is}
use Rattle.catalogue.specs.Lemmas.EntriesRead.{NoEntry}
use Rattle.catalogue.specs.Lemmas.Count.{lines-append, lines_most, bad-got, same_line, Outcome, gave, broke, outcome}
use Rattle.catalogue.specs.Lemmas.Finish.{Some, lined-sheets}
use Rattle.catalogue.specs.Lemmas.Enough.{same}
use Rattle.catalogue.specs.ReadsBack.{sheet-key, sheet-reads, catalogue-ends}
use Rattle.catalogue.specs.TextOnly.{Fits, text_only}

-- behind sheets, others
abbrev behind_them : List Sheet → Got (List Sheet) → Got (List Sheet)
behind_them xs x = and_then x (λ ys n r. got (xs ++ ys) n r)

none-behind : (x : Got (List Sheet)) → x ≡ behind_them [] x
none-behind (got ys n r) = refl
none-behind (bad k) = refl

one-behind : (x : Sheet) (xs : List Sheet) (y : Got (List Sheet)) → and_then (behind_them xs y) (λ zs n r. got (x ∷ zs) n r) ≡ behind_them (x ∷ xs) y
one-behind x xs (got ys n r) = refl
one-behind x xs (bad k) = refl

-- one frame, and then the others
first_sheet : (m : ℕ) (before : List ℕ) (n : ℕ) (s : List ℕ) → 1 ≤ length s
    → run (sheets_back (suc m) before) n s
    ≡ and_then (run (sheet_back before) n s) (λ x i r. and_then (run (sheets_back m (rows_behind before x.updates)) i r) (λ xs j u. got (x ∷ xs) j u))
unfolding run sheets_back
first_sheet m before n [] h = absurd (omega arith)
first_sheet m before n (c ∷ s) h = refl

sheet_long : (before : List ℕ) (x : Sheet) → 1 ≤ length (sheet_text before x)
sheet_long before x = let (t, e) = sheet-key before x in omega (arith, ap length e, length-append frame_key t)

run-joined : (xs : List Sheet) (before : List ℕ) (m l n : ℕ) (b : List ℕ) → Every Fit xs → NoEntry b → length (catalogue before xs ++ b) ≤ m → length b ≤ l
    → run (sheets_back m before) n (catalogue before xs ++ b) ≡ behind_them xs (run (sheets_back l (rows_after before xs)) (behind n (catalogue before xs)) b)
unfolding catalogue rows_after behind
run-joined [] before m l n b fit q h g = same m l before n b h g ∙ none-behind (run (sheets_back l before) n b)
run-joined (x ∷ xs) before zero l n b fit q h g =
    absurd (omega (
      arith,
      sheet_long before x,
      length-append (sheet_text before x ++ catalogue (rows_behind before x.updates) xs) b,
      length-append (sheet_text before x) (catalogue (rows_behind before x.updates) xs),
    ))
run-joined (x ∷ xs) before (suc m) l n b fit q h g =
    let then = rows_behind before x.updates in
    let text = sheet_text before x in
    let rest = catalogue then xs in
    let long = sheet_long before x in
    let split = append_assoc text rest b in
    let size = length-append text (rest ++ b) in
    let all = ap length split in
    first_sheet m before n ((text ++ rest) ++ b) (omega arith)
    ∙ rw (split, (sheet-reads before x fit.0).reads n (rest ++ b) (catalogue-ends then xs b q), run-joined xs then m l (behind n text) b fit.1 q (omega arith) g, behind-append n text rest)
    (one-behind x xs (run (sheets_back l (rows_after then xs)) (behind (behind n text) rest) b))

-- an accepted text, and another behind it
module _ (before a b : List ℕ) (xs : List Sheet) (n : ℕ) (s : List ℕ) (e : back before a ≡ got xs n s) (fit : Fits before) (q : NoEntry b) where
  abbrev rest : ℕ → Got (List Sheet)
  rest n = run (sheets_back (length b) (rows_after before xs)) n b

  joined : back before (a ++ b) ≡ behind_them xs (rest (behind 1 a))
  unfolding back
  joined =
      let t = text_only before a xs n s e in
      rw t.text_is (run-joined xs before (length (catalogue before xs ++ b)) (length b) 1 b (t.fit fit) q (omega arith) (omega arith))

  counted : Outcome (sheets_back (length b) (rows_after before xs)) b
  counted = outcome (sheets_back (length b) (rows_after before xs)) Some (lined-sheets (length b) (rows_after before xs)) b

  pub joined-got : (ys : List Sheet) (m : ℕ) (r : List ℕ) → back (rows_after before xs) b ≡ got ys m r → (i : ℕ) × (back before (a ++ b) ≡ got (xs ++ ys) i r)
  unfolding back
  joined-got ys m r f = go counted
    where
      go : Outcome (sheets_back (length b) (rows_after before xs)) b → (i : ℕ) × (back before (a ++ b) ≡ got (xs ++ ys) i r)
      go (gave zs t u h g) =
          let y = sym (g 1) ∙ f in
          let v : zs ≡ ys = cc in
          let w : u ≡ r = cc in
          (behind (behind 1 a) t, joined ∙ rw (g (behind 1 a), v, w))
      go (broke t u h g) = absurd (bad-got (sym (g 1) ∙ f))

  pub joined-bad : (k : ℕ) → back (rows_after before xs) b ≡ bad k → length (a ++ b) < last_position → back before (a ++ b) ≡ bad (lines_in a + k)
  unfolding back
  joined-bad k f l = go counted
    where
      go : Outcome (sheets_back (length b) (rows_after before xs)) b → back before (a ++ b) ≡ bad (lines_in a + k)
      go (gave zs t u h g) = absurd (bad-got (sym f ∙ g 1))
      go (broke t u h g) =
          let line = same_line (sym f ∙ g 1) in
          let size = length-append a b in
          let some = lines_most a in
          let others = lines_most b in
          let parts = ap lines_in h in
          let sum = lines-append t u in
          let there = behind_is 1 t (omega arith) in
          let first = behind_is 1 a (omega arith) in
          let both = behind_is (behind 1 a) t (omega arith) in
          let same : behind (behind 1 a) t ≡ lines_in a + k = omega arith in
          joined ∙ rw (g (behind 1 a), same)
