-- What is read back says which text it was: two texts, read back behind the same update before, that fill the same buffers in the same way are the same text.
use Rattle.std.specs.Prelude.{◌≡◌, refl, List, [], ◌∷◌, ◌++◌, ℕ, zero, suc, ◌+◌, ◌*◌, ◌^◌, ◌≤◌, ◌<◌, length, get_or, take, drop}
use Rattle.std.proofs.Common.{sym, ap, ap₂, ◌∙◌, subst, append-nil, zero-add, arith, length-append, length-drop, take_at, drop_at, ext_get_or, length-take-le}
use Rattle.std.proofs.Math.Seq.{take-length}
use Rattle.bits.specs.Language.{from}
use Rattle.bits.specs.Terms.{Every}
use Rattle.oamd.specs.Tables.{most_blocks, record_bytes, time_bytes, record_stride, frame_samples}
use Rattle.oamd.specs.LeastFirst.{least_first, least_at}
use Rattle.oamd.specs.Time.{time_bytes_of}
use Rattle.demands.specs.Lemmas.AnswerBytes.{least_at_lem}
use Rattle.text.specs.Lines.{texts}
use Rattle.catalogue.specs.Sheets.{Change, Sheet, rows_bytes, row_of}
use Rattle.catalogue.specs.Fit.{FitChange, Fit, refused, accepted}
use Rattle.catalogue.specs.Answer.{Backed, rows_in, update_bytes, no_change, line_bytes, records_bytes, reading_back}
use Rattle.catalogue.specs.Text.{catalogue}
use Rattle.catalogue.specs.TextOnly.{Fits}
use Rattle.catalogue.specs.Lemmas.Calls.{read, read_of}
use Rattle.catalogue.specs.Pieces.{line_length, lines_long, laid_lines, laid_records, laid-lines, laid-records, comes_to, whole-text}
use Rattle.catalogue.specs.Reads.{texts-agree}
use Rattle.catalogue.specs.Records.{parts_join, chunk_is, least_long}
use Rattle.catalogue.specs.ReadsFit.{chunks_long}

-- ---- lists and numbers

-- what stands before a cut, and what stands behind it
cut : (a b c d : List ℕ) → length a ≡ length b → a ++ c ≡ b ++ d → (a ≡ b) × (c ≡ d)
cut a b c d h e = (
  sym (take_at a c (length a) refl) ∙ ap (take (length a)) e ∙ take_at b d (length a) (sym h),
  sym (drop_at a c (length a) refl) ∙ ap (drop (length a)) e ∙ drop_at b d (length a) (sym h),
)

-- bytes say which number they are of
least_one : (n v w : ℕ) → v < 256 ^ n → w < 256 ^ n → least_first n v ≡ least_first n w → v ≡ w
least_one n v w h j e = sym (least_at_lem n v 0 [] [] refl h) ∙ ap (λ (l : List ℕ). least_at n (l ++ []) 0) e ∙ least_at_lem n w 0 [] [] refl j

-- texts of one length say which they are
chunks_one : (w n : ℕ) (f g : ℕ → List ℕ) → ((j : ℕ) → j < n → length (f j) ≡ w) → ((j : ℕ) → j < n → length (g j) ≡ w) → texts f (from 0 n) ≡ texts g (from 0 n)
    → (j : ℕ) → j < n → f j ≡ g j
chunks_one w n f g h k e j l = sym (chunk_is w f n h j l) ∙ ap (λ (s : List ℕ). take w (drop (w * j) s)) e ∙ chunk_is w g n k j l

-- the texts of a list, by its index
by_index : {A : Type 0} (f : A → List ℕ) (xs : List A) (d : A) → texts f xs ≡ texts (λ i. f (get_or xs i d)) (from 0 (length xs))
unfolding texts from
by_index {A} f xs d = go xs (λ i. get_or xs i d) 0 (λ j l. ap (λ (i : ℕ). get_or xs i d) (zero-add j))
  where
    go : (ys : List A) (g : ℕ → A) (i : ℕ) → ((j : ℕ) → j < length ys → g (i + j) ≡ get_or ys j d) → texts f ys ≡ texts (λ j. f (g j)) (from i (length ys))
    go [] g i h = refl
    go (y ∷ ys) g i h =
        ap₂ (λ (a b : List ℕ). a ++ b) (ap f (sym (ap g (let e : i ≡ i + 0 = omega arith in e) ∙ h 0 (omega arith))))
        (go ys g (suc i) (λ j l. ap g (let e : suc i + j ≡ i + suc j = omega arith in e) ∙ h (suc j) (omega arith)))

-- ---- a line

-- what a line says of two frames
record SameLine (x y : Sheet) : Type 0 where
  frame : x.frame ≡ y.frame
  refusal : x.refusal ≡ y.refusal
  objects : x.objects ≡ y.objects
  blocks : length x.updates ≡ length y.updates
  starts : (blk : ℕ) → blk < most_blocks → (get_or x.updates blk no_change).start ≡ (get_or y.updates blk no_change).start
  ramps : (blk : ℕ) → blk < most_blocks → (get_or x.updates blk no_change).ramp ≡ (get_or y.updates blk no_change).ramp

-- the numbers of a frame are small enough for their bytes
record Small (x : Sheet) : Type 0 where
  frame : x.frame < 256 ^ 4
  start : (blk : ℕ) → (get_or x.updates blk no_change).start < 256 ^ 2
  ramp : (blk : ℕ) → (get_or x.updates blk no_change).ramp < 256 ^ 2

small-change : (objects : ℕ) (us : List Change) → Every (FitChange objects) us → (blk : ℕ) → ((get_or us blk no_change).start < 256 ^ 2) × ((get_or us blk no_change).ramp < 256 ^ 2)
small-change objects [] fit blk = (omega arith, omega arith)
small-change objects (u ∷ us) fit zero = let s = fit.0.start in let r = fit.0.ramp in (omega arith, omega arith)
small-change objects (u ∷ us) fit (suc blk) = small-change objects us fit.1 blk

small : (x : Sheet) → Fit x → Small x
small x (refused few can is) = record {
  frame = omega arith;
  start = λ blk. subst (λ (us : List Change). (get_or us blk no_change).start < 256 ^ 2) (sym (ap (λ (x : Sheet). x.updates) is)) (omega arith);
  ramp = λ blk. subst (λ (us : List Change). (get_or us blk no_change).ramp < 256 ^ 2) (sym (ap (λ (x : Sheet). x.updates) is)) (omega arith);
}
small x (accepted few z some most count all) =
    record { frame = omega arith; start = λ blk. (small-change x.objects x.updates all blk).0; ramp = λ blk. (small-change x.objects x.updates all blk).1 }

update_long : (u : Change) → length (update_bytes u) ≡ 4
update_long u = length-append (least_first 2 u.start) (least_first 2 u.ramp) ∙ omega (arith, least_long 2 u.start, least_long 2 u.ramp)

line_one : (x y : Sheet) → Small x → Small y → line_bytes x ≡ line_bytes y → SameLine x y
unfolding line_bytes
line_one x y s t e =
    let head = cut (least_first 4 x.frame) (least_first 4 y.frame) _ _ (least_long 4 x.frame ∙ sym (least_long 4 y.frame)) e in
    let rest = cut (x.refusal ∷ x.objects ∷ length x.updates ∷ 0 ∷ []) (y.refusal ∷ y.objects ∷ length y.updates ∷ 0 ∷ []) _ _ refl head.1 in
    let each : (blk : ℕ) → blk < most_blocks → update_bytes (get_or x.updates blk no_change) ≡ update_bytes (get_or y.updates blk no_change) =
    chunks_one 4 most_blocks (λ blk. update_bytes (get_or x.updates blk no_change)) (λ blk. update_bytes (get_or y.updates blk no_change))
    (λ j l. update_long (get_or x.updates j no_change)) (λ j l. update_long (get_or y.updates j no_change)) rest.1 in
    let parts : (blk : ℕ) → blk < most_blocks → _ = λ blk l.
    cut (least_first 2 (get_or x.updates blk no_change).start) (least_first 2 (get_or y.updates blk no_change).start)
    (least_first 2 (get_or x.updates blk no_change).ramp) (least_first 2 (get_or y.updates blk no_change).ramp)
    (least_long 2 (get_or x.updates blk no_change).start ∙ sym (least_long 2 (get_or y.updates blk no_change).start)) (each blk l) in
    record {
      frame = least_one 4 x.frame y.frame s.frame t.frame head.0;
      refusal = ap (λ (l : List ℕ). get_or l 0 0) rest.0;
      objects = ap (λ (l : List ℕ). get_or l 1 0) rest.0;
      blocks = ap (λ (l : List ℕ). get_or l 2 0) rest.0;
      starts = λ blk l. least_one 2 _ _ (s.start blk) (t.start blk) (parts blk l).0;
      ramps = λ blk l. least_one 2 _ _ (s.ramp blk) (t.ramp blk) (parts blk l).1;
    }

-- ---- the records

row_long : (objects : ℕ) (rows : List ℕ) (j : ℕ) → length rows ≡ rows_bytes objects → j < objects → length (row_of rows j) ≡ record_bytes
row_long objects rows j e l = length-take-le record_bytes (drop (record_bytes * j) rows) (omega (arith, length-drop (record_bytes * j) rows))

-- rows say which they are, row by row
rows_one : (objects : ℕ) (rows rows' : List ℕ) → length rows ≡ rows_bytes objects → length rows' ≡ rows_bytes objects → ((j : ℕ) → j < objects → row_of rows j ≡ row_of rows' j)
    → rows ≡ rows'
rows_one objects rows rows' e e' h =
    sym (whole rows e)
    ∙ texts-agree _ _ 0 objects (λ j a b. ap (row_of rows) (zero-add j) ∙ h j (omega arith) ∙ sym (ap (row_of rows') (zero-add j)))
    ∙ whole rows' e'
  where
    whole : (s : List ℕ) → length s ≡ rows_bytes objects → texts (λ j. take record_bytes (drop (record_bytes * (0 + j)) s)) (from 0 objects) ≡ s
    whole s e = parts_join record_bytes s 0 0 objects ∙ ap (λ (n : ℕ). take n s) (sym e) ∙ take-length s

-- a record: row and time
abbrev record_of : ℕ → ℕ → Change → List ℕ
record_of frame j u = row_of u.rows j ++ time_bytes_of (frame * frame_samples + u.start)

fit_at : (objects : ℕ) (us : List Change) → Every (FitChange objects) us → (blk : ℕ) → blk < length us → FitChange objects (get_or us blk no_change)
fit_at objects [] fit blk l = absurd (omega arith)
fit_at objects (u ∷ us) fit zero l = fit.0
fit_at objects (u ∷ us) fit (suc blk) l = fit_at objects us fit.1 blk (omega arith)

module _ (frame frame' objects : ℕ) (us vs : List Change) (fit : Every (FitChange objects) us) (fit' : Every (FitChange objects) vs) (same : length us ≡ length vs) where
  record_long : (frame j : ℕ) (us : List Change) → Every (FitChange objects) us → j < objects → (blk : ℕ) → blk < length us
      → length (record_of frame j (get_or us blk no_change)) ≡ record_stride
  record_long frame j us fit l blk m =
      length-append (row_of (get_or us blk no_change).rows j) _
      ∙ omega (arith, row_long objects (get_or us blk no_change).rows j (fit_at objects us fit blk m).rows.long l, least_long time_bytes (frame * frame_samples + (get_or us blk no_change).start))

  -- the records of an object, by block
  abbrev of_object : ℕ → List Change → ℕ → List ℕ
  of_object frame us j = texts (record_of frame j) us

  object_long : (frame j : ℕ) (us : List Change) → Every (FitChange objects) us → j < objects → length (of_object frame us j) ≡ record_stride * length us
  object_long frame j us fit l =
      ap length (by_index (record_of frame j) us no_change)
      ∙ chunks_long record_stride (λ blk. record_of frame j (get_or us blk no_change)) 0 (length us) (λ blk a b. record_long frame j us fit l blk (omega arith))

  row_one : texts (of_object frame us) (from 0 objects) ≡ texts (of_object frame' vs) (from 0 objects) → (j blk : ℕ) → j < objects → blk < length us
      → row_of (get_or us blk no_change).rows j ≡ row_of (get_or vs blk no_change).rows j
  row_one e j blk l m =
      let object = chunks_one (record_stride * length us) objects (of_object frame us) (of_object frame' vs)
      (λ i n. object_long frame i us fit n) (λ i n. object_long frame' i vs fit' n ∙ ap (λ (k : ℕ). record_stride * k) (sym same)) e j l in
      let listed : texts (λ i. record_of frame j (get_or us i no_change)) (from 0 (length us)) ≡ texts (λ i. record_of frame' j (get_or vs i no_change)) (from 0 (length us)) =
      sym (by_index (record_of frame j) us no_change) ∙ object ∙ by_index (record_of frame' j) vs no_change
      ∙ ap (λ (n : ℕ). texts (λ i. record_of frame' j (get_or vs i no_change)) (from 0 n)) (sym same) in
      let one = chunks_one record_stride (length us) (λ i. record_of frame j (get_or us i no_change)) (λ i. record_of frame' j (get_or vs i no_change))
      (λ i n. record_long frame j us fit l i n) (λ i n. record_long frame' j vs fit' l i (omega arith)) listed blk m in
      (cut (row_of (get_or us blk no_change).rows j) (row_of (get_or vs blk no_change).rows j) _ _
      (row_long objects (get_or us blk no_change).rows j (fit_at objects us fit blk m).rows.long l
      ∙ sym (row_long objects (get_or vs blk no_change).rows j (fit_at objects vs fit' blk (omega arith)).rows.long l)) one).0

  -- the updates of a frame, by their starts and ramps, which its line says, and their rows
  updates_one : ((blk : ℕ) → blk < length us → (get_or us blk no_change).start ≡ (get_or vs blk no_change).start)
      → ((blk : ℕ) → blk < length us → (get_or us blk no_change).ramp ≡ (get_or vs blk no_change).ramp)
      → texts (of_object frame us) (from 0 objects) ≡ texts (of_object frame' vs) (from 0 objects) → us ≡ vs
  updates_one starts ramps e = ext_get_or no_change us vs same λ blk l.
      let rows = rows_one objects (get_or us blk no_change).rows (get_or vs blk no_change).rows (fit_at objects us fit blk l).rows.long (fit_at objects vs fit' blk (omega arith)).rows.long
      (λ j m. row_one e j blk m l) in
      let s = starts blk l in
      let r = ramps blk l in
      λ i. record { start = s i; ramp = r i; rows = rows i }

-- ---- frames

-- a frame that fits has updates that fit, and of a refused one there are none
fit-updates : (x : Sheet) → Fit x → Every (FitChange x.objects) x.updates × (length x.updates ≤ most_blocks)
fit-updates x (refused few can is) = (
  subst (λ (us : List Change). Every (FitChange x.objects) us) (sym (ap (λ (x : Sheet). x.updates) is)) tt,
  subst (λ (us : List Change). length us ≤ most_blocks) (sym (ap (λ (x : Sheet). x.updates) is)) (omega arith),
)
fit-updates x (accepted few z some most count all) = (all, count)

records_long : (x : Sheet) → Fit x → length (records_bytes x) ≡ record_stride * length x.updates * x.objects
unfolding records_bytes
records_long x fit =
    let us = (fit-updates x fit).0 in
    chunks_long (record_stride * length x.updates) (λ j. texts (record_of x.frame j) x.updates) 0 x.objects
    (λ j a b. object_long x.frame x.frame x.objects x.updates x.updates us us refl x.frame j x.updates us (omega arith))

sheet_one : (x y : Sheet) → Fit x → Fit y → line_bytes x ≡ line_bytes y → records_bytes x ≡ records_bytes y → x ≡ y
unfolding records_bytes
sheet_one x y fit fit' e r =
    let l = line_one x y (small x fit) (small y fit') e in
    let us = fit-updates x fit in
    let vs = fit-updates y fit' in
    let few = us.1 in
    let vs-here : Every (FitChange x.objects) y.updates = subst (λ (n : ℕ). Every (FitChange n) y.updates) (sym l.objects) vs.0 in
    let records : texts (λ j. texts (record_of x.frame j) x.updates) (from 0 x.objects) ≡ texts (λ j. texts (record_of y.frame j) y.updates) (from 0 x.objects) =
    r ∙ ap (λ (n : ℕ). texts (λ j. texts (record_of y.frame j) y.updates) (from 0 n)) (sym l.objects) in
    let updates = updates_one x.frame y.frame x.objects x.updates y.updates us.0 vs-here l.blocks
    (λ blk m. l.starts blk (omega arith)) (λ blk m. l.ramps blk (omega arith)) records in
    let frame = l.frame in
    let refusal = l.refusal in
    let objects = l.objects in
    λ i. record { frame = frame i; refusal = refusal i; objects = objects i; updates = updates i }

line_long : (x : Sheet) → length (line_bytes x) ≡ line_length
unfolding texts
line_long x = ap length (sym (append-nil (line_bytes x))) ∙ lines_long (x ∷ [])

sheets_one : (xs ys : List Sheet) → Every Fit xs → Every Fit ys → length xs ≡ length ys → texts line_bytes xs ≡ texts line_bytes ys
    → texts records_bytes xs ≡ texts records_bytes ys → xs ≡ ys
unfolding texts
sheets_one [] [] fit fit' n e r = refl
sheets_one [] (y ∷ ys) fit fit' n e r = absurd (omega arith)
sheets_one (x ∷ xs) [] fit fit' n e r = absurd (omega arith)
sheets_one (x ∷ xs) (y ∷ ys) fit fit' n e r =
    let lines = cut (line_bytes x) (line_bytes y) _ _ (line_long x ∙ sym (line_long y)) e in
    let l = line_one x y (small x fit.0) (small y fit'.0) lines.0 in
    let long : length (records_bytes x) ≡ length (records_bytes y) =
    records_long x fit.0 ∙ ap₂ (λ (n m : ℕ). record_stride * n * m) l.blocks l.objects ∙ sym (records_long y fit'.0) in
    let records = cut (records_bytes x) (records_bytes y) _ _ long r in
    ap₂ (λ (a : Sheet) (more : List Sheet). a ∷ more) (sheet_one x y fit.0 fit'.0 lines.0 records.0)
    (sheets_one xs ys fit.1 fit'.1 (omega arith) lines.1 records.1)

-- ---- the statement

module _ (text text' before lines records : List ℕ) where
  pub one-spelling : Fits (rows_in before) → (reading_back text before lines records).answer.refusal ≡ 0
      → reading_back text' before lines records ≡ reading_back text before lines records → text ≡ text'
  one-spelling fit z same =
      let r = read_of text before lines records z in
      let z' : (reading_back text' before lines records).answer.refusal ≡ 0 = ap (λ (o : Backed). o.answer.refusal) same ∙ z in
      let r' = read_of text' before lines records z' in
      let t = whole-text text before lines records r in
      let t' = whole-text text' before lines records r' in
      let is = comes_to text before lines records r in
      let is' = comes_to text' before lines records r' in
      let both : read before lines records r.sheets ≡ read before lines records r'.sheets = sym is ∙ sym same ∙ is' in
      let count : length r.sheets ≡ length r'.sheets = ap (λ (o : Backed). o.answer.frames) both in
      let ls = sym (laid-lines before lines records r.sheets) ∙ ap laid_lines both ∙ laid-lines before lines records r'.sheets in
      let rs = sym (laid-records before lines records r.sheets) ∙ ap laid_records both ∙ laid-records before lines records r'.sheets in
      t.text_is ∙ ap (catalogue (rows_in before)) (sheets_one r.sheets r'.sheets (t.fit fit) (t'.fit fit) count ls rs) ∙ sym t'.text_is
