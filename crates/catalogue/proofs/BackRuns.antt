-- Readers that differ in what they give only: rows in front of an array read as by themselves, and frames behind frames. Assumes nothing.
use mathlib.Core.Path.{◌≡◌, refl, sym, ap, ◌∙◌}
use mathlib.Core.Bool.{Bool, true, false, not}
use mathlib.Core.List.{List, ◌∷◌}
use mathlib.Core.Option.{Option, none, some}
use Prim.Native.Nat.{ℕ, zero, suc, ◌+◌, ◌*◌, ◌<◌, ◌≤◌}
use native.Mathlib.Omega.{arith}
use lib.Dec.{eqb}
use lib.ListN.{get_or, take, set}
use lib.Seq.{take-set-lt, get_or-take}
use Rattle.bits.specs.Language.{pick}
use Rattle.oamd.specs.Tables.{record_bytes}
use Rattle.text.specs.Lines.{comma}
use Rattle.std.specs.Prelude.{Result, Ok, Err}
use Rattle.catalogue.specs.declared.BadLine.{BadLine}
use Rattle.catalogue.specs.declared.Reader.{Reader}
use Rattle.catalogue.specs.Fields.{field_of}
use Rattle.catalogue.specs.Sheets.{rows_bytes}
use Rattle.catalogue.specs.Scan.{Got, got, bad, S, give, peek, number, end_line, whether, ◌>>=◌, after, and_then, ways, run}
use Rattle.catalogue.specs.Parts.{came, runs}
use Rattle.catalogue.specs.Back.{check, field_back, fields_back, entry_back, no_object, next_object, entries_back}

abbrev pub mapped : {A B : Type 0} → (A → B) → Got A → Got B
mapped f (got a n s) = got (f a) n s
mapped f (bad n) = bad n

-- on every text, q gives f of what p gives
pub record Maps {A B : Type 0} (f : A → B) (p : S A) (q : S B) : Type 0 where
  pub on : (n : ℕ) (s : List ℕ) → mapped f (run p n s) ≡ run q n s

-- ---- step by step

pub maps_same : {A : Type 0} (p : S A) → Maps (λ a. a) p p
maps_same {A} p = record { on = λ n s. go (run p n s) }
  where
    go : (g : Got A) → mapped (λ a. a) g ≡ g
    go (got a m r) = refl
    go (bad m) = refl

pub maps-give : {A B : Type 0} (f : A → B) (a : A) → Maps f (give a) (give (f a))
unfolding run
maps-give f a = record { on = λ n s. refl }

pub maps-bind : {A B C D : Type 0} {f : A → B} {g : C → D} {p : S A} {q : S B} {k : A → S C} {l : B → S D} → Maps f p q → ((a : A) → Maps g (k a) (l (f a)))
    → Maps g (p >>= k) (q >>= l)
unfolding run
maps-bind {A} {B} {C} {D} {f} {g} {p} {q} {k} {l} h i =
    record { on = λ n s. go (run p n s) ∙ ap (λ (x : Got B). and_then x (λ b m r. run (l b) m r)) (h.on n s) }
  where
    go : (x : Got A) → mapped g (and_then x (λ a m r. run (k a) m r)) ≡ and_then (mapped f x) (λ b m r. run (l b) m r)
    go (got a m r) = (i a).on m r
    go (bad m) = refl

maps-pick : {A B : Type 0} {f : A → B} (t : Bool) {p p' : S A} {q q' : S B} → Maps f p q → Maps f p' q' → Maps f (pick t p p') (pick t q q')
maps-pick true h i = h
maps-pick false h i = i

maps-check : {A B : Type 0} {f : A → B} (t : Bool) {p : S A} {q : S B} → Maps f p q → Maps f (check t p) (check t q)
unfolding run
maps-check true h = h
maps-check false h = record { on = λ n s. refl }

maps-whether : {A B : Type 0} {f : A → B} (w : List ℕ) {p p' : S A} {q q' : S B} → Maps f p q → Maps f p' q' → Maps f (whether w p p') (whether w q q')
unfolding run
maps-whether {A} {B} {f} w {p} {p'} {q} {q'} h i = record { on = λ n s. go (after w s) n s }
  where
    go : (o : Option (List ℕ)) (n : ℕ) (s : List ℕ) → mapped f (ways o (λ r. run p n r) (run p' n s)) ≡ ways o (λ r. run q n r) (run q' n s)
    go none n s = i.on n s
    go (some r) n s = h.on n r

-- what is given, and then something made of it
pub maps_then : {A B C : Type 0} {f : A → B} {p : S A} {q : S B} (g : B → C) → Maps f p q → Maps (λ a. g (f a)) p (q >>= λ b. give (g b))
unfolding run
maps_then {A} {B} {C} {f} {p} {q} g h = record { on = λ n s. go (run p n s) ∙ ap (λ (x : Got B). and_then x (λ b m r. got (g b) m r)) (h.on n s) }
  where
    go : (x : Got A) → mapped (λ a. g (f a)) x ≡ and_then (mapped f x) (λ b m r. got (g b) m r)
    go (got a m r) = refl
    go (bad m) = refl

-- ---- where a reader stands

-- what is made of what a reader came to
pub came-maps : {T A B : Type 0} {f : A → B} {p : S A} {q : S B} (g : T → A) (x : Result T BadLine) (r r' : Reader) → Maps f p q → came g x r' ≡ runs r p
    → came (λ t. f (g t)) x r' ≡ runs r q
came-maps {f = f} g (Ok a) r r' h e = ap (mapped f) e ∙ h.on r.line r.rest.now
came-maps {f = f} g (Err b) r r' h e = ap (mapped f) e ∙ h.on r.line r.rest.now

pub mapped-mapped : {A B C : Type 0} (f : B → C) (g : A → B) (x : Got A) → mapped f (mapped g x) ≡ mapped (λ a. f (g a)) x
mapped-mapped f g (got a n s) = refl
mapped-mapped f g (bad n) = refl

pub mapped-alike : {A B : Type 0} (f g : A → B) (x : Got A) → ((a : A) → f a ≡ g a) → mapped f x ≡ mapped g x
mapped-alike f g (got a n s) h = ap (λ b. got b n s) (h a)
mapped-alike f g (bad n) h = refl

-- ---- rows in front of an array

module _ (n : ℕ) where
  field-front : (full : Bool) (k at : ℕ) (rows : List ℕ) → at < n → Maps (take n) (field_back full k at rows) (field_back full k at (take n rows))
  unfolding field_back
  field-front full k at rows h =
      let is = get_or-take n rows at 0 h in
      maps-whether (comma ∷ (field_of k).key)
      (maps-bind (maps_same (number (field_of k).least (field_of k).most))
      (λ v. rw is (maps-check (pick full true (not (eqb (get_or rows at 0) v))) (rw (sym (take-set-lt n rows at v h)) (maps-give (take n) (set rows at v))))))
      (maps-check (not full) (maps-give (take n) rows))

  fields-front : (full : Bool) (k at m : ℕ) (rows : List ℕ) → at + m ≤ n → Maps (take n) (fields_back full k at m rows) (fields_back full k at m (take n rows))
  unfolding fields_back
  fields-front full k at zero rows h = maps-give (take n) rows
  fields-front full k at (suc m) rows h = maps-bind (field-front full k at rows (omega arith)) (λ now. fields-front full (suc k) (suc at) m now (omega arith))

  entry-front : (full : Bool) (j : ℕ) (rows : List ℕ) → rows_bytes (j + 1) ≤ n → Maps (take n) (entry_back full j rows) (entry_back full j (take n rows))
  unfolding entry_back
  entry-front full j rows h =
      maps-bind (maps_same (peek comma))
      (λ u. maps-bind (fields-front full 0 (record_bytes * j) record_bytes rows (omega arith)) (λ now. maps-bind (maps_same end_line) (λ v. maps-give (take n) now)))

  pub entries-front : (full : Bool) (j m next : ℕ) (rows : List ℕ) → rows_bytes (j + m) ≤ n → Maps (take n) (entries_back full j m next rows) (entries_back full j m next (take n rows))
  unfolding entries_back
  entries-front full j zero next rows h = maps-check (eqb next no_object) (maps-give (take n) rows)
  entries-front full j (suc m) next rows h =
      maps-pick (eqb next j)
      (maps-bind (entry-front full j rows (omega arith))
      (λ now. maps-bind (maps_same next_object) (λ then. entries-front full (suc j) m then now (omega arith))))
      (maps-check (not full) (entries-front full (suc j) m next rows (omega arith)))
